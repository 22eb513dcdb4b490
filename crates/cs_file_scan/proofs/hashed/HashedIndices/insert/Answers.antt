-- `hashed::HashedIndices::insert`: the clause `ok`.
use Rattle.std.proofs.Common.{ap, ◌∙◌}
use Rattle.std.specs.Cow.{cow_slice_items}
use Rattle.std.specs.FinMap as map
use Rattle.cs_file_scan.proofs.HashedLemmas.{as_map, is_inserted}
use Rattle.cs_file_scan.proofs.hashed.HashedIndices.insert.Goals as goal

pub returns-clause-ok : goal.returns-clause-ok
returns-clause-ok c =
    ap (as_map cow_slice_items) c.in_ok-insert.ensures.entries ∙ is_inserted cow_slice_items c.args.text c.args.index c.self.inside.indices.entries
    ∙ ap (λ m. map.insert m (cow_slice_items c.args.text) c.args.index) c.self.view_is
