-- `hashed::HashedIndices::get`: what it ensures.
use Rattle.std.proofs.Common.{ap, ◌∙◌}
use Rattle.std.specs.Cow.{cow_slice_items}
use Rattle.std.specs.FinMap as map
use Rattle.cs_file_scan.proofs.HashedLemmas.{looked_up}
use Rattle.cs_file_scan.proofs.hashed.HashedIndices.get.Goals as goal

pub returns : goal.returns
returns c =
    c.copied.ensures ∙ c.get.ensures.value ∙ looked_up cow_slice_items c.args.text.now c.self.inside.indices.entries
    ∙ ap (λ m. map.get m c.args.text.now) c.self.view_is
