-- `indices::Indices::insert`: the clause `ok`.
use Rattle.std.proofs.Common.{◌∙◌, ap}
use Rattle.std.specs.FinMap as map
use Rattle.cs_value.proofs.ByteMaps.{seen_insert}
use Rattle.cs_wire.proofs.indices.Indices.insert.Goals as goal

pub returns-clause-ok : goal.returns-clause-ok
returns-clause-ok c =
    seen_insert (λ k. k.items) (λ v. v) c.self.inside.indices.entries c.insert.new.self.entries c.args.text c.args.index c.in_ok-insert.ensures.entries
    ∙ ap (λ m. map.insert m c.args.text.items c.args.index) c.self.view_is
