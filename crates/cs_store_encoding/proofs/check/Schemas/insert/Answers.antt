-- `check::Schemas::insert`: what it ensures.
use Rattle.std.proofs.Common.{◌∙◌, ap}
use Rattle.std.specs.FinMap as map
use Rattle.cs_value.proofs.ByteMaps.{seen_insert}
use Rattle.cs_store_encoding.proofs.check.Schemas.insert.Goals as goal

pub returns : goal.returns
returns c =
    seen_insert (λ k. k.items) (λ s. s) c.self.inside.by_name.entries c.insert.new.self.entries c.args.name c.args.schema c.in_ok-insert.ensures.entries
    ∙ ap (λ m. map.insert m c.args.name.items c.args.schema) c.self.view_is
