-- `check::Schemas::get`: what it ensures.
use Rattle.std.specs.Option.{option_copied}
use Rattle.cs_value.proofs.ByteMaps.{got_seen}
use Rattle.cs_rows.proofs.Found.{seen}
use Rattle.cs_store_encoding.proofs.check.Schemas.get.Goals as goal

pub returns : goal.returns
returns c = seen (got_seen (λ k. k.items) (λ s. s) (option_copied c.get.result) c.self.inside.by_name.entries c.args.name.now c.args.self.now c.get.ensures.value c.self.view_is)
