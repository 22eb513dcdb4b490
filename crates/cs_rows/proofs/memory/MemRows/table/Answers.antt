-- `memory::MemRows::table`: what it ensures.
use Rattle.std.specs.String.{string_bytes}
use Rattle.std.specs.Option.{option_copied}
use Rattle.cs_value.proofs.ByteMaps.{got_seen}
use Rattle.cs_rows.proofs.Found.{seen}
use Rattle.cs_rows.proofs.memory.MemRows.table.Goals as goal

pub returns : goal.returns
returns c = seen (got_seen string_bytes (λ t. t) (option_copied c.get.result) c.self.inside.tables.entries c.args.name.now c.args.self.now c.get.ensures.value c.self.view_is)
