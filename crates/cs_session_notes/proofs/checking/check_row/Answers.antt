-- `checking::check_row`: what `of_row` asks for.
use Rattle.cs_value.proofs.KeyedRows.{length-IsKeyedRow}
use Rattle.cs_session_notes.proofs.checking.check_row.Goals as goal

pub of_row-requires : goal.of_row-requires
of_row-requires c = length-IsKeyedRow c.flags-flags.result.now c.in-Some.row.now (c.is_keyed.ensures.keyed.0 c.if-is_keyed.true)
