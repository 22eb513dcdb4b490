-- `cursor::Cursor::new`: the clause `begins`.
use Rattle.cs_wire.proofs.CursorLemmas.{Begins-none}
use Rattle.cs_wire.proofs.cursor.Cursor.new.Goals as goal

pub returns-clause-begins : goal.returns-clause-begins
returns-clause-begins c = Begins-none c.args.file.now
