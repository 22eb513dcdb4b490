-- `words::print_usage`: the clause `front`.
use Rattle.cs_file_texts.proofs.WriteLemmas.{Writes-front}
use Rattle.cs_shell.proofs.words.print_usage.Goals as goal

pub returns-clause-front : goal.returns-clause-front
returns-clause-front g c = Writes-front _ _ _ _ _ _ c.as_bytes.ensures.value c.write_whole.ensures.writes
