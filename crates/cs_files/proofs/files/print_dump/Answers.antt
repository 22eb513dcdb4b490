-- `files::print_dump`: the clauses `printed` and `interrupted`.
use Rattle.cs_file_texts.specs.Texts.{group_text}
use Rattle.cs_files.proofs.files.print_dump.Goals as goal

pub returns-clause-printed : goal.returns-clause-printed
unfolding group_text
returns-clause-printed g c = c.print_file.ensures.printed

pub returns-clause-interrupted : goal.returns-clause-interrupted
unfolding group_text
returns-clause-interrupted g c = c.print_file.ensures.interrupted
