-- `files::print_file`: the clause `interrupted`.
use Rattle.cs_file_texts.specs.Forms.{form_text}
use Rattle.cs_files.proofs.PrintLemmas.{front_printed}
use Rattle.cs_files.proofs.files.print_file.Goals as goal

pub returns-in_err-write_tables-clause-interrupted : goal.returns-in_err-write_tables-clause-interrupted
returns-in_err-write_tables-clause-interrupted g c =
    let found = c.in_ok-tables.ensures.found in
    front_printed g.W.Write.contents (form_text c.args.form) c.args.file.now c.args.out.now c.write_tables.new.out _ found.0 found.1 (c.in_err-write_tables.ensures found.0 found.2).wrote
