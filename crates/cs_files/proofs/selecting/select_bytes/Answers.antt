-- `selecting::select_bytes`: the clauses `selected` and `length`.
use Rattle.cs_files.proofs.SelectLemmas.{file_selected}
use Rattle.cs_files.proofs.selecting.select_bytes.Goals as goal

pub returns-clause-selected : goal.returns-clause-selected
returns-clause-selected c =
    let found = c.in_ok-tables.ensures.found in
    (file_selected c.args.names.now c.args.file.now _ found.0 found.1 (rw c.in_ok-out.ensures.items at (c.in_ok-write_selected.ensures found.0 found.2))).0

pub returns-clause-length : goal.returns-clause-length
returns-clause-length c =
    let found = c.in_ok-tables.ensures.found in
    (file_selected c.args.names.now c.args.file.now _ found.0 found.1 (rw c.in_ok-out.ensures.items at (c.in_ok-write_selected.ensures found.0 found.2))).1
