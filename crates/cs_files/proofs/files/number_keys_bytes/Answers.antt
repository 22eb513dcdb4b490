-- `files::number_keys_bytes`: the clauses `numbered` and `length`.
use Rattle.cs_files.proofs.NumberLemmas.{file_numbered}
use Rattle.cs_files.proofs.files.number_keys_bytes.Goals as goal

pub returns-clause-numbered : goal.returns-clause-numbered
returns-clause-numbered c =
    let found = c.in_ok-tables.ensures.found in
    (file_numbered c.args.file.now _ found.0 found.1 (rw c.in_ok-out.ensures.items at c.in_ok-write_numbered.ensures found.0 found.2)).0

pub returns-clause-length : goal.returns-clause-length
returns-clause-length c =
    let found = c.in_ok-tables.ensures.found in
    (file_numbered c.args.file.now _ found.0 found.1 (rw c.in_ok-out.ensures.items at c.in_ok-write_numbered.ensures found.0 found.2)).1
