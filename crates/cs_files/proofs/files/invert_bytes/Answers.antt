-- `files::invert_bytes`: the clauses `inverted` and `length`.
use Rattle.cs_files.proofs.InvertLemmas.{inverted, visited_inverted}
use Rattle.cs_files.proofs.files.invert_bytes.Goals as goal

pub returns-in_default-clause-inverted : goal.returns-in_default-clause-inverted
returns-in_default-clause-inverted c = (visited_inverted c.args.file.now c.in_ok-with_capacity.field-0.items _ c.in_ok-with_capacity.ensures.items (rw c.in_default.is at c.in_ok-tables.ensures.visited)).0

pub returns-in_default-clause-length : goal.returns-in_default-clause-length
returns-in_default-clause-length c = (visited_inverted c.args.file.now c.in_ok-with_capacity.field-0.items _ c.in_ok-with_capacity.ensures.items (rw c.in_default.is at c.in_ok-tables.ensures.visited)).1

pub returns-clause-inverted : goal.returns-clause-inverted
returns-clause-inverted c =
    let found = rw c.in-Some.is at c.in_ok-tables.ensures.unvisited in
    (inverted c.args.file.now _ found.0 found.1 (rw c.clear.ensures.items at c.in_ok-write_inverse.ensures found.0 found.2)).0

pub returns-clause-length : goal.returns-clause-length
returns-clause-length c =
    let found = rw c.in-Some.is at c.in_ok-tables.ensures.unvisited in
    (inverted c.args.file.now _ found.0 found.1 (rw c.clear.ensures.items at c.in_ok-write_inverse.ensures found.0 found.2)).1
