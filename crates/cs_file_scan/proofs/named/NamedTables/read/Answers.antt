-- `named::NamedTables::read`: the clause `found`.
use Rattle.std.proofs.Common.{[]}
use Rattle.cs_file_scan.proofs.named.NamedTables.read.Goals as goal

pub returns-clause-found : goal.returns-clause-found
returns-clause-found c =
    let found = c.in_ok-read.ensures.found in
    (found.0, found.1, c.in_ok-list.ensures.listed [] found.0 found.2)
