-- `files::concat_bytes`: what it ensures.
use Rattle.std.proofs.Common.{◌≡◌}
use Rattle.std.proofs.lemmas.Result.{err_from_is_err_and}
use Rattle.cs_wire.specs.Changeset.{file_bytes}
use Rattle.cs_file_scan.specs.Named.{IsListing}
use Rattle.cs_group.specs.Joining.{joined}
use Rattle.cs_files.proofs.JoiningLemmas.{join_refused, joins, read_is, second_refused}
use Rattle.cs_files.proofs.files.concat_bytes.Goals as goal

pub returns-in_err-added-clause-refused : goal.returns-in_err-added-clause-refused
returns-in_err-added-clause-refused c =
    let one = read_is _ c.read.result c.in_ok-known.known (IsListing c.args.first.now) c.in_ok-known.ensures.cases c.read.ensures.found in
    let p = err_from_is_err_and c.from_residual-in_err-added.result c.from_residual-in_err-added.ensures.1 in
    rw (p.1, p.2) (second_refused c.args.first.now c.args.second.now c.read-2.result c.in_err-added.field-0.0 (one.0, one.1.0, one.1.1) c.in_err-added.ensures.cases c.read-2.ensures.refused)

pub returns-in_err-join_tables-clause-refused : goal.returns-in_err-join_tables-clause-refused
returns-in_err-join_tables-clause-refused c =
    let one = read_is _ c.read.result c.in_ok-known.known (IsListing c.args.first.now) c.in_ok-known.ensures.cases c.read.ensures.found in
    let other = read_is _ c.read-2.result c.in_ok-added.added (IsListing c.args.second.now) c.in_ok-added.ensures.cases c.read-2.ensures.found in
    let p = err_from_is_err_and c.from_residual-in_err-join_tables.result c.from_residual-in_err-join_tables.ensures.1 in
    rw (p.1, p.2) (join_refused c.args.first.now c.args.second.now one.0 other.0 one.1 other.1 c.in_err-join_tables.field-0.0 (c.in_err-join_tables.ensures.refused one.0 other.0 one.2 other.2 one.1.0 other.1.0))

pub returns-clause-joined : goal.returns-clause-joined
returns-clause-joined c =
    let one = read_is _ c.read.result c.in_ok-known.known (IsListing c.args.first.now) c.in_ok-known.ensures.cases c.read.ensures.found in
    let other = read_is _ c.read-2.result c.in_ok-added.added (IsListing c.args.second.now) c.in_ok-added.ensures.cases c.read-2.ensures.found in
    let join = c.in_ok-join_tables.ensures in
    let written : c.in_ok-join_tables.field-0.items ≡ file_bytes (joined one.0 other.0) = join.joined one.0 other.0 one.2 other.2 one.1.0 other.1.0 in
    (joins c.args.first.now c.args.second.now c.in_ok-join_tables.field-0.items one.0 other.0 one.1 other.1 (join.joinable one.0 other.0 one.2 other.2 one.1.0 other.1.0) written).0

pub returns-clause-length : goal.returns-clause-length
returns-clause-length c =
    let one = read_is _ c.read.result c.in_ok-known.known (IsListing c.args.first.now) c.in_ok-known.ensures.cases c.read.ensures.found in
    let other = read_is _ c.read-2.result c.in_ok-added.added (IsListing c.args.second.now) c.in_ok-added.ensures.cases c.read-2.ensures.found in
    let join = c.in_ok-join_tables.ensures in
    let written : c.in_ok-join_tables.field-0.items ≡ file_bytes (joined one.0 other.0) = join.joined one.0 other.0 one.2 other.2 one.1.0 other.1.0 in
    (joins c.args.first.now c.args.second.now c.in_ok-join_tables.field-0.items one.0 other.0 one.1 other.1 (join.joinable one.0 other.0 one.2 other.2 one.1.0 other.1.0) written).1
