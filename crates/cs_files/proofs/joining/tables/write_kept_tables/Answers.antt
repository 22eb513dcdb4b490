-- `joining::tables::write_kept_tables`: the invariant of the loop, what it ensures.
use Rattle.std.proofs.Common.{◌++◌, [], suc, drop, ap, arith}
use Rattle.cs_wire.specs.Changeset.{GroupData, group_bytes}
use Rattle.cs_group.specs.Joining.{joined_group, outcome, table_name}
use Rattle.cs_files.specs.Writing.{some_bytes}
use Rattle.cs_file_scan.proofs.NamedLemmas.{tables_length}
use Rattle.cs_files.proofs.JoiningLemmas.{some_flat, group_at, group_within, group_at_is, group_under, group_asked, table_of_group}
use Rattle.cs_files.proofs.PassLemmas.{written_next, written_last}
use Rattle.cs_files.proofs.joining.tables.write_kept_tables.Goals as goal

pub loop-index-preserved : goal.loop-index-preserved
loop-index-preserved c = λ groups others known added is joinable.
    let index = c.loop-index.index in
    let named = c.args.known.now in
    let lt = rw c.len-index-end.ensures at c.loop-index-test.true in
    let group = group_at named groups known index lt in
    let text = λ (g : GroupData). some_bytes group_bytes (outcome table_name joined_group others g) in
    written_next text groups index c.args.out.now.items c.loop-index.out.items (c.loop-index.invariant groups others known added is joinable) group c.write_kept_table.new.out.items _
    (group_within named groups known index lt) (group_at_is named groups known index lt)
    (c.in_ok-write_kept_table.ensures group.entries (drop (suc index) groups ++ []) others (rw c.open.ensures (table_of_group named groups known index lt).are_left) added is
    (group_asked named groups known index lt others _ joinable c.header.ensures.same))
    (ap text (group_under named groups known index lt _ c.header.ensures.same))

pub returns : goal.returns
returns c = λ groups others known added is joinable.
    let named = c.args.known.now in
    written_last (λ g. some_bytes group_bytes (outcome table_name joined_group others g)) groups c.loop-index.index c.args.out.now.items c.loop-index.out.items (c.loop-index.invariant groups others known added is joinable) _
    (omega (arith, c.loop-index-test.false, c.len-index-end.ensures, tables_length named.file named.tables groups [] known)) (some_flat group_bytes (outcome table_name joined_group others) groups)
