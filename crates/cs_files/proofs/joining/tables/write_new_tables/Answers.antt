-- `joining::tables::write_new_tables`: the invariant of the loop, what it ensures.
use Rattle.std.proofs.Common.{◌++◌, [], suc, drop, ap, arith}
use Rattle.cs_wire.specs.Changeset.{GroupData, group_bytes}
use Rattle.cs_group.specs.Joining.{if_new, table_name}
use Rattle.cs_files.specs.Writing.{some_bytes}
use Rattle.cs_file_scan.proofs.NamedLemmas.{tables_length}
use Rattle.cs_files.proofs.JoiningLemmas.{new_flat, group_at, group_within, group_at_is, group_under, table_of_group}
use Rattle.cs_files.proofs.PassLemmas.{written_next, written_last}
use Rattle.cs_files.proofs.joining.tables.write_new_tables.Goals as goal

pub loop-index-preserved : goal.loop-index-preserved
loop-index-preserved c = λ groups others known is added.
    let index = c.loop-index.index in
    let named = c.args.added.now in
    let lt = rw c.len-index-end.ensures at c.loop-index-test.true in
    let group = group_at named others added index lt in
    let text = λ (g : GroupData). some_bytes group_bytes (if_new table_name groups g) in
    written_next text others index c.args.out.now.items c.loop-index.out.items (c.loop-index.invariant groups others known is added) group c.write_new_table.new.out.items _
    (group_within named others added index lt) (group_at_is named others added index lt)
    (c.in_ok-write_new_table.ensures group.entries groups (drop (suc index) others ++ []) known is (rw c.open.ensures (table_of_group named others added index lt).are_left))
    (ap text (group_under named others added index lt _ c.header.ensures.same))

pub returns : goal.returns
returns c = λ groups others known is added.
    let named = c.args.added.now in
    written_last (λ g. some_bytes group_bytes (if_new table_name groups g)) others c.loop-index.index c.args.out.now.items c.loop-index.out.items (c.loop-index.invariant groups others known is added) _
    (omega (arith, c.loop-index-test.false, c.len-index-end.ensures, tables_length named.file named.tables others [] added)) (new_flat group_bytes table_name groups others)
