-- `selecting::write_selected`: the invariant of the loop, what it ensures.
use Rattle.std.proofs.Common.{List, ℕ, ◌++◌, ap, ◌∙◌}
use Rattle.cs_files.proofs.PassLemmas.{WritesTables-none, WritesTables-all}
use Rattle.cs_files.proofs.SelectLemmas.{group_text, selected_bytes, table_selected}
use Rattle.cs_files.proofs.selecting.write_selected.Goals as goal

pub tables-init : goal.tables-init
tables-init c = λ groups left. WritesTables-none (group_text c.args.names.now) c.args.out.now.items c.args.tables groups left

pub tables-preserved : goal.tables-preserved
tables-preserved c = λ groups left.
    let so = c.tables.invariant groups left in
    let is = c.in-Some.ensures.next so.passed.entries so.passed.others so.passed.are_left in
    let left = c.in_ok-write_if_named.ensures.left is.group.entries is.others is.are_left in
    table_selected c.args.names.now c.args.out.now.items c.tables.out.items c.write_if_named.new.out.items c.tables.left groups so c.in-Some.header c.next_table.new.self c.write_if_named.new.tables is left.0 left.1
    (c.in_ok-write_if_named.ensures.written is.group.entries is.others is.are_left)

pub returns : goal.returns
returns c = λ groups left.
    let so = c.tables.invariant groups left in
    let none = c.in_default.ensures.next so.passed.entries so.passed.others so.passed.are_left in
    WritesTables-all (group_text c.args.names.now) c.args.out.now.items c.tables.out.items c.tables.left groups so none.0
    ∙ ap (λ (l : List ℕ). c.args.out.now.items ++ l) (selected_bytes c.args.names.now groups)
