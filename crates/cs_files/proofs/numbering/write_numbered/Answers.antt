-- `numbering::write_numbered`: the invariant of the loop, what it ensures.
use Rattle.std.proofs.Common.{◌++◌, sym, ap, ◌∙◌}
use Rattle.std.proofs.lemmas.List.Folds.{flat_map-map}
use Rattle.cs_wire.specs.Changeset.{group_bytes}
use Rattle.cs_group.specs.Numbering.{numbered_group}
use Rattle.cs_files.proofs.NumberLemmas.{numbered_table}
use Rattle.cs_files.proofs.PassLemmas.{WritesTables-none, WritesTables-all}
use Rattle.cs_files.proofs.numbering.write_numbered.Goals as goal

pub tables-init : goal.tables-init
tables-init c = λ groups left. WritesTables-none (λ g. group_bytes (numbered_group g)) c.args.out.now.items c.args.tables groups left

pub tables-preserved : goal.tables-preserved
tables-preserved c = λ groups left.
    let so = c.tables.invariant groups left in
    let is = c.in-Some.ensures.next so.passed.entries so.passed.others so.passed.are_left in
    let opened = is.are_left in
    numbered_table c.args.out.now.items c.tables.out.items c.write_numbered_header.new.out.items c.write_entries.new.out.items c.tables.left groups so c.in-Some.header c.next_table.new.self c.write_entries.new.tables is
    c.in_ok-write_numbered_header.ensures (c.in_ok-write_entries.ensures.written is.group.entries is.others opened) (c.in_ok-write_entries.ensures.left is.group.entries is.others opened)

pub returns : goal.returns
returns c = λ groups left.
    let so = c.tables.invariant groups left in
    let none = c.in_default.ensures.next so.passed.entries so.passed.others so.passed.are_left in
    WritesTables-all (λ g. group_bytes (numbered_group g)) c.args.out.now.items c.tables.out.items c.tables.left groups so none.0
    ∙ ap (λ l. c.args.out.now.items ++ l) (sym (flat_map-map group_bytes numbered_group groups))
