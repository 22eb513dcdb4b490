-- `tables::JoinedTables::write_to`: the invariant of the loop, what it ensures.
use Rattle.std.proofs.Common.{◌≡◌, ◌<◌, ◌≤◌, ◌++◌, List, length, get_or, sym, ap, ◌∙◌, subst, arith}
use Rattle.cs_wire.specs.Changeset.{GroupData, file_bytes}
use Rattle.cs_changegroup.specs.Slots.{AreTables, TableView, TablesView}
use Rattle.cs_changegroup.proofs.TableLemmas.{all_tables, no_table, table_written, view_in}
use Rattle.cs_changegroup.proofs.tables.JoinedTables.write_to.Goals as goal

pub loop-table-preserved : goal.loop-table-preserved
loop-table-preserved c = λ kept are.
    let inside = c.self.inside in
    let view : TablesView = record { tables = inside.tables.items; names = inside.names } in
    let files = c.args.files.now in
    let own : AreTables files view kept = subst (λ (t : TablesView). AreTables files t kept) (sym c.self.view_is) are in
    let index = c.loop-table.table-index in
    let v : TableView = c.table-item.result in
    let value : c.deref-table-items.result.now ≡ inside.tables.items = c.deref-table-items.ensures.value in
    let here : v ≡ get_or inside.tables.items index v = c.table-item.is ∙ ap (λ (ts : List TableView). get_or ts index v) value in
    let within : index < length inside.tables.items = subst (λ (ts : List TableView). index < length ts) value c.loop-table-test.true in
    let so_far = c.loop-table.invariant kept are in
    table_written files view kept own index within c.args.out.now.items c.loop-table.out.items so_far v here c.write_to.new.out.items
    (c.in_ok-write_to.ensures (get_or kept index no_table).entries (view_in files view kept own index within c.args.out.now.items c.loop-table.out.items so_far v here).slots)

pub returns : goal.returns
returns c = λ groups has.
    let inside = c.self.inside in
    let view : TablesView = record { tables = inside.tables.items; names = inside.names } in
    let own : AreTables c.args.files.now view has.kept = subst (λ (t : TablesView). AreTables c.args.files.now t has.kept) (sym c.self.view_is) has.are_tables in
    let over : length c.deref-table-items.result.now ≤ c.loop-table.table-index = omega (arith, c.loop-table-test.false) in
    let all : length inside.tables.items ≤ c.loop-table.table-index = subst (λ (ts : List TableView). length ts ≤ c.loop-table.table-index) c.deref-table-items.ensures.value over in
    c.loop-table.invariant has.kept has.are_tables
    ∙ ap (λ (gs : List GroupData). c.args.out.now.items ++ file_bytes gs) (all_tables c.args.files.now view has.kept own c.loop-table.table-index all ∙ sym has.groups_are)
