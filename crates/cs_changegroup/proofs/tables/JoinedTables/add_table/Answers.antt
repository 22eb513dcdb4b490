-- `tables::JoinedTables::add_table`: what it ensures.
use Rattle.std.proofs.Common.{◌≡◌, set, get_or, refl, sym, ap, ◌∙◌}
use Rattle.std.proofs.lemmas.List.{get_or_default}
use Rattle.cs_wire.specs.Changeset.{GroupData}
use Rattle.cs_wire.specs.Headers.{header_of}
use Rattle.cs_group.specs.Joining.{key_marks}
use Rattle.cs_changegroup.specs.Slots.{OpensTable, TableView, TablesView, no_view}
use Rattle.cs_changegroup.proofs.SlotLemmas.{ok_then}
use Rattle.cs_changegroup.proofs.TableLemmas.{adds_group, apart_under}
use Rattle.cs_changegroup.proofs.tables.JoinedTables.add_table.Goals as goal

pub returns : goal.returns
returns c = λ kept entries behind are left is agrees.
    let inside = c.self.inside in
    let view : TablesView = c.open.new.self in
    let index = c.in_ok-index.index in
    let group : GroupData = record { header = header_of c.args.header.now; entries = entries } in
    let opens : OpensTable c.args.files.now kept group view index = c.in_ok-index.ensures.opened c.args.files.now kept group are refl agrees in
    let v : TableView = c.index_mut.result.now in
    let w : TableView = c.add_entries.new.table in
    let v_is : v ≡ get_or view.tables index v = c.index_mut.ensures.value ∙ ap (λ (t : TablesView). get_or t.tables index v) c.self.view_is in
    let there : get_or view.tables index no_view ≡ v = get_or_default view.tables index no_view v c.in_ok-index.ensures.within ∙ sym v_is in
    let flags : key_marks c.args.header.now.flags.now ≡ key_marks v.header.flags = c.in_ok-index.ensures.agree ∙ ap (λ (t : TableView). key_marks t.header.flags) there in
    ok_then c.add_entries.result (c.add_entries.ensures.added entries behind left (apart_under c.args.header.now.flags.now v.header.flags entries flags is.once))
    (λ adds.
    adds_group c.args.files.now kept group view _ index are.once is.some opens v w v_is c.add_entries.ensures.header (ap (λ (t : TablesView). set t.tables index w) c.self.view_is) (ap (λ (t : TablesView). t.names) c.self.view_is) adds)
