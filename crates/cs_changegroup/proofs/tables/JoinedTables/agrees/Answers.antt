-- `tables::JoinedTables::agrees`: what it ensures.
use Rattle.std.proofs.Common.{◌≡◌, refl, sym, ap, ◌∙◌, subst}
use Rattle.std.specs.Prelude.{◌↔◌, IsTrue}
use Rattle.cs_wire.specs.Changeset.{HeaderData}
use Rattle.cs_group.specs.Joining.{key_marks}
use Rattle.cs_changegroup.specs.Slots.{AreTables, KeptTable, NoneLives, TableView, TablesView, if_some, kept_name}
use Rattle.cs_changegroup.proofs.TableLemmas.{agrees_known, known_agrees, unknown_agrees, view_there}
use Rattle.cs_changegroup.proofs.tables.JoinedTables.agrees.Goals as goal

pub returns-in-None : goal.returns-in-None
returns-in-None c = λ files groups group has is.
    let name : c.args.header.now.name.now ≡ group.header.name = ap (λ (h : HeaderData). h.name) is in
    let none : NoneLives if_some kept_name has.kept group.header.name = rw name at (c.in-None.ensures.partner files has.kept has.are_tables) in
    rw has.groups_are (λ _. unknown_agrees has.kept group none, λ _. refl)

pub returns-in-Some : goal.returns-in-Some
returns-in-Some c = λ files groups group has is.
    let inside = c.self.inside in
    let view : TablesView = record { tables = inside.tables.items; names = inside.names } in
    let own : AreTables files view has.kept = subst (λ (t : TablesView). AreTables files t has.kept) (sym c.self.view_is) has.are_tables in
    let partner = c.in-Some.ensures.partner files has.kept has.are_tables in
    let table : KeptTable = partner.0 in
    let name : kept_name table ≡ group.header.name = partner.3 ∙ ap (λ (h : HeaderData). h.name) is in
    let flags : c.flags.result.now ≡ table.header.flags =
    c.flags.ensures.same ∙ ap (λ (h : HeaderData). h.flags) c.header.ensures ∙ ap (λ (v : TableView). v.header.flags) c.index.ensures
    ∙ ap (λ (h : HeaderData). h.flags) (view_there files view has.kept own c.in-Some.index partner.1 c.index.result.now table).header ∙ ap (λ (t : KeptTable). t.header.flags) (sym partner.2) in
    let others : c.args.header.now.flags.now ≡ group.header.flags = ap (λ (h : HeaderData). h.flags) is in
    let same : IsTrue c.have_same_columns.result ↔ (key_marks table.header.flags ≡ key_marks group.header.flags) = rw (flags, others) at c.have_same_columns.ensures in
    rw has.groups_are (
      λ yes. known_agrees has.kept group c.in-Some.index table has.are_tables.once partner.1 partner.2 partner.4 name (same.0 yes),
      λ all. same.1 (agrees_known has.kept group c.in-Some.index table has.are_tables.once partner.1 partner.2 partner.4 name all),
    )
