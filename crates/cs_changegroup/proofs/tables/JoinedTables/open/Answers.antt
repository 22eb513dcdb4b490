-- `tables::JoinedTables::open`: a new table.
use Rattle.std.proofs.Common.{◌≡◌, ◌∙◌, Some, length, true, true≢false, sym, ap, subst, arith}
use Rattle.cs_wire.specs.Changeset.{HeaderData}
use Rattle.cs_group.specs.Joining.{key_marks}
use Rattle.cs_changegroup.specs.Slots.{AreTables, IsPartner, KeptTable, NoneLives, TableView, TablesView, if_some, kept_name}
use Rattle.cs_changegroup.proofs.TableLemmas.{agrees_known, pushed_opens, view_there}
use Rattle.cs_changegroup.proofs.tables.JoinedTables.open.Goals as goal
use Rattle.cs_changegroup.proofs.tables.JoinedTables.open.Goals.{in-Some+else-have_same_columns, in_default}

pub returns-clause-opened : goal.returns-clause-opened
returns-clause-opened c = λ files kept group are is agrees.
    let inside = c.self.inside in
    let view : TablesView = record { tables = inside.tables.items; names = inside.names } in
    let own : AreTables files view kept = subst (λ (t : TablesView). AreTables files t kept) (sym c.self.view_is) are in
    let name : c.args.header.now.name.now ≡ group.header.name = ap (λ (h : HeaderData). h.name) is in
    let none : NoneLives if_some kept_name kept group.header.name = rw (← name) (elim c.match-partner.branch [
      | in-Some+else-have_same_columns w ↦
          let partner : IsPartner kept c.args.header.now.name.now (Some w.in-Some.index) = rw w.in-Some.is at (c.partner.ensures.partner files kept are) in
          let table : KeptTable = partner.0 in
          let flags : w.flags.result.now ≡ table.header.flags =
          w.flags.ensures.same ∙ ap (λ (h : HeaderData). h.flags) w.header.ensures ∙ ap (λ (v : TableView). v.header.flags) w.index.ensures
          ∙ ap (λ (h : HeaderData). h.flags) (view_there files view kept own w.in-Some.index partner.1 w.index.result.now table).header ∙ ap (λ (t : KeptTable). t.header.flags) (sym partner.2) in
          let others : c.args.header.now.flags.now ≡ group.header.flags = ap (λ (h : HeaderData). h.flags) is in
          let yes : w.have_same_columns.result ≡ true = w.have_same_columns.ensures.1 (ap key_marks flags ∙ agrees_known kept group w.in-Some.index table are.once partner.1 partner.2 partner.4 (partner.3 ∙ name) agrees ∙ ap key_marks (sym others)) in
          absurd (true≢false (sym yes ∙ w.if-have_same_columns.false))
      | in_default w ↦ rw w.in_default.is at (c.partner.ensures.partner files kept are)
    ]) in
    let long : c.len-index.result ≡ length inside.tables.items = omega (arith, c.len-index.ensures) in
    pushed_opens files c.args.self.now c.push.new.self kept are _ c.requires c.in_ok-push.ensures group is none c.len-index.result (long ∙ ap (λ (t : TablesView). length t.tables) c.self.view_is)
