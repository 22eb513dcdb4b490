-- `checking::check_named`: the clauses `attached` and `refused`.
use Rattle.std.proofs.Common.{◌≡◌}
use Rattle.std.proofs.lemmas.Result.{IfErr-weaker}
use Rattle.cs_session_notes.specs.FirstImages.{AttachedTable, HasAttached}
use Rattle.cs_session_notes.specs.Views.{attached_of}
use Rattle.cs_value.proofs.ListLemmas.{Any-map_at}
use Rattle.cs_session_notes.proofs.EntriesLemmas.{refuses_named}
use Rattle.cs_session_notes.proofs.TablesLemmas.{item_named, ok_named}
use Rattle.cs_session_notes.proofs.checking.check_named.Goals as goal

pub returns-in-Some-clause-attached : goal.returns-in-Some-clause-attached
returns-in-Some-clause-attached g c = λ honest.
    let is = rw c.as_slice.ensures at c.index-as_slice-index.is in
    ok_named c.args.tables.now c.args.name.now c.in-Some.index c.in-Some.ensures.found c.index-as_slice-index.result is
    c.check_table.result (HasAttached (g.B.Rows.state c.args.rows.now)) c.requires (c.check_table.ensures.attached honest)

pub returns-in-Some-clause-refused : goal.returns-in-Some-clause-refused
returns-in-Some-clause-refused g c = λ honest.
    let state = g.B.Rows.state c.args.rows.now in
    let tables = c.args.tables.now in
    let name = c.args.name.now in
    let found = c.in-Some.ensures.found in
    let item = c.index-as_slice-index.result in
    let is = rw c.as_slice.ensures at c.index-as_slice-index.is in
    let named = item_named tables name c.in-Some.index found item is in
    let lacks = Any-map_at tables c.in-Some.index item found.0 is attached_of (λ (t : AttachedTable). (t.name ≡ name) × (¬ HasAttached state t)) in
    IfErr-weaker c.check_table.result _ _ (λ e refused. refuses_named state name _ (attached_of item) e (λ fails. lacks (named, fails)) refused) (c.check_table.ensures.refused honest)
