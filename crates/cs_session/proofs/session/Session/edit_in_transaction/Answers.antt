-- `session::Session::edit_in_transaction`: the invariant of `self`, the clauses `same` and `rewound`.
use Rattle.std.proofs.Common.{map}
use Rattle.sqlite.specs.Held.{state}
use Rattle.cs_store.specs.Store.{tables_in}
use Rattle.cs_session_notes.specs.FirstImages.{Notes}
use Rattle.cs_session_notes.specs.Views.{attached_of}
use Rattle.cs_session.specs.Recording.{Records}
use Rattle.cs_session.proofs.EditLemmas.{records_rewound}
use Rattle.cs_session.proofs.SettleLemmas.{are_notes, on_notes, same_notes}
use Rattle.cs_session.proofs.session.Session.edit_in_transaction.Goals as goal

pub invariant_of-self : goal.invariant_of-self
invariant_of-self g c = (
  are_notes c.self.inside.tables c.edit_call-result.new.tables c.settle.new.self c.self.invariant.1 c.edit_call-result.ensures.notes c.edit_call-result.result c.is_ok.result (c.is_ok.ensures.value, c.settle.ensures.settled)
      c.self.invariant.0 c.edit_call-result.ensures.well_formed,
  c.settle.ensures.none_pending,
)

pub returns-clause-same : goal.returns-clause-same
returns-clause-same g c =
    rw (← c.self.view_is)
    (same_notes c.self.inside.tables c.edit_call-result.new.tables c.settle.new.self c.self.invariant.1 c.edit_call-result.ensures.notes c.edit_call-result.result c.is_ok.result (c.is_ok.ensures.value, c.settle.ensures.settled))

pub returns-clause-rewound : goal.returns-clause-rewound
returns-clause-rewound g c clean =
    let old = tables_in (state g.S.Store c.args.transaction.now).now in
    let new = tables_in (state g.S.Store c.edit_call-result.new.transaction).now in
    let r = c.edit_call-result.result in
    let recorded = on_notes c.self.inside.tables c.edit_call-result.new.tables c.settle.new.self c.self.invariant.1 c.edit_call-result.ensures.notes r c.is_ok.result (c.is_ok.ensures.value, c.settle.ensures.settled)
    (λ (notes : Notes). Records old c.args.edit.now (map attached_of c.self.inside.tables) new notes) (c.edit_call-result.ensures.recorded clean) in
    rw (← c.self.view_is) (records_rewound r old c.args.edit.now (map attached_of c.self.inside.tables) new (map attached_of c.settle.new.self) recorded)
