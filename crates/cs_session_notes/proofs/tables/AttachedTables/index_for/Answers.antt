-- `tables::AttachedTables::index_for`: what it ensures.
use Rattle.std.proofs.Common.{◌≢◌, Bool, Ok, Err, sym, ◌∙◌}
use Rattle.std.proofs.lemmas.List.Elements.{recursion_from_All}
use Rattle.std.proofs.lemmas.Result.{err_from_is_err_and}
use Rattle.cs_rows.specs.Editing.{written_of}
use Rattle.cs_session_notes.specs.declared.fault.SessionFault.{SessionFault}
use Rattle.cs_session_notes.specs.FirstImages.{AttachedTable}
use Rattle.cs_session_notes.proofs.TablesLemmas.{none_noted, none_formers, new_at, index_there, index_formers, index_refused}
use Rattle.cs_session_notes.proofs.tables.AttachedTables.index_for.Goals as goal

pub returns-in_default-clause-nowhere : goal.returns-in_default-clause-nowhere
returns-in_default-clause-nowhere c =
    let w = written_of c.args.one.now in
    let none = rw (c.in_default.is, c.as_str.ensures.value) at c.index_of.ensures.none in
    sym (none_noted w _ (recursion_from_All (λ (t : AttachedTable). t.name ≢ w.table) _ none))

pub returns-in_default-clause-formers : goal.returns-in_default-clause-formers
returns-in_default-clause-formers c =
    let w = written_of c.args.one.now in
    let none = rw (c.in_default.is, c.as_str.ensures.value) at c.index_of.ensures.none in
    none_formers w _ (recursion_from_All (λ (t : AttachedTable). t.name ≢ w.table) _ none)

pub returns-in_err-was_noted-clause-refused : goal.returns-in_err-was_noted-clause-refused
returns-in_err-was_noted-clause-refused c =
    let found = rw (← c.self.view_is, c.as_str.ensures.value) at c.in-Some.ensures.found in
    let p = err_from_is_err_and c.from_residual.result c.from_residual.ensures.1 in
    rw (p.1, p.2, ← c.self.view_is)
    (index_refused c.self.inside.tables.items _ c.in-Some.index found c.index.result.now c.index.ensures (rw (← c.self.view_is) at c.requires) c.args.one.now.key c.args.one.now.former
    {X = Bool} (Err c.in_err-was_noted.field-0.0) (rw c.as_ref.ensures.value at c.in_err-was_noted.ensures.refused))

pub returns-then-was_noted-clause-nowhere : goal.returns-then-was_noted-clause-nowhere
returns-then-was_noted-clause-nowhere c =
    let found = rw (← c.self.view_is, c.as_str.ensures.value) at c.in-Some.ensures.found in
    rw (← c.self.view_is)
    (index_there c.self.inside.tables.items _ c.in-Some.index found c.index.result.now c.index.ensures (rw (← c.self.view_is) at c.requires) c.args.one.now.key c.args.one.now.former
    (sym c.in_ok-was_noted.ensures.noted ∙ c.if-was_noted.true))

pub returns-then-was_noted-clause-formers : goal.returns-then-was_noted-clause-formers
returns-then-was_noted-clause-formers c =
    let found = rw (← c.self.view_is, c.as_str.ensures.value) at c.in-Some.ensures.found in
    rw (← c.self.view_is)
    (index_formers c.self.inside.tables.items _ c.in-Some.index found c.index.result.now c.index.ensures (rw (← c.self.view_is) at c.requires) c.args.one.now.key c.args.one.now.former
    {X = Bool} {E = SessionFault} (Ok c.in_ok-was_noted.was_noted) (rw c.as_ref.ensures.value at c.in_ok-was_noted.ensures.fits))

pub returns-clause-new : goal.returns-clause-new
returns-clause-new c =
    let found = rw (← c.self.view_is, c.as_str.ensures.value) at c.in-Some.ensures.found in
    rw (← c.self.view_is)
    (new_at c.self.inside.tables.items _ c.in-Some.index found c.index.result.now c.index.ensures c.args.one.now.key (sym c.in_ok-was_noted.ensures.noted ∙ c.if-was_noted.false))

pub returns-clause-formers : goal.returns-clause-formers
returns-clause-formers c =
    let found = rw (← c.self.view_is, c.as_str.ensures.value) at c.in-Some.ensures.found in
    rw (← c.self.view_is)
    (index_formers c.self.inside.tables.items _ c.in-Some.index found c.index.result.now c.index.ensures (rw (← c.self.view_is) at c.requires) c.args.one.now.key c.args.one.now.former
    {X = Bool} {E = SessionFault} (Ok c.in_ok-was_noted.was_noted) (rw c.as_ref.ensures.value at c.in_ok-was_noted.ensures.fits))
