-- `session::Session::attach`: what `push` asks for, the clauses `refused`, `named`, `shut`, `attached` and `rewound`.
use Rattle.std.proofs.Common.{inl, inr, refl, sym, ◌∙◌}
use Rattle.std.proofs.lemmas.Result.{err_from_is_err_and}
use Rattle.cs_value.specs.Table.{IsName}
use Rattle.cs_session_notes.specs.Attaching.{IsNewTable}
use Rattle.cs_session.proofs.AttachLemmas.{read_refused, attached_where_some, new_where_none, attaches, attached_rewound}
use Rattle.cs_session.proofs.session.Session.attach.Goals as goal

pub returns-then-is_some-clause-refused : goal.returns-then-is_some-clause-refused
returns-then-is_some-clause-refused g c = λ clean.
    rw (← c.self.view_is) (attached_where_some c.args.name.now c.self.inside.tables c.index_of.result (sym c.is_some.ensures ∙ c.if-is_some.true) c.index_of.ensures.found)

pub returns-then-is_some-clause-shut : goal.returns-then-is_some-clause-shut
returns-then-is_some-clause-shut g c = λ clean shut. inl (refl, returns-then-is_some-clause-refused g c clean)

pub returns-in_err-schema-clause-named : goal.returns-in_err-schema-clause-named
returns-in_err-schema-clause-named g c =
    let p = err_from_is_err_and c.from_residual.result c.from_residual.ensures.1 in
    rw (p.1, p.2) (read_refused c.in_err-schema.field-0.0 c.in_err-schema.ensures.named)

pub push-requires-clause-fresh : goal.push-requires-clause-fresh
push-requires-clause-fresh g c =
    rw (← c.self.view_is) (new_where_none c.args.name.now c.self.inside.tables c.index_of.result (sym c.is_some.ensures ∙ c.if-is_some.false) c.index_of.ensures.none)

pub returns-clause-attached : goal.returns-clause-attached
returns-clause-attached g c = λ clean.
    let fresh : IsNewTable c.args.self.now c.args.name.now = rw (← c.self.view_is) (new_where_none c.args.name.now c.self.inside.tables c.index_of.result (sym c.is_some.ensures ∙ c.if-is_some.false) c.index_of.ensures.none) in
    attaches c.push.result _ c.args.name.now c.args.self.now c.push.new.self c.in-Some.schema (sym (c.in_ok-schema.ensures.found clean) ∙ c.in-Some.is) fresh c.push.ensures.pushed

pub returns-in_default-clause-refused : goal.returns-in_default-clause-refused
returns-in_default-clause-refused g c = λ clean.
    let fresh : IsNewTable c.args.self.now c.args.name.now = rw (← c.self.view_is) (new_where_none c.args.name.now c.self.inside.tables c.index_of.result (sym c.is_some.ensures ∙ c.if-is_some.false) c.index_of.ensures.none) in
    inl (fresh, refl, inl (sym (c.in_ok-schema.ensures.found clean) ∙ c.in_default.is))

pub returns-then-not-is_table_name-clause-refused : goal.returns-then-not-is_table_name-clause-refused
returns-then-not-is_table_name-clause-refused g c = λ clean.
    let fresh : IsNewTable c.args.self.now c.args.name.now = rw (← c.self.view_is) (new_where_none c.args.name.now c.self.inside.tables c.index_of.result (sym c.is_some.ensures ∙ c.if-is_some.false) c.index_of.ensures.none) in
    let unnamed : IsName c.args.name.now → ⊥ = λ named. let e = c.if-not-is_table_name.ensures.1 named in cc in
    inl (fresh, refl, inr unnamed)

pub returns-clause-rewound : goal.returns-clause-rewound
returns-clause-rewound g c = λ clean.
    let fresh : IsNewTable c.args.self.now c.args.name.now = rw (← c.self.view_is) (new_where_none c.args.name.now c.self.inside.tables c.index_of.result (sym c.is_some.ensures ∙ c.if-is_some.false) c.index_of.ensures.none) in
    attached_rewound c.push.result _ c.args.name.now c.args.self.now c.push.new.self
    (attaches c.push.result _ c.args.name.now c.args.self.now c.push.new.self c.in-Some.schema (sym (c.in_ok-schema.ensures.found clean) ∙ c.in-Some.is) fresh c.push.ensures.pushed)
