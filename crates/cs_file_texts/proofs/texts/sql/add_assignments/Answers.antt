-- `texts::sql::add_assignments`: what it ensures.
use Rattle.std.proofs.Common.{[], refl, sym, ◌∙◌, append-nil}
use Rattle.cs_file_texts.proofs.GatherLemmas.{Gathered-nil, Gathered-more, Gathers-done, Gathers-stopped}
use Rattle.cs_file_texts.proofs.TermLemmas.{assignments_some, assignments_none, assignments_begin}
use Rattle.cs_file_texts.proofs.texts.sql.add_assignments.Goals as goal

pub returns-in_err-add_terms : goal.returns-in_err-add_terms
returns-in_err-add_terms g c =
    let begun = assignments_begin c.args.old c.args.new in
    Gathers-stopped _ _ _ begun.0 c.from_residual.ensures.0 begun.1 (Gathered-nil _ _) c.in_err-add_terms.ensures.text

pub returns-then-branch : goal.returns-then-branch
returns-then-branch g c =
    Gathers-done _ (assignments_some c.args.old c.args.new (sym c.in_ok-add_terms.ensures.some ∙ c.if-branch.true)) c.in_ok-add_terms.ensures.text.gathered

pub returns-in_err-add_terms-2 : goal.returns-in_err-add_terms-2
returns-in_err-add_terms-2 g c =
    let is = assignments_none c.args.old c.args.new (sym c.in_ok-add_terms.ensures.some ∙ c.if-branch.false) in
    Gathers-stopped _ _ _ [] c.from_residual-in_err-add_terms-2.ensures.0 (is ∙ simp append-nil) c.in_ok-add_terms.ensures.text.gathered c.in_err-add_terms-2.ensures.text

pub returns : goal.returns
returns g c =
    let is = assignments_none c.args.old c.args.new (sym c.in_ok-add_terms.ensures.some ∙ c.if-branch.false) in
    Gathers-done _ is (Gathered-more _ refl c.in_ok-add_terms.ensures.text.gathered c.in_ok-add_terms-2.ensures.text.gathered)
