-- `texts::sql::add_where`: what it ensures.
use Rattle.std.proofs.Common.{[], refl, sym, ap, ◌∙◌, append-nil}
use Rattle.cs_file_texts.specs.Pieces.{where_text}
use Rattle.cs_file_texts.proofs.GatherLemmas.{Gathered-nil, Gathered-more, Gathers-is, Gathers-done, Gathers-stopped}
use Rattle.cs_file_texts.proofs.texts.sql.add_where.Goals as goal

pub returns-in_err-add : goal.returns-in_err-add
returns-in_err-add g c =
    Gathers-is _ (ap where_text (sym c.old_fields.ensures.fields ∙ c.in-Some.is)) (Gathers-stopped _ _ _ _ c.from_residual.ensures.0 refl (Gathered-nil _ _) c.in_err-add.ensures)

pub returns-in_err-add_terms : goal.returns-in_err-add_terms
returns-in_err-add_terms g c =
    let where_is = ap where_text (sym c.old_fields.ensures.fields ∙ c.in-Some.is) in
    Gathers-stopped _ _ _ [] c.from_residual-in_err-add_terms.ensures.0 (where_is ∙ simp append-nil) c.in_ok-add.ensures.gathered c.in_err-add_terms.ensures.text

pub returns : goal.returns
returns g c =
    Gathers-done _ (ap where_text (sym c.old_fields.ensures.fields ∙ c.in-Some.is)) (Gathered-more _ refl c.in_ok-add.ensures.gathered c.in_ok-add_terms.ensures.text.gathered)
