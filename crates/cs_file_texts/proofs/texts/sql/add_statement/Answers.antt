-- `texts::sql::add_statement`: what it ensures.
use Rattle.std.proofs.Common.{refl, ◌∙◌, append_assoc}
use Rattle.cs_file_texts.proofs.GatherLemmas.{Gathered-nil, Gathered-more, Gathers-stopped, Gathers-then}
use Rattle.cs_file_texts.proofs.TextLemmas.{statement_parts}
use Rattle.cs_file_texts.proofs.texts.sql.add_statement.Goals as goal

pub returns-in_err-add_action : goal.returns-in_err-add_action
returns-in_err-add_action g c =
    Gathers-stopped _ _ _ _ c.from_residual.ensures.0 (statement_parts c.args.name.now c.args.entry.now.entry.change) (Gathered-nil _ _) c.in_err-add_action.ensures

pub returns-in_err-add_where : goal.returns-in_err-add_where
returns-in_err-add_where g c =
    Gathers-stopped _ _ _ _ c.from_residual-in_err-add_where.ensures.0 (statement_parts c.args.name.now c.args.entry.now.entry.change) c.in_ok-add_action.ensures.gathered c.in_err-add_where.ensures

pub returns : goal.returns
returns g c =
    Gathers-then _ (statement_parts c.args.name.now c.args.entry.now.entry.change ∙ simp append_assoc) (Gathered-more _ refl c.in_ok-add_action.ensures.gathered c.in_ok-add_where.ensures.gathered) c.add.ensures
