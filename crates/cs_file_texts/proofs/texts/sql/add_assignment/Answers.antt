-- `texts::sql::add_assignment`: what it ensures.
use Rattle.std.proofs.Common.{refl}
use Rattle.cs_file_texts.specs.Texts.{assignment}
use Rattle.cs_file_texts.proofs.GatherLemmas.{Gathered-nil, Gathers-stopped, Gathers-then}
use Rattle.cs_file_texts.proofs.texts.sql.add_assignment.Goals as goal

pub returns-in_err-add_column : goal.returns-in_err-add_column
unfolding assignment
returns-in_err-add_column g c = Gathers-stopped _ _ _ _ c.from_residual.ensures.0 refl (Gathered-nil _ _) c.in_err-add_column.ensures

pub returns : goal.returns
unfolding assignment
returns g c = Gathers-then _ refl c.in_ok-add_column.ensures.gathered c.add_literal.ensures
