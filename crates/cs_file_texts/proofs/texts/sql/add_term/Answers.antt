-- `texts::sql::add_term`: what it ensures.
use Rattle.std.proofs.Common.{refl}
use Rattle.cs_file_texts.proofs.GatherLemmas.{Gathered-nil, Gathers-stopped, Gathers-then}
use Rattle.cs_file_texts.proofs.texts.sql.add_term.Goals as goal

pub returns-in_err-add : goal.returns-in_err-add
returns-in_err-add g c = Gathers-stopped _ _ _ _ c.from_residual.ensures.0 refl (Gathered-nil _ _) c.in_err-add.ensures

pub returns-in-Assignments : goal.returns-in-Assignments
returns-in-Assignments g c = rw c.in-Assignments.is (Gathers-then _ refl c.in_ok-add.ensures.gathered c.add_assignment.ensures)

pub returns-in-Conditions : goal.returns-in-Conditions
returns-in-Conditions g c = rw c.in-Conditions.is (Gathers-then _ refl c.in_ok-add.ensures.gathered c.add_condition.ensures)
