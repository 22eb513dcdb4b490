-- `texts::sql::add_update`: what it ensures.
use Rattle.std.proofs.Common.{◌++◌, codes, refl, append_assoc}
use Rattle.cs_file_texts.specs.Texts.{assignment, assignments, by_index}
use Rattle.cs_file_texts.proofs.GatherLemmas.{Gathered-nil, Gathered-more, Gathers-stopped, Gathers-then}
use Rattle.cs_file_texts.proofs.texts.sql.add_update.Goals as goal

pub returns-in_err-add_with_name : goal.returns-in_err-add_with_name
returns-in_err-add_with_name g c =
    Gathers-stopped _ _ _ (codes " SET " ++ assignments c.args.old (by_index assignment 0 c.args.new)) c.from_residual.ensures.0 (simp append_assoc) (Gathered-nil _ _) c.in_err-add_with_name.ensures

pub returns-in_err-add : goal.returns-in_err-add
returns-in_err-add g c =
    Gathers-stopped _ _ _ (assignments c.args.old (by_index assignment 0 c.args.new)) c.from_residual-in_err-add.ensures.0 (simp append_assoc) c.in_ok-add_with_name.ensures.gathered c.in_err-add.ensures

pub returns : goal.returns
returns g c = Gathers-then _ refl (Gathered-more _ refl c.in_ok-add_with_name.ensures.gathered c.in_ok-add.ensures.gathered) c.add_assignments.ensures
