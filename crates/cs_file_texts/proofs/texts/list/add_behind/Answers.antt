-- `texts::list::add_behind`: what it ensures.
use Rattle.std.proofs.Common.{refl}
use Rattle.cs_file_texts.proofs.GatherLemmas.{Gathered-nil, Gathers-stopped, Gathers-then}
use Rattle.cs_file_texts.proofs.texts.list.add_behind.Goals as goal

pub returns-in_err-add : goal.returns-in_err-add
returns-in_err-add g c = Gathers-stopped _ _ _ _ c.from_residual.ensures.0 refl (Gathered-nil _ _) c.in_err-add.ensures

pub returns : goal.returns
returns g c = Gathers-then _ refl c.in_ok-add.ensures.gathered c.print.ensures
