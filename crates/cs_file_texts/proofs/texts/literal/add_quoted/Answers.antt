-- `texts::literal::add_quoted`: what it ensures.
use Rattle.std.proofs.Common.{refl}
use Rattle.cs_file_texts.proofs.GatherLemmas.{Gathered-nil, Gathered-more, Gathers-stopped, Gathers-then}
use Rattle.cs_file_texts.proofs.texts.literal.add_quoted.Goals as goal

pub returns-in_err-add : goal.returns-in_err-add
returns-in_err-add g c = Gathers-stopped _ _ _ _ c.from_residual.ensures.0 refl (Gathered-nil _ _) c.in_err-add.ensures

pub returns-in_err-add_doubled : goal.returns-in_err-add_doubled
returns-in_err-add_doubled g c = Gathers-stopped _ _ _ _ c.from_residual-in_err-add_doubled.ensures.0 refl c.in_ok-add.ensures.gathered c.in_err-add_doubled.ensures

pub returns : goal.returns
returns g c = Gathers-then _ refl (Gathered-more _ refl c.in_ok-add.ensures.gathered c.in_ok-add_doubled.ensures.gathered) c.add-2.ensures
