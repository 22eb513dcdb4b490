-- `texts::literal::add_blob`: what it ensures.
use Rattle.std.proofs.Common.{refl}
use Rattle.cs_file_texts.specs.Texts.{literal}
use Rattle.cs_file_texts.proofs.GatherLemmas.{Gathered-nil, Gathered-more, Gathers-stopped, Gathers-then}
use Rattle.cs_file_texts.proofs.texts.literal.add_blob.Goals as goal

pub returns-in_err-add : goal.returns-in_err-add
unfolding literal
returns-in_err-add g c = Gathers-stopped _ _ _ _ c.from_residual.ensures.0 refl (Gathered-nil _ _) c.in_err-add.ensures

pub returns-in_err-add_digits : goal.returns-in_err-add_digits
unfolding literal
returns-in_err-add_digits g c = Gathers-stopped _ _ _ _ c.from_residual-in_err-add_digits.ensures.0 refl c.in_ok-add.ensures.gathered c.in_err-add_digits.ensures

pub returns : goal.returns
unfolding literal
returns g c = Gathers-then _ refl (Gathered-more _ refl c.in_ok-add.ensures.gathered c.in_ok-add_digits.ensures.gathered) c.add-2.ensures
