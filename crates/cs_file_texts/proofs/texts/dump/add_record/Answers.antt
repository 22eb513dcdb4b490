-- `texts::dump::add_record`: what it ensures.
use Rattle.std.proofs.Common.{refl}
use Rattle.cs_file_texts.proofs.GatherLemmas.{Gathered-nil, Gathers-stopped, Gathers-then}
use Rattle.cs_file_texts.proofs.texts.dump.add_record.Goals as goal

pub returns-in_err-add : goal.returns-in_err-add
returns-in_err-add g c = rw c.in-Some.is (Gathers-stopped _ _ _ _ c.from_residual.ensures.0 refl (Gathered-nil _ _) c.in_err-add.ensures)

pub returns : goal.returns
returns g c = rw c.in-Some.is (Gathers-then _ refl c.in_ok-add.ensures.gathered c.add_fields.ensures)
