-- `texts::sql::add_with_name`: what it ensures.
use Rattle.std.proofs.Common.{◌++◌, refl, sym, ap}
use Rattle.cs_value.specs.Quoting.{quoted}
use Rattle.cs_file_texts.proofs.GatherLemmas.{Gathered-nil, Gathers-stopped, Gathers-then}
use Rattle.cs_file_texts.proofs.texts.sql.add_with_name.Goals as goal

pub returns-in_err-add : goal.returns-in_err-add
returns-in_err-add g c = Gathers-stopped _ _ _ _ c.from_residual.ensures.0 refl (Gathered-nil _ _) c.in_err-add.ensures

pub returns : goal.returns
returns g c = Gathers-then _ (ap (λ name. c.args.words.now ++ quoted 34 name) (sym c.as_bytes.ensures.value)) c.in_ok-add.ensures.gathered c.add_quoted.ensures
