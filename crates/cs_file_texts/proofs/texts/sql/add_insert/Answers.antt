-- `texts::sql::add_insert`: what it ensures.
use Rattle.std.proofs.Common.{◌++◌, codes, map, refl, append_assoc}
use Rattle.cs_file_texts.specs.Texts.{field_text, separated}
use Rattle.cs_file_texts.proofs.GatherLemmas.{Gathered-nil, Gathered-more, Gathers-stopped, Gathers-then}
use Rattle.cs_file_texts.proofs.texts.sql.add_insert.Goals as goal

pub returns-in_err-add_with_name : goal.returns-in_err-add_with_name
returns-in_err-add_with_name g c =
    let fields = separated (codes ", ") (map field_text c.args.row) in
    Gathers-stopped _ _ _ (codes " VALUES(" ++ (fields ++ codes ")")) c.from_residual.ensures.0 (simp append_assoc) (Gathered-nil _ _) c.in_err-add_with_name.ensures

pub returns-in_err-add : goal.returns-in_err-add
returns-in_err-add g c =
    let fields = separated (codes ", ") (map field_text c.args.row) in
    Gathers-stopped _ _ _ (fields ++ codes ")") c.from_residual-in_err-add.ensures.0 (simp append_assoc) c.in_ok-add_with_name.ensures.gathered c.in_err-add.ensures

pub returns-in_err-add_fields : goal.returns-in_err-add_fields
returns-in_err-add_fields g c =
    Gathers-stopped _ _ _ (codes ")") c.from_residual-in_err-add_fields.ensures.0 (simp append_assoc) (Gathered-more _ refl c.in_ok-add_with_name.ensures.gathered c.in_ok-add.ensures.gathered) c.in_err-add_fields.ensures

pub returns : goal.returns
returns g c =
    Gathers-then _ refl (Gathered-more _ refl (Gathered-more _ refl c.in_ok-add_with_name.ensures.gathered c.in_ok-add.ensures.gathered) c.in_ok-add_fields.ensures.gathered) c.add-2.ensures
