-- `texts::list::add_fields`: the invariant of the loop, what it ensures.
use Rattle.std.proofs.Common.{[], ◌∷◌, ◌++◌, map, refl, ap}
use Rattle.cs_value.specs.Value.{field_of}
use Rattle.cs_file_texts.specs.Texts.{field_text, separated}
use Rattle.cs_file_texts.proofs.GatherLemmas.{Gathered-nil, Gathered-more, Gathers-done, Gathers-stopped}
use Rattle.cs_file_texts.proofs.SeparatedLemmas.{separated_push, separated_around, lead_push, passed_one, passed_all}
use Rattle.cs_file_texts.proofs.texts.list.add_fields.Goals as goal

pub fields-init : goal.fields-init
unfolding separated
fields-init g c = record { before = []; whole = refl; leads = refl; gathered = Gathered-nil _ _ }

pub fields-preserved : goal.fields-preserved
fields-preserved g c =
    let so = c.fields.invariant in
    let e = field_of c.in-Some.field in
    let next = c.in-Some.ensures.steps.0 in
    record {
      before = so.before ++ e ∷ [];
      whole = passed_one c.args.fields so.before c.fields.left _ e so.whole next;
      leads = lead_push c.args.between.now field_text so.before e;
      gathered = Gathered-more _ (separated_push c.args.between.now field_text so.before e c.fields.lead.now so.leads) so.gathered c.in_ok-add_behind.ensures.gathered;
    }

pub returns-in_err-add_behind : goal.returns-in_err-add_behind
returns-in_err-add_behind g c =
    let so = c.fields.invariant in
    let e = field_of c.in-Some.field in
    Gathers-stopped _ _ _ _ c.from_residual.ensures.0 (separated_around c.args.between.now field_text so.before e c.fields.lead.now so.leads c.args.fields c.fields.left _ so.whole c.in-Some.ensures.steps.0) so.gathered c.in_err-add_behind.ensures

pub returns : goal.returns
returns g c =
    let so = c.fields.invariant in
    Gathers-done _ (ap (λ fields. separated c.args.between.now (map field_text fields)) (passed_all c.args.fields so.before c.fields.left so.whole c.in_default.ensures.steps.0)) so.gathered
