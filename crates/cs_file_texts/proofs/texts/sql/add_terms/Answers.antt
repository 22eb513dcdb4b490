-- `texts::sql::add_terms`: the invariant of the loop at `index`, what it ensures.
use Rattle.std.proofs.Common.{[], ◌∷◌, ◌++◌, ◌+◌, refl, sym, ◌∙◌, ap, arith, rules}
use Rattle.std.specs.List.{list_any}
use Rattle.std.proofs.lemmas.List.{length_push}
use Rattle.cs_value.specs.Value.{value_of}
use Rattle.cs_file_texts.specs.Texts.{separated}
use Rattle.cs_file_texts.specs.Pieces.{between_of, is_defined, term_text, terms_text}
use Rattle.cs_file_texts.proofs.GatherLemmas.{Gathered-is, Gathered-nil, Gathered-more, Gathers-done, Gathers-stopped}
use Rattle.cs_file_texts.proofs.SeparatedLemmas.{passed_one, passed_all, none_left}
use Rattle.cs_file_texts.proofs.TermLemmas.{terms_undefined, lead_undefined, terms_push, terms_around, lead_defined, some_undefined, some_defined}
use Rattle.cs_file_texts.proofs.texts.sql.add_terms.Goals as goal

pub loop-index-init : goal.loop-index-init
unfolding separated
loop-index-init g c = record { before = []; counted = refl; whole = refl; some = refl; leads = refl; gathered = Gathered-nil _ _ }

pub loop-index-preserved-in_default : goal.loop-index-preserved-in_default
loop-index-preserved-in_default g c =
    let so = c.loop-index.invariant in
    let taken = c.in_default.ensures in
    let between = between_of c.args.terms in
    let text = term_text c.args.terms in
    record {
      before = so.before ++ taken.field ∷ [];
      counted = length_push so.before taken.field ∙ ap (λ n. n + 1) so.counted;
      whole = passed_one c.args.fields so.before c.loop-index.left _ taken.field so.whole taken.is;
      some = so.some ∙ sym (some_undefined so.before taken.field taken.holds);
      leads = lead_undefined text between so.before c.loop-index.index so.counted taken.field c.loop-index.lead.now taken.holds so.leads;
      gathered = Gathered-is _ (terms_undefined text between so.before c.loop-index.index so.counted taken.field taken.holds) so.gathered;
    }

pub returns-in_err-add_term : goal.returns-in_err-add_term
returns-in_err-add_term g c =
    let so = c.loop-index.invariant in
    let taken = c.in-Some.ensures in
    record {
      text = Gathers-stopped _ _ {t2 = c.loop-index.lead.now ++ term_text c.args.terms c.loop-index.index (value_of c.in-Some.value)} _ _ c.from_residual.ensures.0
          (terms_around (term_text c.args.terms) (between_of c.args.terms) so.before c.loop-index.index so.counted taken.field _ taken.holds c.loop-index.lead.now c.args.fields c.loop-index.left _ so.whole taken.is so.leads)
          so.gathered c.in_err-add_term.ensures;
      some = search rules;
    }

pub loop-index-preserved : goal.loop-index-preserved
loop-index-preserved g c =
    let so = c.loop-index.invariant in
    let taken = c.in-Some.ensures in
    let between = between_of c.args.terms in
    let text = term_text c.args.terms in
    record {
      before = so.before ++ taken.field ∷ [];
      counted = length_push so.before taken.field ∙ ap (λ n. n + 1) so.counted;
      whole = passed_one c.args.fields so.before c.loop-index.left _ taken.field so.whole taken.is;
      some = sym (some_defined so.before taken.field _ taken.holds);
      leads = c.between-lead.ensures ∙ lead_defined text between so.before c.loop-index.index so.counted taken.field _ taken.holds;
      gathered = Gathered-more _ (terms_push text between so.before c.loop-index.index so.counted taken.field _ taken.holds c.loop-index.lead.now so.leads) so.gathered c.in_ok-add_term.ensures.gathered;
    }

pub returns : goal.returns
returns g c =
    let so = c.loop-index.invariant in
    let all = passed_all c.args.fields so.before c.loop-index.left so.whole (none_left c.args.fields so.before c.loop-index.left so.whole (omega (arith, c.requires, so.counted, c.loop-index-test.false))) in
    record {
      text = Gathers-done _ (ap (terms_text c.args.terms) all) so.gathered;
      some = so.some ∙ sym (ap (list_any is_defined) all);
    }
