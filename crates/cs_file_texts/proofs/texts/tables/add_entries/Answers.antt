-- `texts::tables::add_entries`: the invariant of the loop, the clause `gathered`.
use Rattle.std.proofs.Common.{[], ◌∷◌, ◌++◌, arith, ◌∙◌}
use Rattle.cs_file_texts.specs.Forms.{entry_part}
use Rattle.cs_file_texts.proofs.GatherLemmas.{Gathered-more, Gathers-stopped}
use Rattle.cs_file_texts.proofs.SeparatedLemmas.{passed_one}
use Rattle.cs_file_texts.proofs.TablesLemmas.{texts_push, texts_around}
use Rattle.cs_file_texts.proofs.texts.tables.add_entries.Goals as goal

pub entries-preserved : goal.entries-preserved
entries-preserved g c = record {
  gathered = λ entries groups left.
      let so = c.entries.invariant.gathered entries groups left in
      let next = c.in-Some.ensures.next so.others groups so.are_left in
      let e = c.in-Some.entry.entry in
      let text = entry_part c.args.form c.args.name.now in
      record {
        before = so.before ++ e ∷ [];
        others = next.others;
        whole = passed_one entries so.before so.others next.others e so.whole next.is;
        are_left = next.are_left;
        gathered = Gathered-more _ (texts_push text so.before e) so.gathered c.in_ok-add_entry.ensures.gathered;
      };
  ahead = omega (arith, c.entries.invariant.ahead, c.next_entry.ensures.ahead);
  file = c.next_entry.ensures.file ∙ c.entries.invariant.file;
}

pub returns-in_err-add_entry-clause-gathered : goal.returns-in_err-add_entry-clause-gathered
returns-in_err-add_entry-clause-gathered g c = λ entries groups left.
    let so = c.entries.invariant.gathered entries groups left in
    let next = c.in-Some.ensures.next so.others groups so.are_left in
    Gathers-stopped _ _ _ _ c.from_residual.ensures.0
    (texts_around (entry_part c.args.form c.args.name.now) entries so.before so.others next.others c.in-Some.entry.entry so.whole next.is) so.gathered c.in_err-add_entry.ensures
