-- `texts::tables::add_tables`: the invariant of the loop, what it ensures.
use Rattle.std.proofs.Common.{[], ◌∷◌, ◌++◌, ap}
use Rattle.cs_file_texts.specs.Forms.{form_text, group_part}
use Rattle.cs_file_texts.proofs.GatherLemmas.{Gathered-is, Gathered-more, Gathers-is, Gathers-done, Gathers-stopped}
use Rattle.cs_file_texts.proofs.SeparatedLemmas.{passed_one, passed_all}
use Rattle.cs_file_texts.proofs.TablesLemmas.{texts_push, texts_around, group_under}
use Rattle.cs_file_texts.proofs.texts.tables.add_tables.Goals as goal

pub tables-preserved : goal.tables-preserved
tables-preserved g c = λ groups left.
    let so = c.tables.invariant groups left in
    let next = c.in-Some.ensures.next [] so.others so.are_left in
    let added = c.in_ok-add_table.ensures.gathered next.group.entries next.others next.are_left in
    record {
      before = so.before ++ next.group ∷ [];
      others = next.others;
      whole = passed_one groups so.before so.others next.others next.group so.whole next.is;
      are_left = c.in_ok-add_table.ensures.left next.group.entries next.others next.are_left;
      gathered = Gathered-more _ (texts_push (group_part c.args.form) so.before next.group) so.gathered (Gathered-is _ (group_under c.args.form next.group _ next.header_is) added.gathered);
    }

pub returns-in_err-add_table : goal.returns-in_err-add_table
returns-in_err-add_table g c = λ groups left.
    let so = c.tables.invariant groups left in
    let next = c.in-Some.ensures.next [] so.others so.are_left in
    let added = c.in_err-add_table.ensures.gathered next.group.entries next.others next.are_left in
    Gathers-stopped _ _ _ _ c.from_residual.ensures.0 (texts_around (group_part c.args.form) groups so.before so.others next.others next.group so.whole next.is)
    so.gathered (Gathers-is _ (group_under c.args.form next.group _ next.header_is) added)

pub returns : goal.returns
returns g c = λ groups left.
    let so = c.tables.invariant groups left in
    let next = c.in_default.ensures.next [] so.others so.are_left in
    Gathers-done _ (ap (form_text c.args.form) (passed_all groups so.before so.others so.whole next.0)) so.gathered
