-- What the DELETE of a record does, by its name and key and by the number of its row.
use Rattle.std.proofs.Common.{◌≡◌, inl, inr, ℕ, List, [], ◌∷◌, true, ℤ, None, Ok, refl, sym, ap, subst, ◌∙◌}
use Rattle.sqlite_value.specs.declared.value.Value.TheVariants.{Null, Int, Text, Blob}
use Rattle.sqlite_value.specs.Order.{Row, value_cmp}
use Rattle.sqlite_sql.specs.Term.{Term, holds as test_holds}
use Rattle.sqlite_rules.proofs.ProbeLemmas.{found_rowids, has_mapped, mapped_has}
use Rattle.sqlite_sql.specs.Query.{IsAnswer}
use Rattle.sqlite_sql.specs.Program.{overlay}
use Rattle.std.specs.List.{list_all}
use Rattle.std.specs.Ordering.{is_eq}
use Rattle.std.proofs.Math.Bool.{and-true}
use Rattle.std.proofs.lemmas.Bool.{both_ways, cases_Bool, false_from_ne_true}
use Rattle.sqlite_trees.specs.Tree.{rowid}
use Rattle.sqlite_rules.specs.Lists.{Has}
use Rattle.sqlite_rules.specs.Calls.{ids_of}
use Rattle.sqlite_rules.specs.Edit.{id_in, edit_of, without_all}
use Rattle.sqlite_rules.specs.declared.error.Rowids.TheVariants.{Given}
use Rattle.sqlite_rules.proofs.TableLemmas.{without_all_has}
use Rattle.sqlite.specs.Rows.{Written}
use Rattle.sqlite_rules.specs.Probe.{AreFound}
use Rattle.sqlite.specs.Effect.{Database, Answers}
use Rattle.sqlite.specs.Does.{Tally}
use Rattle.sqlite.specs.State.{State, Writes, Executes}
use Rattle.cs_store_sql.specs.Failing as statement
use Rattle.cs_store_sql.specs.Records.{records_table, records_tree, record_rows, HoldsRecords, IsAt, Sets, is_under}
use Rattle.cs_store_sql.specs.Statements.{remove_text, take_text, at_key, at_number, number_query, removal, alone}
use Rattle.cs_store_sql.proofs.FoundRows.{at_key_passes}
use Rattle.cs_store_sql.proofs.AnswerLemmas.{overlay_none}
use Rattle.cs_store_sql.proofs.RowLemmas.{IsRecordRow, record_row, one_number, one_record, under_is, IsUnder}
use Rattle.cs_store_sql.proofs.EditLemmas.{has_own, left_apart, same_number, equal_numbers, same_as_itself, Edits, edit_sets}
use Rattle.cs_store_sql.proofs.StatementLemmas.{on_table, one_edit, went, same_value}
use Rattle.cs_store_sql.proofs.WriteLemmas.{writes}

-- the rows that pass these tests are those under the name and the key
abbrev PassesUnder : Database → List Term → Row → List ℕ → List ℕ → Type 0
PassesUnder db terms params tab key = (row : Row) → Has (record_rows db) row → list_all (test_holds (params ∷ row ∷ [])) terms ≡ is_under tab key row

module _ (db : Database) (holds : HoldsRecords db) (terms : List Term) (params : Row) (tab key : List ℕ) (passes : PassesUnder db terms params tab key) (found : List Row) where
  -- the rows that the removal takes out
  removed_rows : Answers db (alone (number_query (records_tree db.schema) terms)) params found → AreFound terms (record_rows db) params found
  removed_rows h =
      let tree = records_tree db.schema in
      let a : IsAnswer (number_query tree terms) (overlay db.trees []) params found = h.answer Null in
      subst (λ l. AreFound terms l params found) (overlay_none db.trees tree)
      (found_rowids tree terms (overlay db.trees []) params found
      (record { staged = a.staged; grouped = a.grouped; kept = a.kept; distinct = a.distinct; ordered = a.ordered; same = a.same; sorted = a.sorted; shown = a.shown }))

  module _ (are : AreFound terms (record_rows db) params found) where
    -- each number that it takes out is that of a row under the name and the key
    taken : (id : ℤ) → Has (ids_of found) id → (row : Row) × Has (record_rows db) row × (is_under tab key row ≡ true) × (rowid row ≡ Int id)
    taken id there =
        let it = has_mapped (λ r. id_in (rowid r)) found id there in
        let of = are.sound it.0 it.1 in
        let x = record_row db of.0 holds of.1 in
        let number : rowid of.0 ≡ Int x.number = ap rowid x.is in
        let same : x.number ≡ id = sym (it.2 ∙ ap (λ r. id_in (rowid r)) of.3 ∙ ap id_in number) in
        (of.0, of.1, sym (passes of.0 of.1) ∙ of.2, number ∙ ap Int same)

    -- and no such row is left
    none_left : IsUnder (without_all (record_rows db) (ids_of found)) tab key None
    none_left row left = false_from_ne_true _ (λ under.
        let has = without_all_has (ids_of found) (record_rows db) row left in
        let x = record_row db row holds has in
        let there = mapped_has (λ r. id_in (rowid r)) found (rowid row ∷ []) (are.complete row has (passes row has ∙ under)) in
        both_ways _ (left_apart (ids_of found) (record_rows db) row (id_in (rowid row)) there left) (has_own row x))

-- so it removes the record under them
removes_as : (old new : State) (tab key : List ℕ) (terms : List Term) (text : List ℕ) (params : Row) (count : ℕ) (holds : HoldsRecords old.now)
    → PassesUnder old.now terms params tab key → Writes old new None (removal holds.declares.index (records_tree old.now.schema) terms) text params count → Sets old.now new.now tab key None
removes_as old new tab key terms text params count holds passes w =
    let schema = old.now.schema in
    let tree = records_tree schema in
    let index = holds.declares.index in
    let done = went (on_table old new w.tally params index (records_table tree) (removal index tree terms) holds.declares.table w.changed) in
    let now = ap (λ (p : Tally × Database). p.1) (same_value (went (went done.2).2).2) in
    let found = went done.1 in
    let written = went found.2 in
    let gone = ids_of found.0 in
    let applied = one_edit schema _ old.now.trees written.0 (edit_of old.now.trees (records_table tree) gone Given 0 []) holds.declares refl written.1 in
    let trees : new.now.trees ≡ written.0 = ap (λ (d : Database). d.trees) now ∙ ap (λ (it : Written). it.trees) (same_value written.2) in
    let are = removed_rows old.now holds terms params tab key passes found.0 found.1 in
    edit_sets old.now new.now tab key None holds (ap (λ (d : Database). d.schema) now) w.sound w.frozen (subst (Edits schema tree old.now.trees tab key None) (sym trees) (record {
      replaces = record {
        gone = gone;
        news = [];
        taken = taken old.now holds terms params tab key passes found.0 are;
        given = λ row none. absurd none;
        keyed = refl;
        fresh = refl;
        is = applied.rows;
        set = none_left old.now holds terms params tab key passes found.0 are;
      };
      spares = applied.tables;
    }))

-- ---- by name and key

pub removes : (old new : State) (tab key : List ℕ) (count : ℕ) → HoldsRecords old.now → Executes remove_text (Text tab ∷ Blob key ∷ []) old new (Ok count) → Sets old.now new.now tab key None
removes old new tab key count holds h =
    removes_as old new tab key at_key _ (Text tab ∷ Blob key ∷ []) count holds (λ row has. at_key_passes tab key [] row (record_row old.now row holds has))
    (writes (statement.removes tab key) old new count holds.declares h)

-- ---- by the number of the row

-- a row passes where it has the number
number_passes : (number : ℤ) (row : Row) (x : IsRecordRow row) → list_all (test_holds ((Int number ∷ []) ∷ row ∷ [])) (at_number 0) ≡ is_eq (value_cmp (Int x.number) (Int number))
number_passes number row x = let own : rowid row ≡ Int x.number = ap rowid x.is in rw (own, equal_numbers x.number number, and-true (is_eq (value_cmp (Int x.number) (Int number))))

-- so only the row of the record passes
passes_at : (db : Database) (tab key : List ℕ) (number : ℤ) → HoldsRecords db → IsAt db tab key number → PassesUnder db (at_number 0) (Int number ∷ []) tab key
passes_at db tab key number holds (there, has_there, own, under) row has =
    let x = record_row db row holds has in
    number_passes number row x ∙ (elim (cases_Bool (is_under tab key row)) [
      | inl also ↦
          let a = under_is tab key row also in
          let b = under_is tab key there under in
          let same = one_record db row there holds has has_there (record { tab = a.0 ∙ sym b.0; key = a.1 ∙ sym b.1 }) in
          let number_is : Int x.number ≡ Int number = sym (ap rowid x.is) ∙ ap rowid same ∙ own in
          let numbers : x.number ≡ number = ap id_in number_is in
          subst (λ n. is_eq (value_cmp (Int n) (Int number)) ≡ true) (sym numbers) (same_as_itself number) ∙ sym also
      | inr other ↦ false_from_ne_true _ (λ tied.
          let numbers : x.number ≡ number = same_number x.number number tied in
          let same = one_number db row there holds has has_there (ap rowid x.is ∙ ap Int numbers ∙ sym own) in
          both_ways _ other (subst (λ r. is_under tab key r ≡ true) (sym same) under)) ∙ sym other
    ])

pub takes : (old new : State) (tab key : List ℕ) (number : ℤ) (count : ℕ) → HoldsRecords old.now → IsAt old.now tab key number → Executes take_text (Int number ∷ []) old new (Ok count)
    → Sets old.now new.now tab key None
takes old new tab key number count holds is h =
    removes_as old new tab key (at_number 0) _ (Int number ∷ []) count holds (passes_at old.now tab key number holds is) (writes (statement.takes number tab key) old new count holds.declares h)
