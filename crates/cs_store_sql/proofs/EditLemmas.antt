-- What an edit of the table of records makes of its rows, and of the records in them.
use Rattle.std.proofs.Common.{bytes_eq, ◌≡◌, ◌≢◌, inl, inr, ℕ, ℤ, true, false, not, ◌&&◌, ◌<ℤ◌, List, [], ◌∷◌, Option, Some, None, refl, sym, ap, subst, subst₂, ◌∙◌}
use Rattle.std.specs.List.{AllByRecursion}
use Rattle.std.specs.Ordering.{int_cmp, is_eq, MatchOrdering, match_ordering}
use Rattle.std.specs.declared.cmp.Ordering.{Ordering}
use Rattle.std.specs.declared.cmp.Ordering.TheVariants.{Less, Equal, Greater}
use Rattle.std.proofs.lemmas.Bool.{and_parts, or_parts, not-true, both_ways, cases_Bool, false_from_ne_true}
use Rattle.std.proofs.lemmas.Cmp.{int_ranked, tied_itself}
use Rattle.sqlite_value.specs.declared.value.Value.TheVariants.{Int}
use Rattle.sqlite_value.specs.Order.{Row, column, value_cmp}
use Rattle.sqlite_value.proofs.OrderLemmas.{value_cmp-Int, value_cmp_total}
use Rattle.sqlite_value.specs.declared.keys.Collation.TheVariants.{Binary}
use Rattle.sqlite_sql.specs.declared.ops.BinaryOp.TheVariants.{Compare}
use Rattle.sqlite_sql.specs.declared.ops.CompareOp.TheVariants.{Eq}
use Rattle.sqlite_sql.specs.Ops.{binary, is_true}
use Rattle.sqlite_trees.specs.Tree.{rowid, has_rowid, put_row, without_rowid, IsAscending}
use Rattle.sqlite_trees.proofs.ListLemmas.{ascending-filter}
use Rattle.sqlite_trees.proofs.TreeLemmas.{all-put_row}
use Rattle.sqlite_rules.specs.Lists.{Has}
use Rattle.sqlite_rules.specs.Edit.{id_in, without_all, put_all, is_taken, are_fresh, have_rowids}
use Rattle.sqlite_rules.proofs.ListLemmas.{all_has, all_from, test_has, has_filtered, has_kept}
use Rattle.sqlite_rules.proofs.TableLemmas.{int_is, put_all_adds, put_all_has, put_all_keeps, without_all_has}
use Rattle.std.proofs.lemmas.List.Elements.{recursion_from_All}
use Rattle.sqlite_trees.specs.Tree.{Trees}
use Rattle.sqlite_schema.specs.Names.{same_name}
use Rattle.sqlite_schema.specs.declared.schema.Table.{Table}
use Rattle.sqlite_schema.specs.declared.schema.Schema.{Schema}
use Rattle.sqlite.specs.Effect.{Database, IsDatabase, SparesFrozen}
use Rattle.cs_store_sql.specs.Records.{by_one, records_tree, record_rows, table_name, IsApart, DeclaresRecords, content, is_under, records_of, changed, AreNumbered, HoldsRecords, Sets}
use Rattle.cs_store_sql.proofs.RowLemmas.{IsRecordRow, truth_is, same_is, same_itself, record_row, one_number, ascending_from_pairs, pairs_from_ascending, AreRecords, are_records, under_is, IsUnder, records_under, records_is}

-- ---- rowids

-- where SQL finds two numbers equal, they are one
pub same_number : (m n : ℤ) → is_eq (value_cmp (Int m) (Int n)) ≡ true → m ≡ n
same_number m n h = tied (int_cmp m n) (int_ranked m n _ refl) (sym (ap is_eq (value_cmp-Int m n)) ∙ h)
  where
    tied : (o : Ordering) → MatchOrdering o (m <ℤ n) (m ≡ n) (n <ℤ m) → is_eq o ≡ true → m ≡ n
    tied Less h e = absurd (cc)
    tied Equal h e = h
    tied Greater h e = absurd (cc)

-- SQL's = on two numbers
pub equal_numbers : (m n : ℤ) → is_true (binary (Compare Eq Binary) (Int m) (Int n)) ≡ is_eq (value_cmp (Int m) (Int n))
unfolding binary
equal_numbers m n = truth_is _

-- a number equals itself
pub same_as_itself : (n : ℤ) → is_eq (value_cmp (Int n) (Int n)) ≡ true
same_as_itself n = ap is_eq (tied_itself value_cmp_total (Int n))

-- the row that has the number
number_is : (db : Database) (row : Row) (id : ℤ) → HoldsRecords db → Has (record_rows db) row → has_rowid id row ≡ true → rowid row ≡ Int id
number_is db row id holds has same =
    let x = record_row db row holds has in
    let number = ap rowid x.is in
    number ∙ ap Int (same_number x.number id (subst (λ v. is_eq (value_cmp v (Int id)) ≡ true) number same))

-- the row has its own number
pub has_own : (row : Row) → IsRecordRow row → has_rowid (id_in (rowid row)) row ≡ true
has_own row x = rw x.is (same_as_itself x.number)

-- two rows have other rowids
abbrev pub Apart : Row → Row → Type 0
Apart a b = rowid a ≢ rowid b

-- no row has the rowid of a row whose rowid is free
pub not_taken : (rows : List Row) (new : Row) → is_taken rows new ≡ false → AllByRecursion (λ r. Apart r new) rows
not_taken [] new free = tt
not_taken (r ∷ rows) new free =
    let parts = or_parts _ _ free in
    (λ same. both_ways _ parts.0 (ap is_eq (ap (λ v. value_cmp v (rowid new)) same ∙ tied_itself value_cmp_total (rowid new))), not_taken rows new parts.1)

-- a row that is put among rows, by how it compares with the first
abbrev Put : Ordering → Row → Row → List Row → List Row
Put o new r rows = match_ordering o (r ∷ put_row new rows) (new ∷ rows) (new ∷ r ∷ rows)

-- rowids that differ differ either way
apart_back : (new : Row) (rows : List Row) → AllByRecursion (λ r. Apart r new) rows → AllByRecursion (λ r. Apart new r) rows
apart_back new [] h = tt
apart_back new (r ∷ rows) h = (λ same. h.0 (sym same), apart_back new rows h.1)

-- a row that is put where its rowid is free leaves rowids that differ
put_apart : (new : Row) (rows : List Row) → AllByRecursion (λ r. Apart r new) rows → IsAscending Apart rows → IsAscending Apart (put_row new rows)
put_apart new [] free up = (tt, tt)
put_apart new (r ∷ rows) free up = elim (value_cmp (rowid r) (rowid new)) as (λ o. IsAscending Apart (Put o new r rows)) [
  | Less ↦ (all-put_row (λ x. Apart r x) new rows free.0 up.0, put_apart new rows free.1 up.1)
  | Equal ↦ (apart_back new rows free.1, up.1)
  | Greater ↦ (apart_back new (r ∷ rows) free, up)
]

-- and so do rows that are put one after the other
put_all_apart : (news rows : List Row) → are_fresh rows news ≡ true → IsAscending Apart rows → IsAscending Apart (put_all rows news)
put_all_apart [] rows fresh up = up
put_all_apart (n ∷ news) rows fresh up =
    let parts = and_parts _ _ fresh in
    put_all_apart news (put_row n rows) parts.1 (put_apart n rows (not_taken rows n (not-true _ parts.0)) up)

-- ---- what is left

-- a row that is left has none of the rowids
pub left_apart : (ids : List ℤ) (rows : List Row) (row : Row) (id : ℤ) → Has ids id → Has (without_all rows ids) row → has_rowid id row ≡ false
left_apart [] rows row id there h = absurd there
left_apart (i ∷ ids) rows row id (inl same) h =
    subst (λ j. has_rowid j row ≡ false) (sym same) (not-true _ (has_filtered (λ r. not (has_rowid i r)) rows row (without_all_has ids (without_rowid i rows) row h)).1)
left_apart (i ∷ ids) rows row id (inr later) h = left_apart ids (without_rowid i rows) row id later h

-- and a row with none of them is left
left_kept : (ids : List ℤ) (rows : List Row) (row : Row) → Has rows row → ((id : ℤ) → Has ids id → has_rowid id row ≡ false) → Has (without_all rows ids) row
left_kept [] rows row has so = has
left_kept (i ∷ ids) rows row has so =
    left_kept ids (without_rowid i rows) row (has_kept (λ r. not (has_rowid i r)) rows row has (ap not (so i (inl refl)))) (λ id later. so id (inr later))

-- what is left has rowids that differ
left_ascending : (ids : List ℤ) (rows : List Row) → IsAscending Apart rows → IsAscending Apart (without_all rows ids)
left_ascending [] rows up = up
left_ascending (i ∷ ids) rows up = left_ascending ids (without_rowid i rows) (ascending-filter Apart (λ r. not (has_rowid i r)) rows up)

-- the rows of an edit have numbers that differ
edit_numbered : (rows news : List Row) (gone : List ℤ) → AreNumbered rows → have_rowids news ≡ true → are_fresh (without_all rows gone) news ≡ true → AreNumbered (put_all (without_all rows gone) news)
edit_numbered rows news gone numbered keyed fresh = record {
  each = all_from (λ r. (n : ℤ) × (rowid r ≡ Int n)) (put_all (without_all rows gone) news) (λ row has. elim (put_all_has news (without_all rows gone) row has) [
    | inl new ↦ (id_in (rowid row), int_is (rowid row) (test_has _ news row keyed new))
    | inr left ↦ all_has (λ r. (n : ℤ) × (rowid r ≡ Int n)) rows row numbered.each (without_all_has gone rows row left)
  ]);
  once = pairs_from_ascending Apart (put_all (without_all rows gone) news) (put_all_apart news (without_all rows gone) fresh (left_ascending gone rows (ascending_from_pairs Apart rows numbered.once)));
}

-- ---- the records

-- the other rows are as before, and this is under the name and the key
pub record Changes (old new : List Row) (tab key : List ℕ) (here : Option (List ℕ)) : Type 0 where
  pub stays : (row : Row) → Has old row → is_under tab key row ≡ false → Has new row
  pub was : (row : Row) → Has new row → is_under tab key row ≡ false → Has old row
  pub set : IsUnder new tab key here

-- a row under one name and key is under no other
under_once : (t k tab key : List ℕ) (row : Row) → (bytes_eq t tab && bytes_eq k key) ≡ false → is_under t k row ≡ true → is_under tab key row ≡ false
under_once t k tab key row other under = false_from_ne_true _ (λ also.
    let a = under_is t k row under in
    let b = under_is tab key row also in
    let tabs : bytes_eq t tab ≡ true = subst (λ s. bytes_eq t s ≡ true) (sym a.0 ∙ b.0) (same_itself t) in
    let keys : bytes_eq k key ≡ true = subst (λ s. bytes_eq k s ≡ true) (sym a.1 ∙ b.1) (same_itself k) in
    both_ways _ other (rw (tabs, keys)))

-- so under another name or key the value is as before
elsewhere : (old new : List Row) (tab key : List ℕ) (here : Option (List ℕ)) → Changes old new tab key here → (t k : List ℕ) → (bytes_eq t tab && bytes_eq k key) ≡ false
    → (o : Option (List ℕ)) → IsUnder old t k o → IsUnder new t k o
elsewhere old new tab key here c t k other None h = λ row has. false_from_ne_true _ (λ under. both_ways _ (h row (c.was row has (under_once t k tab key row other under))) under)
elsewhere old new tab key here c t k other (Some value) h = (h.0, c.stays h.0 h.1 (under_once t k tab key h.0 other h.2), h.2, h.3)

-- so the records are those before, but for that one
changed_records : (old new : List Row) (tab key : List ℕ) (here : Option (List ℕ)) → AreRecords new → Changes old new tab key here → (t k : List ℕ)
    → records_of new t k ≡ changed (records_of old) tab key here t k
changed_records old new tab key here sound c t k = elim (cases_Bool (bytes_eq t tab && bytes_eq k key)) [
  | inl same ↦
      let parts = and_parts _ _ same in
      rw same (subst₂ (λ a b. records_of new a b ≡ here) (sym (same_is t tab parts.0)) (sym (same_is k key parts.1)) (records_is new tab key here sound c.set))
  | inr other ↦ rw other (records_is new t k _ sound (elsewhere old new tab key here c t k other _ (records_under old t k)))
]

-- an edit that takes out and puts in rows under only one name and key, and leaves this there
pub record Replaces (rows : List Row) (tab key : List ℕ) (here : Option (List ℕ)) (after : List Row) : Type 0 where
  pub gone : List ℤ
  pub news : List Row
  pub taken : (id : ℤ) → Has gone id → (row : Row) × Has rows row × (is_under tab key row ≡ true) × (rowid row ≡ Int id)
  pub given : (row : Row) → Has news row → is_under tab key row ≡ true
  pub keyed : have_rowids news ≡ true
  pub fresh : are_fresh (without_all rows gone) news ≡ true
  pub is : after ≡ put_all (without_all rows gone) news
  pub set : IsUnder (put_all (without_all rows gone) news) tab key here

module _ (db : Database) (holds : HoldsRecords db) (tab key : List ℕ) (here : Option (List ℕ)) (next : List Row) (edit : Replaces (record_rows db) tab key here next) where
  -- a row of another record is not taken out
  untaken : (row : Row) → Has (record_rows db) row → is_under tab key row ≡ false → (id : ℤ) → Has edit.gone id → has_rowid id row ≡ false
  untaken row has other id there = false_from_ne_true _ (λ same.
      let it = edit.taken id there in
      let one = one_number db row it.0 holds has it.1 (number_is db row id holds has same ∙ sym it.3) in
      both_ways _ other (subst (λ r. is_under tab key r ≡ true) (sym one) it.2))

  -- so the other rows stay
  replaced : Changes (record_rows db) next tab key here
  replaced =
      let left = without_all (record_rows db) edit.gone in
      record {
        stays = λ row has other. subst (λ l. Has l row) (sym edit.is) (put_all_keeps edit.news left row edit.fresh (left_kept edit.gone (record_rows db) row has (untaken row has other)));
        was = λ row has other. elim (put_all_has edit.news left row (subst (λ l. Has l row) edit.is has)) [
          | inl new ↦ absurd (both_ways _ other (edit.given row new))
          | inr there ↦ without_all_has edit.gone (record_rows db) row there
        ];
        set = subst (λ l. IsUnder l tab key here) (sym edit.is) edit.set;
      }

-- an edit of one tree, which spares each table in another
pub record Edits (schema : Schema) (tree : ℕ) (old : Trees) (tab key : List ℕ) (here : Option (List ℕ)) (next : Trees) : Type 0 where
  pub replaces : Replaces (old tree) tab key here (next tree)
  pub spares : AllByRecursion (λ t. t.tree ≢ tree → next t.tree ≡ old t.tree) schema.tables

-- only a row is put in, if it is that of the record
pub puts_one : (schema : Schema) (tree : ℕ) (old next : Trees) (tab key value : List ℕ) (new : Row) → is_under tab key new ≡ true → content (column new 3) ≡ value → have_rowids (new ∷ []) ≡ true
    → are_fresh (old tree) (new ∷ []) ≡ true → next tree ≡ put_all (old tree) (new ∷ []) → AllByRecursion (λ t. t.tree ≢ tree → next t.tree ≡ old t.tree) schema.tables
    → Edits schema tree old tab key (Some value) next
puts_one schema tree old next tab key value new under is keyed fresh rows spares = record {
  replaces = record {
    gone = [];
    news = new ∷ [];
    taken = λ id none. absurd none;
    given = λ row has. elim has [ inl same ↦ subst (λ r. is_under tab key r ≡ true) (sym same) under | inr none ↦ absurd none ];
    keyed = keyed;
    fresh = fresh;
    is = rows;
    set = (new, put_all_adds (new ∷ []) (old tree) new fresh (inl refl), under, is);
  };
  spares = spares;
}

-- a table with another name has another tree
pub elsewhere_is : (schema : Schema) (table : Table) → DeclaresRecords schema → Has schema.tables table → same_name table.name table_name ≡ false → table.tree ≢ records_tree schema
elsewhere_is schema table declares has =
    (all_has (IsApart (records_tree schema)) schema.tables table (recursion_from_All (IsApart (records_tree schema)) schema.tables declares.apart) has).elsewhere

-- it changes that one record, and nothing else
pub edit_sets : (db after : Database) (tab key : List ℕ) (here : Option (List ℕ)) → HoldsRecords db → after.schema ≡ db.schema → IsDatabase after → SparesFrozen db after
    → Edits db.schema (records_tree db.schema) db.trees tab key here after.trees → Sets db after tab key here
edit_sets db after tab key here holds same sound frozen edit =
    let tree = records_tree db.schema in
    let put = edit.replaces in
    let rows : record_rows after ≡ after.trees tree = ap (λ (s : Schema). after.trees (records_tree s)) same in
    let numbered : AreNumbered (record_rows after) = rw (rows, put.is) (edit_numbered (record_rows db) put.news put.gone holds.numbered put.keyed put.fresh) in
    let next : HoldsRecords after = record { declares = subst DeclaresRecords (sym same) holds.declares; sound = sound; numbered = numbered } in
    record {
      holds = next;
      change = changed_records (record_rows db) (record_rows after) tab key here (are_records after next)
          (subst (λ l. Changes (record_rows db) l tab key here) (sym rows) (replaced db holds tab key here (after.trees tree) put));
      others = record {
        rows = λ table has other.
            all_has (λ t. t.tree ≢ tree → after.trees t.tree ≡ db.trees t.tree) db.schema.tables table edit.spares has (elsewhere_is db.schema table holds.declares has other);
        schema = inl same;
        frozen = by_one db after frozen;
      };
    }
