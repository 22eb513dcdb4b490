-- What the INSERT of a record does, which updates the record that is there.
use Rattle.std.proofs.Common.{bytes_eq, ◌≡◌, inl, inr, ℕ, ℤ, List, [], ◌∷◌, map, filter, drop, cond, true, false, Bool, ◌&&◌, ◌==◌, Option, Some, None, Ok, refl, sym, ap, subst, ◌∙◌}
use Rattle.sqlite_value.specs.declared.value.Value.{Value}
use Rattle.sqlite_value.specs.declared.value.Value.TheVariants.{Null, Int, Text, Blob}
use Rattle.sqlite_value.specs.Order.{Row, column, value_cmp}
use Rattle.std.specs.Ordering.{is_eq}
use Rattle.std.proofs.lemmas.List.Sorted.{IsPermutation-sym}
use Rattle.sqlite_rules.proofs.ProbeLemmas.{has_mapped, mapped_has}
use Rattle.sqlite_rules.proofs.ListLemmas.{all_has, some_has, some_from, has_filtered, has_kept}
use Rattle.sqlite_rules.proofs.PlaceLemmas.{given as given_rowids}
use Rattle.sqlite_trees.specs.Tree.{Trees, rowid}
use Rattle.sqlite_sql.specs.Ops.{unary}
use Rattle.sqlite_sql.specs.Query.{Query}
use Rattle.sqlite_sql.specs.Program.{overlay}
use Rattle.sqlite_rules.specs.Calls.{ids_of}
use Rattle.cs_store_sql.proofs.AnswerLemmas.{answer_chosen, overlay_none, ShowsChosen, passes_where, shown_of}
use Rattle.sqlite_schema.specs.declared.schema.Keys.{Keys}
use Rattle.sqlite_schema.specs.declared.schema.Kind.TheVariants.{Integer}
use Rattle.sqlite_schema.specs.declared.command.Conflict.TheVariants.{Abort}
use Rattle.sqlite_rules.specs.declared.error.Rowids.TheVariants.{Chosen, Given}
use Rattle.sqlite_rules.specs.Lists.{Has}
use Rattle.sqlite_rules.specs.Cast.{cast, cast_row}
use Rattle.sqlite_rules.specs.Edit.{id_in, without_all, edit_of, next_rowid, with_rowid, put_all, are_fresh}
use Rattle.sqlite_rules.proofs.TableLemmas.{put_all_adds}
use Rattle.std.specs.List.{list_any}
use Rattle.std.proofs.Math.Bool.{and-true}
use Rattle.std.proofs.lemmas.Bool.{and_parts, cases_Bool, both_ways, eq-eqb, eqb-true, false_from_ne_true}
use Rattle.std.proofs.lemmas.List.Elements.{recursion_from_All}
use Rattle.sqlite_value.specs.Keys.{first_key, plain}
use Rattle.sqlite_schema.specs.Rules.{agree, guards}
use Rattle.sqlite_schema.specs.declared.schema.Index.{Index}
use Rattle.sqlite_schema.specs.declared.schema.Schema.{Schema}
use Rattle.sqlite_schema.specs.declared.schema.Table.{Table}
use Rattle.sqlite_catalog.specs.Listing.{IsGuarded}
use Rattle.sqlite_rules.specs.Keys.{conflicts, shares, aims}
use Rattle.sqlite.specs.Effect.{Database}
use Rattle.sqlite.specs.Rows.{Written, Task, shown, count_of, nothing, Puts, Clears, Updates, Upserts, Tries, TriesEach}
use Rattle.sqlite.specs.Does.{Tally}
use Rattle.sqlite.specs.State.{State, mode_of, Executes}
use Rattle.cs_store_sql.specs.Records.{records_table, records_tree, record_rows, IsOfKey, HoldsRecords, Sets, content, is_under}
use Rattle.cs_store_sql.proofs.RowLemmas.{IsRecordRow, same_is, is_listed, record_row, one_number, has_permuted, under_is, under_from, equal_texts, equal_blobs}
use Rattle.cs_store_sql.proofs.EditLemmas.{same_number, equal_numbers, same_as_itself, Edits, puts_one, edit_sets}
use Rattle.cs_store_sql.specs.Failing as statement
use Rattle.cs_store_sql.specs.Statements.{put_text, put_command, alone, update_query, clause}
use Rattle.cs_store_sql.proofs.WriteLemmas.{writes}
use Rattle.cs_store_sql.proofs.StatementLemmas.{on_table, one_edit, went, same_value}

-- ---- the row

-- the row of a record with this number
abbrev pub record_at : ℤ → List ℕ → List ℕ → List ℕ → Row
record_at n tab key value = Int n ∷ Text tab ∷ Blob key ∷ Blob value ∷ []

-- a choice of one value
either : (b : Bool) (x : Value) → cond b x x ≡ x
either true x = refl
either false x = refl

-- a rowid column takes a number as it is, and NULL
cast_number : (n : ℤ) → cast Integer (Int n) ≡ Int n
unfolding unary
cast_number n = either _ (Int n)

cast_null : cast Integer Null ≡ Null
unfolding unary
cast_null = either _ Null

-- a record is stored as it is
pub cast_record : (tree : ℕ) (n : ℤ) (tab key value : List ℕ) → cast_row (records_table tree) (record_at n tab key value) ≡ record_at n tab key value
cast_record tree n tab key value = ap (λ v. v ∷ Text tab ∷ Blob key ∷ Blob value ∷ []) (cast_number n)

-- and takes the next number
pub numbered_record : (tree : ℕ) (rows : List Row) (tab key value : List ℕ)
    → with_rowid Chosen rows (cast_row (records_table tree) (Null ∷ Text tab ∷ Blob key ∷ Blob value ∷ [])) ≡ record_at (next_rowid rows) tab key value
numbered_record tree rows tab key value = ap (λ v. with_rowid Chosen rows (v ∷ Text tab ∷ Blob key ∷ Blob value ∷ [])) cast_null

-- what the statement reads
abbrev pub task : Option ℕ → Keys → Schema → List ℕ → List ℕ → List ℕ → Task
task limit keys schema tab key value = record { limit = limit; keys = keys; schema = schema; table = records_table (records_tree schema); params = Text tab ∷ Blob key ∷ Blob value ∷ [] }

module _ (limit : Option ℕ) (keys : Keys) (db : Database) (holds : HoldsRecords db) (tab key value : List ℕ) where
  -- the tree of the table, the table, and its rows
  abbrev tree : ℕ
  tree = records_tree db.schema

  abbrev table : Table
  table = records_table tree

  abbrev rows : List Row
  rows = record_rows db

  -- what the statement reads
  abbrev reads : Task
  reads = task limit keys db.schema tab key value

  -- an edit of that tree
  abbrev EditsInto : Trees → Type 0
  EditsInto next = Edits db.schema tree db.trees tab key (Some value) next

  -- ---- no record is there

  -- the row that is put in
  puts : (n : ℤ) (one : Written) → Puts reads (record_at n tab key value) db.trees (Ok one) → EditsInto one.trees
  puts n one h =
      let new = record_at n tab key value in
      let put = went h in
      let edit = edit_of db.trees table [] Given 0 (new ∷ []) in
      let news : edit.news ≡ new ∷ [] = ap (λ row. row ∷ []) (cast_record tree n tab key value) in
      let applied = one_edit db.schema keys db.trees put.0 edit holds.declares refl put.1 in
      let fresh : are_fresh rows (new ∷ []) ≡ true = subst (λ l. are_fresh rows l ≡ true) news applied.fresh in
      subst EditsInto (sym (ap (λ (it : Written). it.trees) (same_value put.2)))
      (puts_one db.schema tree db.trees put.0 tab key value new (under_from tab key new refl refl) refl refl fresh (applied.rows ∙ ap (put_all rows) news) applied.tables)

  -- ---- a record is there

  -- what the update is given: at one place the number of a row, at another the value
  module _ (number_at value_at : ℕ) (given : Row) (number : ℤ) (numbered : column given number_at ≡ Int number) (valued : column given value_at ≡ Blob value) where
    abbrev query : Query
    query = update_query tree number_at value_at

    -- whether a row passes, and what is shown of it
    abbrev passes_update : Row → Bool
    passes_update = passes_where query given

    abbrev updated : Row → Row
    updated = shown_of query given

    -- a row passes where it has that number
    passes_number : (row : Row) (a : ℤ) → rowid row ≡ Int a → passes_update row ≡ is_eq (value_cmp (Int a) (Int number))
    passes_number row a p = rw (p, numbered, equal_numbers a number, and-true (is_eq (value_cmp (Int a) (Int number))))

    -- so a row that passes has the number
    numbered_so : (row : Row) → IsRecordRow row → passes_update row ≡ true → rowid row ≡ Int number
    numbered_so row x passes =
        let own : rowid row ≡ Int x.number = ap rowid x.is in
        own ∙ ap Int (same_number x.number number (sym (passes_number row x.number own) ∙ passes))

    -- and the row with the number passes
    passes_own : (row : Row) → rowid row ≡ Int number → passes_update row ≡ true
    passes_own row own = passes_number row number own ∙ same_as_itself number

    -- it is shown with the new value
    cast_shown : (row : Row) (x : IsRecordRow row) → cast_row table (drop 1 (updated row)) ≡ record_at x.number x.tab x.key value
    cast_shown row x = rw (x.is, valued, cast_record tree x.number x.tab x.key value)

    module _ (row : Row) (has : Has rows row) (own : rowid row ≡ Int number) (asked_rows : List Row) (asked : ShowsChosen query rows given asked_rows) where
      -- no other row is asked for
      asked_is : (shows : Row) → Has asked_rows shows → shows ≡ updated row
      asked_is shows h =
          let of = has_mapped updated asked.chosen shows (subst (λ l. Has l shows) asked.is h) in
          let passing = filter passes_update rows in
          let it = has_filtered passes_update rows of.0 (has_permuted asked.chosen passing of.0 (IsPermutation-sym passing asked.chosen asked.same) of.1) in
          let alike = numbered_so of.0 (record_row db of.0 holds it.0) it.1 ∙ sym own in
          let one = one_number db of.0 row holds it.0 has alike in
          subst (λ r. shows ≡ updated r) one of.2

      -- and that row is
      is_asked : Has asked_rows (updated row)
      is_asked =
          let passing = filter passes_update rows in
          let chosen = has_permuted passing asked.chosen row asked.same (has_kept passes_update rows row has (passes_own row own)) in
          subst (λ l. Has l (updated row)) (sym asked.is) (mapped_has updated asked.chosen row chosen)

    -- the update of the row that is there
    pub updates : (one : Written) (row : Row) → Has rows row → is_under tab key row ≡ true → rowid row ≡ Int number → Updates reads (alone query) given db.trees (Ok one) → EditsInto one.trees
    updates one row has under own h =
        let asked = went h in
        let put = went asked.2 in
        let shows : ShowsChosen query rows given asked.0 =
        subst (λ l. ShowsChosen query l given asked.0) (overlay_none db.trees tree) (answer_chosen tree _ _ _ _ (overlay db.trees []) given asked.0 (asked.1.answer Null)) in
        let gone = ids_of asked.0 in
        let edit = edit_of db.trees table gone Given 1 asked.0 in
        let left = without_all rows gone in
        let applied = one_edit db.schema keys db.trees put.0 edit holds.declares refl put.1 in
        let x = record_row db row holds has in
        let named = under_is tab key row under in
        let next = record_at x.number x.tab x.key value in
        let next_under : is_under tab key next ≡ true = under_from tab key next (sym (ap (λ r. content (column r 1)) x.is) ∙ named.0) (sym (ap (λ r. content (column r 2)) x.is) ∙ named.1) in
        let made = λ (r : Row). cast_row table (drop 1 r) in
        let next_is : made (updated row) ≡ next = cast_shown row x in
        let news : edit.news ≡ map made asked.0 = given_rowids left (map made asked.0) in
        let new_is = λ (r : Row) (there_is : Has edit.news r).
        let of = has_mapped made asked.0 r (subst (λ l. Has l r) news there_is) in
        let same : r ≡ next = of.2 ∙ ap made (asked_is row has own asked.0 shows of.0 of.1) ∙ next_is in same in
        let adds : Has edit.news next = subst (λ l. Has l next) (sym news) (subst (Has (map made asked.0)) next_is (mapped_has made asked.0 _ (is_asked row has own asked.0 shows))) in
        subst EditsInto (sym (ap (λ (it : Written). it.trees) (same_value put.2))) (record {
          replaces = record {
            gone = gone;
            news = edit.news;
            taken = λ id gone_is.
                let of = has_mapped (λ r. id_in (rowid r)) asked.0 id gone_is in
                let same : number ≡ id = sym (of.2 ∙ ap (λ r. id_in (rowid r)) (asked_is row has own asked.0 shows of.0 of.1) ∙ ap id_in own) in
                (row, has, under, own ∙ ap Int same);
            given = λ r new. subst (λ s. is_under tab key s ≡ true) (sym (new_is r new)) next_under;
            keyed = applied.keyed;
            fresh = applied.fresh;
            is = applied.rows;
            set = (next, put_all_adds edit.news left next applied.fresh adds, next_under, refl);
          };
          spares = applied.tables;
        })

  -- ---- the statement

  -- in the key of the table a row agrees with the new one where it is that of the record
  agrees_under : (n : ℤ) (row : Row) → IsRecordRow row → agree plain (1 ∷ 2 ∷ []) row (1 ∷ 2 ∷ []) (record_at n tab key value) ≡ is_under tab key row
  unfolding first_key
  agrees_under n row x = rw (x.is, equal_texts x.tab tab, equal_blobs x.key key, and-true (bytes_eq x.key key))

  -- an index under which rows are unique is that of the key, so no other has a row in the way
  shares_under : (n : ℤ) (row : Row) → IsRecordRow row → (index : Index) → Has db.schema.indexes index
      → shares (Some (1 ∷ 2 ∷ [])) table (record_at n tab key value) row index ≡ true → is_under tab key row ≡ true
  shares_under n row x index has shared =
      let new = record_at n tab key value in
      let agreed = agree index.order index.columns row index.columns new in
      let parts = and_parts (guards index table && aims (Some (1 ∷ 2 ∷ [])) index.columns) agreed shared in
      let unique = and_parts index.is_unique (index.table == tree) (and_parts (guards index table) (aims (Some (1 ∷ 2 ∷ [])) index.columns) parts.0).0 in
      let columns : index.columns ≡ 1 ∷ 2 ∷ [] = sym (same_is (1 ∷ 2 ∷ []) index.columns (and_parts (guards index table) (aims (Some (1 ∷ 2 ∷ [])) index.columns) parts.0).1) in
      let order = all_has (IsOfKey tree) db.schema.indexes index (recursion_from_All (IsOfKey tree) db.schema.indexes holds.declares.keyed) has unique.0 (eqb-true index.table tree unique.1) columns in
      sym (agrees_under n row x) ∙ rw (columns, order) at parts.1

  -- and in that index each such row is in the way
  under_shares : (n : ℤ) (row : Row) → IsRecordRow row → is_under tab key row ≡ true → list_any (shares (Some (1 ∷ 2 ∷ [])) table (record_at n tab key value) row) db.schema.indexes ≡ true
  under_shares n row x under =
      let guard = all_has (IsGuarded db.schema.indexes) db.schema.tables table holds.sound.lists.guarded (is_listed db holds) 0 (1 ∷ 2 ∷ []) refl in
      some_from _ db.schema.indexes _ guard.1 (rw (eq-eqb tree tree refl, agrees_under n row x, under))

  -- a row of the table that is in its way is that of the record
  in_the_way : (n : ℤ) (row : Row) → IsRecordRow row → conflicts (Some (1 ∷ 2 ∷ [])) db.schema.indexes table (record_at n tab key value) row ≡ is_under tab key row
  in_the_way n row x = elim (cases_Bool (is_under tab key row)) [
    | inl under ↦ under_shares n row x under ∙ sym under
    | inr other ↦ false_from_ne_true _ (λ some.
        let it = some_has _ db.schema.indexes some in
        both_ways _ other (shares_under n row x it.0 it.1 it.2)) ∙ sym other
  ]

  -- Abort takes out no row
  clears : (n : ℤ) (one : Written) (found : List Row) → Clears reads Abort (record_at n tab key value) db.trees found (Ok one) → Puts reads (record_at n tab key value) db.trees (Ok one)
  clears n one [] put = put
  clears n one (row ∷ more) put = put

  -- with no row in its way the row is put in, and else that row is updated
  upserts : (n : ℤ) (one : Written) → Upserts reads Abort (record_at n tab key value) db.trees (clause tree ∷ []) (Ok one) → EditsInto one.trees
  upserts n one ([], found, otherwise) = puts n one (clears n one otherwise.0 otherwise.2)
  upserts n one ((there ∷ more), found, update) =
      let it = found.sound there (inl refl) in
      let x = record_row db it.0 holds it.1 in
      let own : rowid it.0 ≡ Int x.number = ap rowid x.is in
      updates 3 2 (Text tab ∷ Blob key ∷ Blob value ∷ rowid there ∷ shown table (record_at n tab key value)) x.number (ap rowid it.3 ∙ own) refl one it.0 it.1 (sym (in_the_way n it.0 x) ∙ it.2) own update

  -- a row that is tried is not refused
  tries : (n : ℤ) (one : Written) → Tries reads Abort (clause tree ∷ []) (record_at n tab key value) db.trees (Ok one) → EditsInto one.trees
  tries n one (inl no_number) = absurd (let e = no_number.1 in cc)
  tries n one (inr (None, judged, upsert)) = upserts n one upsert
  tries n one (inr (Some why, judged, refused)) = absurd (cc)

  -- one row is tried
  tries_each : (done : Written × ℤ) (top : ℤ)
      → TriesEach reads Abort (clause tree ∷ []) ((Null ∷ Text tab ∷ Blob key ∷ Blob value ∷ []) ∷ []) top (nothing db.trees) (Ok done) → EditsInto done.0.trees
  tries_each done top h =
      let one = went h in
      let new = numbered_record tree rows tab key value in
      let put = tries (next_rowid rows) one.0 (subst (λ row. Tries reads Abort (clause tree ∷ []) row db.trees (Ok one.0)) new one.1) in
      subst EditsInto (sym (ap (λ (p : Written × ℤ). p.0.trees) (same_value one.2))) put

-- it sets the record under the name and the key
pub sets : (old new : State) (tab key value : List ℕ) (count : ℕ) → HoldsRecords old.now → Executes (put_text false) (Text tab ∷ Blob key ∷ Blob value ∷ []) old new (Ok count)
    → Sets old.now new.now tab key (Some value)
sets old new tab key value count holds h =
    let params = Text tab ∷ Blob key ∷ Blob value ∷ [] in
    let schema = old.now.schema in
    let tree = records_tree schema in
    let index = holds.declares.index in
    let w = writes (statement.puts false tab key value) old new count holds.declares h in
    let done = went (on_table old new w.tally params index (records_table tree) (put_command index tree false) holds.declares.table w.changed) in
    let now = ap (λ (p : Tally × Database). p.1) (same_value (went (went done.2).2).2) in
    let sourced = went done.1 in
    let counter = went sourced.2 in
    let tried = went counter.2 in
    let counted = went tried.2 in
    let reads = task old.step_limit (mode_of old).keys schema tab key value in
    let each = tries_each old.step_limit (mode_of old).keys old.now holds tab key value tried.0 (count_of counter.0)
    (subst (λ rows. TriesEach reads Abort (clause tree ∷ []) rows (count_of counter.0) (nothing old.now.trees) (Ok tried.0)) sourced.1.1 tried.1) in
    let trees : new.now.trees ≡ tried.0.0.trees =
    ap (λ (d : Database). d.trees) now ∙ ap (λ (it : Written). it.trees) (same_value counted.2) ∙ same_value counted.1 in
    edit_sets old.now new.now tab key (Some value) holds (ap (λ (d : Database). d.schema) now) w.sound w.frozen (subst (Edits schema tree old.now.trees tab key (Some value)) (sym trees) each)
