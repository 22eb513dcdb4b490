-- What the INSERT of a record does that is refused where the record is there.
use Rattle.std.proofs.Common.{◌≡◌, ◌≢◌, inl, ℕ, List, [], ◌∷◌, map, drop, true, Option, Some, None, Ok, refl, sym, ap, subst, ◌∙◌}
use Rattle.std.specs.List.{AllByRecursion}
use Rattle.std.proofs.lemmas.Bool.{and_parts, false_from_ne_true, not-true}
use Rattle.sqlite_value.specs.declared.value.Value.TheVariants.{Text, Blob}
use Rattle.sqlite_value.specs.Order.{Row, column}
use Rattle.sqlite_trees.specs.Tree.{Trees, rowid}
use Rattle.sqlite_schema.specs.declared.schema.Keys.{Keys}
use Rattle.sqlite_schema.specs.declared.schema.Schema.{Schema}
use Rattle.sqlite_rules.specs.declared.error.Rowids.TheVariants.{Chosen}
use Rattle.sqlite_rules.specs.Cast.{cast_row}
use Rattle.sqlite_rules.specs.Lists.{Has}
use Rattle.sqlite_rules.specs.Edit.{edit_of, next_rowid, numbered, put_all, are_fresh, have_rowids}
use Rattle.sqlite_rules.proofs.ListLemmas.{all_has}
use Rattle.sqlite_rules.proofs.TableLemmas.{put_all_adds, put_all_keeps}
use Rattle.sqlite.specs.Effect.{Database}
use Rattle.sqlite.specs.Rows.{Written, Inserts}
use Rattle.sqlite.specs.Does.{Tally}
use Rattle.sqlite.specs.State.{State, mode_of, Executes}
use Rattle.cs_store_sql.specs.Records.{content, is_under, record_rows, records_in, records_table, records_tree, DeclaresRecords, HoldsRecords, Sets}
use Rattle.cs_store_sql.proofs.RowLemmas.{one_record, records_in_is, under_from, under_is}
use Rattle.cs_store_sql.proofs.EditLemmas.{not_taken, puts_one, edit_sets}
use Rattle.cs_store_sql.specs.Statements.{put_text, put_command, source}
use Rattle.cs_store_sql.specs.Failing as statement
use Rattle.cs_store_sql.proofs.WriteLemmas.{writes}
use Rattle.cs_store_sql.proofs.SetLemmas.{record_at, numbered_record, task}
use Rattle.cs_store_sql.proofs.StatementLemmas.{on_table, one_edit, went, same_value}

-- a row of the record is put in, whose number is free
record PutsIn (schema : Schema) (tree : ℕ) (old next : Trees) (tab key value : List ℕ) : Type 0 where
  new : Row
  under : is_under tab key new ≡ true
  content_is : content (column new 3) ≡ value
  keyed : have_rowids (new ∷ []) ≡ true
  fresh : are_fresh (old tree) (new ∷ []) ≡ true
  rows : next tree ≡ put_all (old tree) (new ∷ [])
  spares : AllByRecursion (λ t. t.tree ≢ tree → next t.tree ≡ old t.tree) schema.tables

puts_in : (limit : Option ℕ) (keys : Keys) (schema : Schema) (declares : DeclaresRecords schema) (tab key value : List ℕ) (db : Trees) (one : Written)
    → Inserts (task limit keys schema tab key value) source db (Ok one) → PutsIn schema (records_tree schema) db one.trees tab key value
puts_in limit keys schema declares tab key value db one h =
    let tree = records_tree schema in
    let rows = db tree in
    let new = record_at (next_rowid rows) tab key value in
    let sourced = went h in
    let counter = went sourced.2 in
    let put = went counter.2 in
    let counted = went put.2 in
    let edit = edit_of db (records_table tree) [] Chosen 0 sourced.0 in
    let news : edit.news ≡ new ∷ [] =
    ap (λ (sources : List Row). numbered Chosen rows (map (λ s. cast_row (records_table tree) (drop 0 s)) sources)) sourced.1.1 ∙ ap (λ row. row ∷ []) (numbered_record tree rows tab key value) in
    let applied = one_edit schema keys db put.0 edit declares refl put.1 in
    let fresh : are_fresh rows (new ∷ []) ≡ true = subst (λ l. are_fresh rows l ≡ true) news applied.fresh in
    let trees : one.trees ≡ put.0 = ap (λ (it : Written). it.trees) (same_value counted.2) ∙ same_value counted.1 in
    subst (λ (next : Trees). PutsIn schema tree db next tab key value) (sym trees) (record {
      new = new;
      under = under_from tab key new refl refl;
      content_is = refl;
      keyed = refl;
      fresh = fresh;
      rows = applied.rows ∙ ap (put_all rows) news;
      spares = applied.tables;
    })

module _ (old new : State) (tab key value : List ℕ) (count : ℕ) (holds : HoldsRecords old.now) (h : Executes (put_text true) (Text tab ∷ Blob key ∷ Blob value ∷ []) old new (Ok count)) where
  abbrev schema : Schema
  schema = old.now.schema

  -- what the INSERT makes of the schema and the rows
  makes : (new.now.schema ≡ schema) × PutsIn schema (records_tree schema) old.now.trees new.now.trees tab key value
  makes =
      let params = Text tab ∷ Blob key ∷ Blob value ∷ [] in
      let index = holds.declares.index in
      let w = writes (statement.puts true tab key value) old new count holds.declares h in
      let done = went (on_table old new w.tally params index (records_table (records_tree schema)) (put_command index (records_tree schema) true) holds.declares.table w.changed) in
      let now = ap (λ (p : Tally × Database). p.1) (same_value (went (went done.2).2).2) in
      let put = puts_in old.step_limit (mode_of old).keys schema holds.declares tab key value old.now.trees done.0 done.1 in
      (ap (λ (d : Database). d.schema) now, subst (λ (next : Trees). PutsIn schema (records_tree schema) old.now.trees next tab key value) (sym (ap (λ (d : Database). d.trees) now)) put)

  -- it sets the record under the name and the key
  pub adds : Sets old.now new.now tab key (Some value)
  adds =
      let w = writes (statement.puts true tab key value) old new count holds.declares h in
      let put = makes.1 in
      edit_sets old.now new.now tab key (Some value) holds makes.0 w.sound w.frozen
      (puts_one schema (records_tree schema) old.now.trees new.now.trees tab key value put.new put.under put.content_is put.keyed put.fresh put.rows put.spares)

  -- where none was
  pub was_free : records_in old.now tab key ≡ None
  was_free = records_in_is old.now tab key None holds (λ row has. false_from_ne_true _ (λ under.
      let put = makes.1 in
      let next = adds.holds in
      let tree_is : record_rows new.now ≡ new.now.trees (records_tree schema) = ap (λ (s : Schema). new.now.trees (records_tree s)) makes.0 in
      let rows : record_rows new.now ≡ put_all (record_rows old.now) (put.new ∷ []) = tree_is ∙ put.rows in
      let kept : Has (record_rows new.now) row = subst (λ l. Has l row) (sym rows) (put_all_keeps (put.new ∷ []) (record_rows old.now) row put.fresh has) in
      let there : Has (record_rows new.now) put.new = subst (λ l. Has l put.new) (sym rows) (put_all_adds (put.new ∷ []) (record_rows old.now) put.new put.fresh (inl refl)) in
      let a = under_is tab key row under in
      let b = under_is tab key put.new put.under in
      let one : row ≡ put.new = one_record new.now row put.new next kept there (record { tab = a.0 ∙ sym b.0; key = a.1 ∙ sym b.1 }) in
      all_has (λ r. rowid r ≢ rowid put.new) (record_rows old.now) row (not_taken (record_rows old.now) put.new (not-true _ (and_parts _ _ put.fresh).0)) has (ap rowid one)))
