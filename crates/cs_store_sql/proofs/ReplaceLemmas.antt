-- What the UPDATE of a record does, by the number of its row.
use Rattle.std.proofs.Common.{ℕ, ℤ, List, [], ◌∷◌, Some, Ok, refl, sym, ap, subst}
use Rattle.sqlite_value.specs.declared.value.Value.TheVariants.{Int, Blob}
use Rattle.sqlite.specs.Effect.{Database}
use Rattle.sqlite.specs.Does.{Tally}
use Rattle.sqlite.specs.State.{State, mode_of, Executes}
use Rattle.cs_store_sql.specs.Failing as statement
use Rattle.cs_store_sql.specs.Records.{records_table, records_tree, HoldsRecords, IsAt, Sets}
use Rattle.cs_store_sql.specs.Statements.{replace_text, replace_command}
use Rattle.cs_store_sql.proofs.EditLemmas.{Edits, edit_sets}
use Rattle.cs_store_sql.proofs.SetLemmas.{updates}
use Rattle.cs_store_sql.proofs.StatementLemmas.{on_table, went, same_value}
use Rattle.cs_store_sql.proofs.WriteLemmas.{writes}

-- it sets the record that the row is of
pub replaces : (old new : State) (tab key value : List ℕ) (number : ℤ) (count : ℕ) → HoldsRecords old.now → IsAt old.now tab key number → Executes replace_text (Blob value ∷ Int number ∷ []) old new (Ok count)
    → Sets old.now new.now tab key (Some value)
replaces old new tab key value number count holds (row, has, own, under) h =
    let params = Blob value ∷ Int number ∷ [] in
    let schema = old.now.schema in
    let tree = records_tree schema in
    let index = holds.declares.index in
    let w = writes (statement.replaces number tab key value) old new count holds.declares h in
    let done = went (on_table old new w.tally params index (records_table tree) (replace_command index tree) holds.declares.table w.changed) in
    let now = ap (λ (p : Tally × Database). p.1) (same_value (went (went done.2).2).2) in
    let edits = updates old.step_limit (mode_of old).keys old.now holds tab key value 1 0 params number refl refl done.0 row has under own done.1 in
    edit_sets old.now new.now tab key (Some value) holds (ap (λ (d : Database). d.schema) now) w.sound w.frozen
    (subst (Edits schema tree old.now.trees tab key (Some value)) (sym (ap (λ (d : Database). d.trees) now)) edits)
