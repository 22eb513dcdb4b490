-- Columns that refuse NULL: rows that obey them, and what changes leave there.
use Rattle.std.proofs.Common.{◌≡◌, ◌≢◌, ℕ, Bool, true, false, true≢false, ◌&&◌, ◌||◌, List, [], ◌∷◌, length, map, Option, Some, None, option_map, refl, sym, ap, ◌∙◌, arith}
use Rattle.std.specs.Prelude.{unwrap_or, IfSome}
use Rattle.std.specs.Borrow.{Bor}
use Rattle.std.proofs.lemmas.Bool.{and_parts}
use Rattle.std.proofs.lemmas.Option.{none-some}
use Rattle.cs_value.specs.declared.value.OwnedValue.{OwnedValue}
use Rattle.cs_value.specs.declared.value.OwnedValue.TheVariants.{Int, Text, Blob, Null}
use Rattle.cs_value.specs.declared.value.OwnedField.{OwnedField}
use Rattle.cs_value.specs.declared.value.OwnedField.TheVariants.{Undefined, Defined}
use Rattle.cs_value.specs.Table.{IsKeyedRow}
use Rattle.cs_value.specs.State.{SchemaData, State, IsState, IsRowAt, schema_at, row_at, has_null, Obeys}
use Rattle.cs_value.proofs.KeyedRows.{length-IsKeyedRow}
use Rattle.cs_value.proofs.ListLemmas.{IfSome-from_each}
use Rattle.cs_value.proofs.StateLemmas.{row_at_fits}
use Rattle.cs_wire_entries.specs.declared.entry.Change.{Change}
use Rattle.cs_wire_entries.specs.declared.entry.Change.TheVariants.{Insert, Delete, Update}
use Rattle.cs_wire.specs.Entry.{IsChange, with_key, before_image}
use Rattle.cs_wire_entries.proofs.EntryLemmas.{length-IsKeyedUpdate}
use Rattle.cs_apply_conflict_kinds.specs.declared.conflict.Kind.TheVariants.{NotFound, Conflict}
use Rattle.cs_group.specs.Net.{is_same}
use Rattle.cs_apply_conflict_kinds.specs.Conflicts.{has_values, filled, kind_between, is_refused, row_after}
use Rattle.cs_apply_conflict_kinds.specs.Applying.{refuses_at}
use Rattle.cs_apply_conflict_kinds.proofs.ConflictLemmas.{filled_row, and_false, same_width, all_values, no_data}
use Rattle.cs_group.proofs.ImageLemmas.{same_values, length-with_key}

-- ---- a column

-- NULL is in a column that refuses it, or in a later one
has_null_first : (mark : Bool) (refuses : List Bool) (field : OwnedField) (fields : List OwnedField)
    → has_null (mark ∷ refuses) (field ∷ fields) ≡ ((mark && has_null (true ∷ []) (field ∷ [])) || has_null refuses fields)
has_null_first false refuses Undefined fields = refl
has_null_first false refuses (Defined Null) fields = refl
has_null_first false refuses (Defined (Int z)) fields = refl
has_null_first false refuses (Defined (Text t)) fields = refl
has_null_first false refuses (Defined (Blob b)) fields = refl
has_null_first true refuses Undefined fields = refl
has_null_first true refuses (Defined Null) fields = refl
has_null_first true refuses (Defined (Int z)) fields = refl
has_null_first true refuses (Defined (Text t)) fields = refl
has_null_first true refuses (Defined (Blob b)) fields = refl

-- where there is no field there is no NULL
pub no_null : (refuses : List Bool) → has_null refuses [] ≡ false
no_null [] = refl
no_null (mark ∷ refuses) = refl

or_false : (b c : Bool) → (b || c) ≡ false → (b ≡ false) × (c ≡ false)
or_false true c e = absurd (true≢false e)
or_false false c e = (refl, e)

or_true : (b : Bool) → (b || true) ≡ true
or_true true = refl
or_true false = refl

-- if there is no NULL, there is none in the first column nor in a later one
null_parts : (mark : Bool) (refuses : List Bool) (field : OwnedField) (fields : List OwnedField) → has_null (mark ∷ refuses) (field ∷ fields) ≡ false
    → ((mark && has_null (true ∷ []) (field ∷ [])) ≡ false) × (has_null refuses fields ≡ false)
null_parts mark refuses field fields e = or_false _ _ (sym (has_null_first mark refuses field fields) ∙ e)

null_more : (mark : Bool) (refuses : List Bool) (field : OwnedField) (fields : List OwnedField) → (mark && has_null (true ∷ []) (field ∷ [])) ≡ false
    → has_null refuses fields ≡ false → has_null (mark ∷ refuses) (field ∷ fields) ≡ false
null_more mark refuses field fields here rest = has_null_first mark refuses field fields ∙ rw (here, rest) refl

-- ---- a row

-- an image whose values a row has that obeys the rules does not break them
pub image_obeys : (refuses : List Bool) (row : List OwnedValue) (image : List OwnedField) → has_values row image ≡ true → Obeys refuses row → has_null refuses image ≡ false
image_obeys [] row image e obeys = refl
image_obeys (mark ∷ refuses) row [] e obeys = refl
image_obeys (mark ∷ refuses) [] (field ∷ image) e obeys = absurd (true≢false (sym e))
image_obeys (mark ∷ refuses) (v ∷ row) (Undefined ∷ image) e obeys =
    null_more mark refuses Undefined image (and_false mark) (image_obeys refuses row image e (null_parts mark refuses (Defined v) (map Defined row) obeys).1)
image_obeys (mark ∷ refuses) (v ∷ row) (Defined w ∷ image) e obeys =
    let both = and_parts (is_same (Defined w) (Defined v)) (has_values row image) e in
    let own = null_parts mark refuses (Defined v) (map Defined row) obeys in
    null_more mark refuses (Defined w) image (rw (same_values w v both.0) (own.0)) (image_obeys refuses row image both.1 own.1)

-- what is filled from it by an image that does not break them obeys them
filled_obeys : (refuses : List Bool) (image : List OwnedField) (row : List OwnedValue) → length image ≡ length row → has_null refuses image ≡ false → Obeys refuses row
    → Obeys refuses (filled image row)
filled_obeys [] image row wide kept obeys = refl
filled_obeys (mark ∷ refuses) [] row wide kept obeys = refl
filled_obeys (mark ∷ refuses) (field ∷ image) [] wide kept obeys = absurd (omega arith)
filled_obeys (mark ∷ refuses) (Undefined ∷ image) (v ∷ row) wide kept obeys =
    let own = null_parts mark refuses (Defined v) (map Defined row) obeys in
    null_more mark refuses (Defined v) (map Defined (filled image row)) own.0 (filled_obeys refuses image row (omega arith) (null_parts mark refuses Undefined image kept).1 own.1)
filled_obeys (mark ∷ refuses) (Defined w ∷ image) (v ∷ row) wide kept obeys =
    let said = null_parts mark refuses (Defined w) image kept in
    null_more mark refuses (Defined w) (map Defined (filled image row)) said.0
    (filled_obeys refuses image row (omega arith) said.1 (null_parts mark refuses (Defined v) (map Defined row) obeys).1)

-- one of two tests holds where it did, if the second still holds where it did
or_more : (a x y : Bool) → (x ≡ true → y ≡ true) → (a || x) ≡ true → (a || y) ≡ true
or_more true x y more e = refl
or_more false x y more e = more e

-- NULL that is not in the first column is in a later one
null_later : (mark : Bool) (refuses : List Bool) (fields : List OwnedField) → has_null (mark ∷ refuses) (Undefined ∷ fields) ≡ true → has_null refuses fields ≡ true
null_later false refuses fields e = e
null_later true refuses fields e = e

-- what is filled from a row by an image that breaks the rules breaks them
filled_breaks : (refuses : List Bool) (image : List OwnedField) (row : List OwnedValue) → length image ≡ length row → has_null refuses image ≡ true
    → has_null refuses (map Defined (filled image row)) ≡ true
filled_breaks [] image row wide broken = absurd (true≢false (sym broken))
filled_breaks (mark ∷ refuses) [] row wide broken = absurd (true≢false (sym broken))
filled_breaks (mark ∷ refuses) (field ∷ image) [] wide broken = absurd (omega arith)
filled_breaks (mark ∷ refuses) (Undefined ∷ image) (v ∷ row) wide broken =
    let later = filled_breaks refuses image row (omega arith) (null_later mark refuses image broken) in
    has_null_first mark refuses (Defined v) (map Defined (filled image row)) ∙ rw later (or_true _)
filled_breaks (mark ∷ refuses) (Defined w ∷ image) (v ∷ row) wide broken =
    has_null_first mark refuses (Defined w) (map Defined (filled image row))
    ∙ or_more (mark && has_null (true ∷ []) (Defined w ∷ [])) (has_null refuses image) _ (filled_breaks refuses image row (omega arith)) (sym (has_null_first mark refuses (Defined w) image) ∙ broken)

-- ---- a change

-- an image of a row, or of none, that obeys the rules does not break them where the row is as it says
pub found_obeys : (refuses : List Bool) (image : Option (List OwnedField)) (row : Option (List OwnedValue)) → kind_between image row ≡ None → IfSome row (Obeys refuses)
    → unwrap_or (option_map (has_null refuses) image) false ≡ false
found_obeys refuses None row e obeys = refl
found_obeys refuses (Some image) None e obeys = absurd (none-some NotFound (sym e))
found_obeys refuses (Some image) (Some row) e obeys = image_obeys refuses row image (no_data (has_values row image) e) obeys

-- a row has a value for each flag, and obeys the rules
abbrev pub IsKept : List Bool → List ℕ → List OwnedValue → Type 0
IsKept refuses flags row = (length flags ≡ length row) × Obeys refuses row

-- one that is as a change says has as many values
pub found_kept : (refuses : List Bool) (flags : List ℕ) (change : Change) (row : Option (List OwnedValue)) → IsChange flags change → kind_between (before_image change) row ≡ None
    → IfSome row (Obeys refuses) → IfSome row (IsKept refuses flags)
found_kept refuses flags (Insert new) None fits e obeys = tt
found_kept refuses flags (Insert new) (Some row) fits e obeys = absurd (none-some Conflict (sym e))
found_kept refuses flags (Delete old) None fits e obeys = tt
found_kept refuses flags (Delete old) (Some row) fits e obeys =
    let same = all_values row old (no_data (has_values row (map Defined old)) e) in (length-IsKeyedRow flags old fits.1 ∙ ap length same, obeys)
found_kept refuses flags (Update old new) None fits e obeys = tt
found_kept refuses flags (Update old new) (Some row) fits e obeys =
    ((length-IsKeyedUpdate flags old new fits.2).0 ∙ sym (same_width row old (no_data (has_values row old) e)), obeys)

-- and so does one that is keyed, seen through a reference
pub keyed_kept : (refuses : List Bool) (flags : List ℕ) (row : Option (Bor (List OwnedValue))) → IfSome row (λ r. IsKeyedRow flags r.now × Obeys refuses r.now)
    → IfSome (option_map (λ r. r.now) row) (IsKept refuses flags)
keyed_kept refuses flags None kept = tt
keyed_kept refuses flags (Some row) kept = (length-IsKeyedRow flags row.now kept.0, kept.1)

-- what a change leaves that is not refused, of such a row, or of none, obeys the rules
pub left_obeys : (refuses : List Bool) (flags : List ℕ) (change : Change) (row : Option (List OwnedValue)) → IsChange flags change → kind_between (before_image change) row ≢ Some NotFound
    → is_refused refuses flags change ≡ false → IfSome row (IsKept refuses flags) → IfSome (row_after flags change row) (Obeys refuses)
left_obeys refuses flags (Insert new) row fits found kept stood = rw (filled_row new (unwrap_or row [])) kept
left_obeys refuses flags (Delete old) row fits found kept stood = tt
left_obeys refuses flags (Update old new) None fits found kept stood = absurd (found refl)
left_obeys refuses flags (Update old new) (Some row) fits found kept stood =
    let widths = length-IsKeyedUpdate flags old new fits.2 in
    filled_obeys refuses (with_key flags old new) row (length-with_key flags old new widths.0 widths.1 ∙ stood.0) kept stood.1

-- what a change leaves that is refused, of a row with a value for each flag, or of none, does not obey the rules
pub left_disobeys : (refuses : List Bool) (flags : List ℕ) (change : Change) (row : Option (List OwnedValue)) → IsChange flags change → kind_between (before_image change) row ≢ Some NotFound
    → is_refused refuses flags change ≡ true → IfSome row (λ r. length flags ≡ length r) → IfSome (row_after flags change row) (λ r. ¬ Obeys refuses r)
left_disobeys refuses flags (Insert new) row fits found broken stood = rw (filled_row new (unwrap_or row [])) (λ obeys. true≢false (sym broken ∙ obeys))
left_disobeys refuses flags (Delete old) row fits found broken stood = tt
left_disobeys refuses flags (Update old new) None fits found broken stood = absurd (found refl)
left_disobeys refuses flags (Update old new) (Some row) fits found broken stood =
    let widths = length-IsKeyedUpdate flags old new fits.2 in
    λ obeys. true≢false (sym (filled_breaks refuses (with_key flags old new) row (length-with_key flags old new widths.0 widths.1 ∙ stood) broken) ∙ obeys)

-- and a row seen through a reference has a value for each flag
pub keyed_wide : (flags : List ℕ) (row : Option (Bor (List OwnedValue))) → IfSome row (λ r. IsKeyedRow flags r.now) → IfSome (option_map (λ r. r.now) row) (λ r. length flags ≡ length r)
keyed_wide flags None keyed = tt
keyed_wide flags (Some row) keyed = length-IsKeyedRow flags row.now keyed

-- ---- a state

-- each row obeys the rules of its table
abbrev pub RowsObey : State → Type 0
RowsObey state = (table key : List ℕ) → IfSome (row_at state table key) (Obeys (refuses_at state table))

row_obeys : (schema : SchemaData) (key : List ℕ) (row : Option (List OwnedValue)) → IfSome row (IsRowAt schema key) → IfSome row (Obeys schema.refuses)
row_obeys schema key None is = tt
row_obeys schema key (Some row) is = is.obeys

pub rows_obey : (state : State) → IsState state → RowsObey state
rows_obey state is table key = at (schema_at state table) refl
  where
    at : (o : Option SchemaData) → schema_at state table ≡ o → IfSome (row_at state table key) (Obeys (unwrap_or (option_map (λ (s : SchemaData). s.refuses) o) []))
    at None none = IfSome-from_each (Obeys []) (row_at state table key) (λ row found. refl)
    at (Some schema) has = row_obeys schema key (row_at state table key) (row_at_fits state table schema is has key)
