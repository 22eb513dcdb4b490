-- What the net change of a row does to it.
use Rattle.std.proofs.Common.{◌≡◌, ℕ, zero, suc, Bool, true, false, true≢false, if◌then◌else◌, List, [], ◌∷◌, length, map, Option, Some, None, refl, sym, ap, ◌∙◌, arith}
use Rattle.std.specs.Prelude.{IfSome}
use Rattle.std.proofs.lemmas.Bool.{and_parts}
use Rattle.std.specs.Cmp.Lexicographic.{pointwise}
use Rattle.cs_value.specs.declared.value.OwnedValue.{OwnedValue}
use Rattle.cs_value.specs.declared.value.OwnedField.{OwnedField}
use Rattle.cs_value.specs.declared.value.OwnedField.TheVariants.{Undefined, Defined}
use Rattle.cs_value.specs.Value.{IsRow}
use Rattle.cs_value.specs.Key.{key_columns}
use Rattle.cs_value.proofs.KeyedRows.{length-IsKeyedRow}
use Rattle.cs_value.proofs.Spellings.{row_bytes_same}
use Rattle.cs_value.proofs.RowImages.{IsRecord-map}
use Rattle.cs_wire_entries.specs.declared.entry.Change.{Change}
use Rattle.cs_wire_entries.specs.declared.entry.Change.TheVariants.{Update}
use Rattle.cs_wire.specs.Entry.{IsChange, with_key, before_image, key_of}
use Rattle.cs_group.specs.Net.{is_same, values_of, old_record, new_record, net_row_change}
use Rattle.cs_apply_conflict_kinds.specs.Conflicts.{has_values, filled, kind_between, row_after}
use Rattle.cs_group.proofs.ImageLemmas.{same_values, same_itself}
use Rattle.cs_apply_conflict_kinds.proofs.ConflictLemmas.{filled_row, has_its_values}
use Rattle.cs_group.proofs.KeyPlaceLemmas.{IsRowUnder}
use Rattle.cs_group.proofs.MergeLemmas.{update_is, update_key, rows_paired, row_image_key}

-- ---- the update from a row to a row

has_field : (s : Bool) (v : OwnedValue) (row : List OwnedValue) (image : List OwnedField) → has_values row image ≡ true
    → has_values (v ∷ row) ((if s then Undefined else Defined v) ∷ image) ≡ true
has_field true v row image e = e
has_field false v row image e = rw (same_itself (Defined v)) e

-- finds what it says
has_old : (flags : List ℕ) (before after : List OwnedValue) → length flags ≡ length before → length flags ≡ length after
    → has_values before (old_record flags (map Defined before) (map Defined after)) ≡ true
has_old [] [] after m n = refl
has_old [] (v ∷ before) after m n = absurd (omega arith)
has_old (flag ∷ flags) [] after m n = absurd (omega arith)
has_old (flag ∷ flags) (v ∷ before) [] m n = absurd (omega arith)
has_old (zero ∷ flags) (v ∷ before) (w ∷ after) m n =
    has_field (is_same (Defined v) (Defined w)) v before _ (has_old flags before after (omega arith) (omega arith))
has_old (suc flag ∷ flags) (v ∷ before) (w ∷ after) m n =
    has_field false v before _ (has_old flags before after (omega arith) (omega arith))

fills : (s : Bool) (v w : OwnedValue) (image : List OwnedField) (row rest : List OwnedValue) → is_same (Defined v) (Defined w) ≡ s
    → filled image row ≡ rest → filled ((if s then Undefined else Defined w) ∷ image) (v ∷ row) ≡ w ∷ rest
fills true v w image row rest s e = let same = same_values v w s in cc (same, e)
fills false v w image row rest s e = ap (λ (l : List OwnedValue). w ∷ l) e

head_same : (v w : OwnedValue) (k l : List OwnedValue) → v ∷ k ≡ w ∷ l → (v ≡ w) × (k ≡ l)
head_same v w k l e = (cc e, cc e)

-- and leaves the second
fills_after : (flags : List ℕ) (before after : List OwnedValue) → length flags ≡ length before → length flags ≡ length after
    → key_columns flags before ≡ key_columns flags after
    → filled (with_key flags (old_record flags (map Defined before) (map Defined after)) (new_record flags (map Defined before) (map Defined after))) before ≡ after
fills_after [] [] [] m n k = refl
fills_after [] [] (w ∷ after) m n k = absurd (omega arith)
fills_after [] (v ∷ before) after m n k = absurd (omega arith)
fills_after (flag ∷ flags) [] after m n k = absurd (omega arith)
fills_after (flag ∷ flags) (v ∷ before) [] m n k = absurd (omega arith)
fills_after (zero ∷ flags) (v ∷ before) (w ∷ after) m n k =
    fills (is_same (Defined v) (Defined w)) v w _ before after refl (fills_after flags before after (omega arith) (omega arith) k)
fills_after (suc flag ∷ flags) (v ∷ before) (w ∷ after) m n k =
    let keys = head_same v w _ _ k in
    let first = keys.0 in
    let rest = fills_after flags before after (omega arith) (omega arith) keys.1 in
    cc (first, rest)

-- rows that are found equal are one
same_rows : (before after : List OwnedValue) → pointwise is_same (map Defined before) (map Defined after) ≡ true → before ≡ after
same_rows [] [] e = refl
same_rows [] (w ∷ after) e = absurd (true≢false (sym e))
same_rows (v ∷ before) [] e = absurd (true≢false (sym e))
same_rows (v ∷ before) (w ∷ after) e =
    let both = and_parts (is_same (Defined v) (Defined w)) (pointwise is_same (map Defined before) (map Defined after)) e in
    let first = same_values v w both.0 in
    let rest = same_rows before after both.1 in
    cc (first, rest)

-- a row is the values of its image
pub values_are : (row : List OwnedValue) → values_of (map Defined row) ≡ row
values_are [] = refl
values_are (v ∷ row) = ap (λ (l : List OwnedValue). v ∷ l) (values_are row)

-- ---- the net change

-- a change of the row with this key finds the row, or none, before, and leaves the row, or none, after
pub record LeadsTo (flags key : List ℕ) (before after : Option (List OwnedValue)) (change : Change) : Type 0 where
  pub fits : IsChange flags change
  pub same : key_of flags change ≡ key
  pub finds : kind_between (before_image change) before ≡ None
  pub leaves : row_after flags change before ≡ after

-- there is one exactly where the two differ, and it does
abbrev pub NetLeads : List ℕ → List ℕ → Option (List OwnedValue) → Option (List OwnedValue) → Option Change → Type 0
NetLeads flags key before after None = before ≡ after
NetLeads flags key before after (Some change) = LeadsTo flags key before after change

key_row : (flags : List ℕ) (row : List OwnedValue) → IsRow row → IsRow (key_columns flags row)
key_row [] row h = tt
key_row (flag ∷ flags) [] h = tt
key_row (zero ∷ flags) (v ∷ row) h = key_row flags row h.1
key_row (suc flag ∷ flags) (v ∷ row) h = (h.0, key_row flags row h.1)

key_width : (flags : List ℕ) (before after : List OwnedValue) → length flags ≡ length before → length flags ≡ length after
    → length (key_columns flags before) ≡ length (key_columns flags after)
key_width [] before after m n = refl
key_width (flag ∷ flags) [] after m n = absurd (omega arith)
key_width (flag ∷ flags) (v ∷ before) [] m n = absurd (omega arith)
key_width (zero ∷ flags) (v ∷ before) (w ∷ after) m n = key_width flags before after (omega arith) (omega arith)
key_width (suc flag ∷ flags) (v ∷ before) (w ∷ after) m n = ap suc (key_width flags before after (omega arith) (omega arith))

-- rows of one key have one value in each column of the key
keys_same : (flags key : List ℕ) (before after : List OwnedValue) → IsRowUnder flags key before → IsRowUnder flags key after
    → key_columns flags before ≡ key_columns flags after
keys_same flags key before after b a =
    row_bytes_same (key_columns flags before) (key_columns flags after) (key_row flags before b.values) (key_row flags after a.values)
    (key_width flags before after (length-IsKeyedRow flags before b.keyed) (length-IsKeyedRow flags after a.keyed)) (sym b.own ∙ a.own)

update_leads : (flags key : List ℕ) (before after : List OwnedValue) → IsRowUnder flags key before → IsRowUnder flags key after
    → LeadsTo flags key (Some before) (Some after) (Update (old_record flags (map Defined before) (map Defined after)) (new_record flags (map Defined before) (map Defined after)))
update_leads flags key before after b a =
    let m = length-IsKeyedRow flags before b.keyed in
    let n = length-IsKeyedRow flags after a.keyed in
    let paired = rows_paired flags before after b.keyed a.keyed in
    record {
      fits = update_is flags (map Defined before) (map Defined after) (IsRecord-map before b.values) (IsRecord-map after a.values) paired;
      same = update_key flags (map Defined before) (map Defined after) paired ∙ row_image_key flags before ∙ sym b.own;
      finds = rw (has_old flags before after m n) refl;
      leaves = ap Some (fills_after flags before after m n (keys_same flags key before after b a));
    }

update_or_same : (flags key : List ℕ) (before after : List OwnedValue) (s : Bool) → pointwise is_same (map Defined before) (map Defined after) ≡ s
    → IsRowUnder flags key before → IsRowUnder flags key after
    → NetLeads flags key (Some before) (Some after) (if s then None else Some (Update (old_record flags (map Defined before) (map Defined after)) (new_record flags (map Defined before) (map Defined after))))
update_or_same flags key before after true s b a = ap Some (same_rows before after s)
update_or_same flags key before after false s b a = update_leads flags key before after b a

pub net_leads : (flags key : List ℕ) (before after : Option (List OwnedValue)) → IfSome before (IsRowUnder flags key) → IfSome after (IsRowUnder flags key)
    → NetLeads flags key before after (net_row_change flags before after)
net_leads flags key None None b a = refl
net_leads flags key None (Some after) b a = rw (values_are after) (record {
  fits = (a.values, a.keyed);
  same = sym a.own;
  finds = refl;
  leaves = ap Some (filled_row after []);
})
net_leads flags key (Some before) None b a = rw (values_are before) (record {
  fits = (b.values, b.keyed);
  same = sym b.own;
  finds = rw (has_its_values before) refl;
  leaves = refl;
})
net_leads flags key (Some before) (Some after) b a = update_or_same flags key before after _ refl b a
