-- Records that are read field by field.
use Rattle.std.proofs.Common.{◌≡◌, ℕ, zero, suc, ◌+◌, ◌<◌, ◌≤◌, List, [], ◌∷◌, ◌++◌, length, map, take, drop, get_or, None, refl, sym, ap, ◌∙◌, append_assoc, arith, length-append, add-zero}
use Rattle.std.proofs.lemmas.List.{append-nil, nil_from_length, take_all, get_or-map, length-drop, get_or-drop, drop-drop}
use Rattle.std.proofs.lemmas.List.Concat.{flat_map-append}
use Rattle.cs_value.specs.declared.value.OwnedField.{OwnedField}
use Rattle.cs_value.specs.declared.value.OwnedField.TheVariants.{Undefined}
use Rattle.cs_value.specs.Value.{IsField, IsRecord}
use Rattle.cs_value.specs.Spelling.{field_bytes, record_bytes}
use Rattle.cs_value.proofs.ListLemmas.{AllByRecursion-push, AllByRecursion-append_right}
use Rattle.cs_wire_entries.specs.declared.fault.ReadFaultKind.{ReadFaultKind}
use Rattle.cs_wire_entries.specs.ReadFaults.{Stands}
use Rattle.cs_wire_entries.specs.Reading.{Want, AnyField, in_new, is_modified, new_wants, refusal, Meets, IsFieldAt, IsRecordAt, FieldRefused, RecordRefused}
use Rattle.cs_wire_entries.proofs.ReadingLemmas.{Stands-then, rest_is}

-- ---- what is wanted

pub length-Meets : (wants : List Want) (fields : List OwnedField) → Meets wants fields → length wants ≡ length fields
length-Meets [] [] h = refl
length-Meets (w ∷ wants) (f ∷ fields) h = ap suc (length-Meets wants fields h.1)
length-Meets [] (f ∷ fields) h = absurd h
length-Meets (w ∷ wants) [] h = absurd h

-- the field after as many as there are wants before its own
Meets-at : (wants : List Want) (fields : List OwnedField) (f : OwnedField) (others : List OwnedField) → Meets wants (fields ++ f ∷ others) → refusal (get_or wants (length fields) AnyField) f ≡ None
Meets-at [] [] f others h = absurd h
Meets-at [] (g ∷ fields) f others h = absurd h
Meets-at (w ∷ wants) [] f others h = h.0
Meets-at (w ∷ wants) (g ∷ fields) f others h = Meets-at wants fields f others h.1

-- one more field
Meets-push : (wants : List Want) (fields : List OwnedField) (f : OwnedField) → length fields < length wants → Meets (take (length fields) wants) fields
    → refusal (get_or wants (length fields) AnyField) f ≡ None → Meets (take (suc (length fields)) wants) (fields ++ f ∷ [])
Meets-push [] fields f lt h met = absurd (omega arith)
Meets-push (w ∷ wants) [] f lt h met = (met, tt)
Meets-push (w ∷ wants) (g ∷ fields) f lt h met = (h.0, Meets-push wants fields f (omega arith) h.1 met)

-- what is wanted in a column, by its flag
pub want_at : (f : ℕ → Want) (flags : List ℕ) (i : ℕ) → i < length flags → get_or (map f flags) i AnyField ≡ f (get_or flags i 0)
want_at f flags i lt = get_or-map f flags i 0 AnyField lt

-- what is wanted of a new record, by the flag and the old field
new_want_at : (flags : List ℕ) (old : List OwnedField) (i : ℕ) → i < length (new_wants flags old)
    → get_or (new_wants flags old) i AnyField ≡ in_new (is_modified (get_or flags i 0) (get_or old i Undefined))
new_want_at [] old i lt = absurd (omega arith)
new_want_at (flag ∷ flags) [] i lt = absurd (omega arith)
new_want_at (flag ∷ flags) (o ∷ old) zero lt = refl
new_want_at (flag ∷ flags) (o ∷ old) (suc i) lt = new_want_at flags old i (omega arith)

-- this is wanted in the column
pub record Wants (wants : List Want) (i : ℕ) (want : Want) : Type 0 where
  pub within : i < length wants
  pub is : get_or wants i AnyField ≡ want

-- the first of what is wanted from there on
pub Wants-next : (wants : List Want) (i : ℕ) (want : Want) (others : List Want) → drop i wants ≡ want ∷ others → Wants wants i want
Wants-next wants i want others e = record {
  within = omega (arith, ap length e, length-drop i wants);
  is = sym (ap (λ (n : ℕ). get_or wants n AnyField) (add-zero i)) ∙ sym (get_or-drop i wants 0 AnyField) ∙ ap (λ (x : List Want). get_or x 0 AnyField) e;
}

pub length-new_wants : (flags : List ℕ) (old : List OwnedField) → length flags ≡ length old → length (new_wants flags old) ≡ length flags
length-new_wants [] old same = refl
length-new_wants (flag ∷ flags) [] same = absurd (omega arith)
length-new_wants (flag ∷ flags) (o ∷ old) same = ap suc (length-new_wants flags old (omega arith))

-- ---- records

-- each record that is wanted and is there begins with these fields
abbrev pub BeginsRecords : List Want → List ℕ → ℕ → List OwnedField → Type 0
BeginsRecords wants file at fields = (all : List OwnedField) (rest : List ℕ) → IsRecord all → Meets wants all → drop at file ≡ record_bytes all ++ rest
    → (others : List OwnedField) × (all ≡ fields ++ others)

-- the fields that were read, one for each of the columns so far
pub record FieldsSoFar (wants : List Want) (file : List ℕ) (at i : ℕ) (fields : List OwnedField) (end : ℕ) : Type 0 where
  pub count : length fields ≡ i
  pub is_record : IsRecord fields
  pub met : Meets (take i wants) fields
  pub stands : Stands file at (record_bytes fields) end
  pub begins : BeginsRecords wants file at fields

-- nothing is read yet
pub FieldsSoFar-none : (wants : List Want) (file : List ℕ) (at : ℕ) → at ≤ length file → FieldsSoFar wants file at 0 [] at
FieldsSoFar-none wants file at le = record {
  count = refl;
  is_record = tt;
  met = tt;
  stands = record { spelled = refl; within = le };
  begins = λ all rest h m e. (all, refl);
}

-- the next field of a record
pub record HasNextField (want : Want) (file : List ℕ) (fields : List OwnedField) (end : ℕ) (all : List OwnedField) : Type 0 where
  pub field : OwnedField
  pub others : List OwnedField
  pub rest : List ℕ
  pub all_is : all ≡ fields ++ field ∷ others
  pub is_field : IsField field
  pub met : refusal want field ≡ None
  pub spelled : drop end file ≡ field_bytes field ++ rest

module _ {wants : List Want} {file : List ℕ} {at i : ℕ} {fields : List OwnedField} {end : ℕ} (so : FieldsSoFar wants file at i fields end) {want : Want}
    (next : Wants wants i want) where
  next_of : (all : List OwnedField) (rest : List ℕ) → IsRecord all → Meets wants all → drop at file ≡ record_bytes all ++ rest
      → (field : OwnedField) (others : List OwnedField) → all ≡ fields ++ field ∷ others → HasNextField want file fields end all
  next_of all rest h m e field others is = record {
    field = field;
    others = others;
    rest = record_bytes others ++ rest;
    all_is = is;
    is_field = (AllByRecursion-append_right IsField fields (field ∷ others) (rw is at h)).0;
    met = rw (← next.is, ← so.count) (Meets-at wants fields field others (rw is at m));
    spelled =
        let regrouped : record_bytes all ++ rest ≡ record_bytes fields ++ (field_bytes field ++ (record_bytes others ++ rest)) =
        rw (is, flat_map-append) (append_assoc (record_bytes fields) (field_bytes field ++ record_bytes others) rest ∙ ap (λ (x : List ℕ). record_bytes fields ++ x) (append_assoc (field_bytes field) (record_bytes others) rest)) in
        rest_is file at end (record_bytes fields) (field_bytes field ++ (record_bytes others ++ rest)) so.stands (e ∙ regrouped);
  }

  -- while a column is left, a record has a field for it
  pub has_next : (all : List OwnedField) (rest : List ℕ) → IsRecord all → Meets wants all → drop at file ≡ record_bytes all ++ rest → HasNextField want file fields end all
  has_next all rest h m e =
      let begun = so.begins all rest h m e in
      by_others begun.0 begun.1
    where
      by_others : (others : List OwnedField) → all ≡ fields ++ others → HasNextField want file fields end all
      by_others [] is = absurd (omega (arith, so.count, next.within, length-Meets wants all m, ap length is, length-append fields []))
      by_others (field ∷ others) is = next_of all rest h m e field others is

  -- one more field is read
  pub FieldsSoFar-push : (field : OwnedField) (to : ℕ) → IsFieldAt want file end field to
      → ((f : OwnedField) (rest : List ℕ) → IsField f → refusal want f ≡ None → drop end file ≡ field_bytes f ++ rest → field ≡ f)
      → FieldsSoFar wants file at (i + 1) (fields ++ field ∷ []) to
  FieldsSoFar-push field to read only = record {
    count = omega (arith, length-append fields (field ∷ []), so.count);
    is_record = AllByRecursion-push IsField fields field so.is_record read.is_field;
    met =
        let n : i + 1 ≡ suc (length fields) = omega (arith, so.count) in
        rw n (Meets-push wants fields field (omega (arith, so.count, next.within)) (rw so.count so.met) (rw (so.count, next.is) read.wanted));
    stands = rw (flat_map-append field_bytes fields (field ∷ []), append-nil) (Stands-then file at end to (record_bytes fields) (field_bytes field) so.stands read.stands);
    begins = λ all rest h m e.
        let n = has_next all rest h m e in
        let same = only n.field n.rest n.is_field n.met n.spelled in
        (n.others, n.all_is ∙ ap (λ (f : OwnedField). fields ++ f ∷ n.others) (sym same) ∙ sym (append_assoc fields (field ∷ []) n.others));
  }

  -- the next field is none that is wanted
  pub FieldsSoFar-refused : (kind : ReadFaultKind) (place : ℕ) → FieldRefused want file end kind place → RecordRefused wants file at kind place
  FieldsSoFar-refused kind place why = record {
    fields = fields;
    end = end;
    is_record = so.is_record;
    fewer = omega (arith, so.count, next.within);
    wanted = rw so.count so.met;
    stands = so.stands;
    why = rw (so.count, next.is) why;
  }

module _ {wants : List Want} {file : List ℕ} {at i : ℕ} {fields : List OwnedField} {end : ℕ} (so : FieldsSoFar wants file at i fields end) (all_read : length wants ≤ i) where
  -- all of the record is read
  pub FieldsSoFar-all : (all : List OwnedField) (rest : List ℕ) → IsRecord all → Meets wants all → drop at file ≡ record_bytes all ++ rest → fields ≡ all
  FieldsSoFar-all all rest h m e =
      let begun = so.begins all rest h m e in
      let none : begun.0 ≡ [] = nil_from_length begun.0 (omega (arith, so.count, length-Meets wants all m, ap length begun.1, length-append fields begun.0)) in
      sym (begun.1 ∙ rw none (append-nil fields))

  pub FieldsSoFar-record : IsRecordAt wants file at fields end
  FieldsSoFar-record = record {
    is_record = so.is_record;
    wanted = rw (take_all i wants all_read) at so.met;
    stands = so.stands;
  }

-- ---- columns that are passed one by one

-- as many columns are passed as there were flags, and for the others this is wanted
pub record Passed (wants : List Want) (file : List ℕ) (at i : ℕ) (left : List Want) (end : ℕ) : Type 0 where
  pub fields : List OwnedField
  pub so_far : FieldsSoFar wants file at i fields end
  pub left_is : drop i wants ≡ left

pub Passed-none : (wants : List Want) (file : List ℕ) (at : ℕ) → at ≤ length file → Passed wants file at 0 wants at
Passed-none wants file at le = record { fields = []; so_far = FieldsSoFar-none wants file at le; left_is = refl }

module _ {wants : List Want} {file : List ℕ} {at i : ℕ} {left : List Want} {end : ℕ} (so : Passed wants file at i left end) where
  pub Passed-wants : (want : Want) (others : List Want) → left ≡ want ∷ others → Wants wants i want
  Passed-wants want others e = Wants-next wants i want others (so.left_is ∙ e)

  pub Passed-next : (want : Want) (others : List Want) → left ≡ want ∷ others → (field : OwnedField) (to : ℕ) → IsFieldAt want file end field to
      → ((f : OwnedField) (rest : List ℕ) → IsField f → refusal want f ≡ None → drop end file ≡ field_bytes f ++ rest → field ≡ f)
      → Passed wants file at (i + 1) others to
  Passed-next want others e field to read only = record {
    fields = so.fields ++ field ∷ [];
    so_far = FieldsSoFar-push so.so_far (Passed-wants want others e) field to read only;
    left_is = sym (drop-drop 1 i wants) ∙ ap (drop 1) (so.left_is ∙ e);
  }

  -- all of the record is passed
  pub Passed-found : left ≡ [] → (fields : List OwnedField) × IsRecordAt wants file at fields end
  Passed-found e = (so.fields, FieldsSoFar-record so.so_far (none_left e))
    where
      none_left : left ≡ [] → length wants ≤ i
      none_left e = omega (arith, ap length (so.left_is ∙ e), length-drop i wants)

  pub Passed-only : left ≡ [] → (all : List OwnedField) (rest : List ℕ) → IsRecord all → Meets wants all → drop at file ≡ record_bytes all ++ rest → Stands file at (record_bytes all) end
  Passed-only e all rest h m spelled =
      let none : length wants ≤ i = omega (arith, ap length (so.left_is ∙ e), length-drop i wants) in
      let same = FieldsSoFar-all so.so_far none all rest h m spelled in
      rw (← same) so.so_far.stands

  pub Passed-forward : at ≤ length file → (at ≤ end) × (end ≤ length file)
  Passed-forward le = (omega (arith, le, ap length so.so_far.stands.spelled, length-append (record_bytes so.fields) (drop end file), length-drop at file, length-drop end file, so.so_far.stands.within), so.so_far.stands.within)
