-- There is one outcome at most where an entry may begin: an entry with a new key, or one fault.
use Rattle.std.proofs.Common.{◌≡◌, ◌≢◌, ℕ, ◌+◌, ◌<◌, ◌≤◌, cond, Bool, true, false, List, [], ◌∷◌, ◌++◌, length, get_or, take, drop, None, Some, refl, sym, ap, ◌∙◌, append_assoc, arith, inl, inr}
use Rattle.std.specs.Prelude.{◌⊎◌, Option}
use Rattle.std.proofs.lemmas.Bool.{cases_order}
use Rattle.std.proofs.lemmas.List.{take-append-drop, take-take, take_all, length-take-le, drop_more, get_or-take}
use Rattle.std.proofs.lemmas.List.Concat.{flat_map-append}
use Rattle.std.proofs.lemmas.List.Elements.{All-from_recursion}
use Rattle.cs_value.specs.declared.fault.FieldFaultKind.{FieldFaultKind}
use Rattle.cs_value.specs.declared.value.OwnedField.{OwnedField}
use Rattle.cs_value.specs.declared.value.OwnedField.TheVariants.{Undefined}
use Rattle.cs_value.specs.Value.{IsField, IsRecord}
use Rattle.cs_value.specs.Spelling.{field_bytes, record_bytes}
use Rattle.cs_value.specs.FieldFaults.{FieldFails}
use Rattle.cs_value.proofs.ListLemmas.{AllByRecursion-append_left}
use Rattle.cs_value.proofs.Spellings.{field_spellings, record_spellings}
use Rattle.cs_wire_entries.specs.declared.entry.Change.{Change}
use Rattle.cs_wire_entries.specs.declared.entry.Change.TheVariants.{Insert, Delete, Update}
use Rattle.cs_wire_entries.specs.declared.entry.Entry.{Entry}
use Rattle.cs_wire_entries.specs.declared.fault.ReadFaultKind.{ReadFaultKind}
use Rattle.cs_wire_entries.specs.declared.fault.ReadFaultKind.TheVariants.{Truncated, EmptyGroup, BadOp, BadFlag, DuplicateKey}
use Rattle.cs_wire_entries.specs.Entry.{IsChange, IsEntry, operation, fields_of, key_of, entry_bytes}
use Rattle.cs_wire_entries.specs.Changeset.{IsNewKey}
use Rattle.cs_wire_entries.specs.ReadFaults.{kind_of, IsOperation}
use Rattle.cs_wire_entries.specs.Reading.{refusal}
use Rattle.cs_wire_entries.proofs.EntryLemmas.{entry_bytes-append}
use Rattle.cs_wire.proofs.EntriesLemmas.{operation_no_header}
use Rattle.cs_wire_laws.proofs.FieldFaults.{field_fails_once, field_or_fails}
use Rattle.cs_wire_laws.proofs.WantsOnce.{want, want_met, want_same, same_width, same_change, fields_are}
use Rattle.cs_wire_laws.proofs.Outcomes.{Outcome, Passes, Fails, Once}

-- an indirect flag is 0 or 1
pub flag_le : (b : Bool) → cond b 1 0 ≤ 1
flag_le true = omega arith
flag_le false = omega arith

module _ (flags : List ℕ) (entries : List Entry) (from : ℕ) where
  -- after all fields
  abbrev pub Whole : Change → Outcome → Type 0
  Whole change o =
      ((IsNewKey flags entries (key_of flags change) → ⊥) × (o ≡ Fails DuplicateKey from))
      ⊎ (IsNewKey flags entries (key_of flags change) × (o ≡ Passes))

  -- no field
  pub record NoField (bytes : List ℕ) (at : ℕ) (o : Outcome) : Type 0 where
    pub why : FieldFaultKind
    pub behind : ℕ
    pub fails : FieldFails bytes why behind
    pub is : o ≡ Fails (kind_of why) (at + behind)

  -- a field that is not wanted
  pub record OtherField (change : Change) (count : ℕ) (bytes : List ℕ) (at : ℕ) (o : Outcome) : Type 0 where
    pub found : OwnedField
    pub more : List ℕ
    pub kind : ReadFaultKind
    pub is_field : IsField found
    pub spelled : bytes ≡ field_bytes found ++ more
    pub refused : refusal (want flags change count) found ≡ Some kind
    pub is : o ≡ Fails kind at

  -- after so many fields of a change
  abbrev pub AfterFields : Change → ℕ → List ℕ → ℕ → Outcome → Type 0
  AfterFields change count bytes at o =
      ((count < length (fields_of change)) × (NoField bytes at o ⊎ OtherField change count bytes at o))
      ⊎ ((count ≡ length (fields_of change)) × Whole change o)

  abbrev pub front : Change → ℕ → List ℕ
  front change count = record_bytes (take count (fields_of change))

  -- after the indirect flag
  pub record Fields (byte : ℕ) (bytes : List ℕ) (at : ℕ) (o : Outcome) : Type 0 where
    pub change : Change
    pub count : ℕ
    pub rest : List ℕ
    pub is_change : IsChange flags change
    pub does : operation change ≡ byte
    pub within : count ≤ length (fields_of change)
    pub spelled : bytes ≡ front change count ++ rest
    pub after : AfterFields change count rest (at + length (front change count)) o

  -- after the operation
  abbrev pub Flag : ℕ → List ℕ → ℕ → Outcome → Type 0
  Flag byte [] at o = o ≡ Fails Truncated at
  Flag byte (flag ∷ bytes) at o = ((1 < flag) × (o ≡ Fails BadFlag at)) ⊎ ((flag ≤ 1) × Fields byte bytes (at + 1) o)

  abbrev pub Operation : ℕ → List ℕ → Outcome → Type 0
  Operation byte bytes o = ((IsOperation byte → ⊥) × (o ≡ Fails BadOp from)) ⊎ (IsOperation byte × Flag byte bytes (from + 1) o)

  -- where an entry may begin
  abbrev pub AtEntry : List ℕ → Outcome → Type 0
  AtEntry [] o = (entries ≡ []) × (o ≡ Fails EmptyGroup from)
  AtEntry (byte ∷ bytes) o =
      (((byte ≡ 0x54) ⊎ (byte ≡ 0x50)) × (entries ≡ []) × (o ≡ Fails EmptyGroup from))
      ⊎ ((byte ≢ 0x54) × (byte ≢ 0x50) × Operation byte bytes o)

  -- ---- one outcome

  whole_once : (change : Change) → Once (Whole change)
  whole_once change a b (inl one) (inl two) = one.1 ∙ sym two.1
  whole_once change a b (inr one) (inr two) = one.1 ∙ sym two.1
  whole_once change a b (inl one) (inr two) = absurd (one.0 two.0)
  whole_once change a b (inr one) (inl two) = absurd (two.0 one.0)

  some_is : (k l : ReadFaultKind) (x : Option ReadFaultKind) → x ≡ Some k → x ≡ Some l → k ≡ l
  some_is k l x p q = cc

  after_once : (c d : Change) (count : ℕ) (bytes : List ℕ) (at : ℕ) → IsChange flags c → IsChange flags d → operation c ≡ operation d → take count (fields_of c) ≡ take count (fields_of d)
      → (a b : Outcome) → AfterFields c count bytes at a → AfterFields d count bytes at b → a ≡ b
  after_once c d count bytes at h k does same a b (inl (lt, inl one)) (inl (le, inl two)) =
      let both = field_fails_once bytes one.why two.why one.behind two.behind one.fails two.fails in
      one.is ∙ cc (both.0, both.1) ∙ sym two.is
  after_once c d count bytes at h k does same a b (inl (lt, inl one)) (inl (le, inr two)) = absurd (field_or_fails bytes one.why one.behind two.found two.more two.is_field two.spelled one.fails)
  after_once c d count bytes at h k does same a b (inl (lt, inr one)) (inl (le, inl two)) = absurd (field_or_fails bytes two.why two.behind one.found one.more one.is_field one.spelled two.fails)
  after_once c d count bytes at h k does same a b (inl (lt, inr one)) (inl (le, inr two)) =
      let both = field_spellings one.found two.found one.more two.more one.is_field two.is_field (sym one.spelled ∙ two.spelled) in
      let kinds : one.kind ≡ two.kind = some_is one.kind two.kind _ one.refused (rw (want_same flags c d count h k does same, both.0) two.refused) in
      one.is ∙ ap (λ (kind : ReadFaultKind). Fails kind at) kinds ∙ sym two.is
  after_once c d count bytes at h k does same a b (inl one) (inr two) = absurd (omega (arith, one.0, two.0, same_width flags c d h k does))
  after_once c d count bytes at h k does same a b (inr one) (inl two) = absurd (omega (arith, one.0, two.0, same_width flags c d h k does))
  after_once c d count bytes at h k does same a b (inr one) (inr two) =
      let all : fields_of c ≡ fields_of d = sym (take_all count (fields_of c) (omega (arith, one.0))) ∙ same ∙ take_all count (fields_of d) (omega (arith, two.0)) in
      whole_once c a b one.1 (rw (same_change flags c d h k does all) two.1)

  none_is : (k : ReadFaultKind) (x : Option ReadFaultKind) → x ≡ None → x ≡ Some k → ⊥
  none_is k x p q = cc

  -- no outcome is after fewer fields than a change has that is spelled there
  after_fewer : (c d : Change) (count : ℕ) (bytes more : List ℕ) (at : ℕ) → IsChange flags c → IsChange flags d → operation c ≡ operation d → take count (fields_of c) ≡ take count (fields_of d)
      → count < length (fields_of d) → bytes ≡ field_bytes (get_or (fields_of d) count Undefined) ++ more → (a : Outcome) → AfterFields c count bytes at a → ⊥
  after_fewer c d count bytes more at h k does same lt e a after = by after
    where
      field : OwnedField
      field = get_or (fields_of d) count Undefined

      is : IsField field
      is = All-from_recursion IsField (fields_of d) (fields_are flags d k) count Undefined lt

      by : AfterFields c count bytes at a → ⊥
      by (inl (le, inl none)) = field_or_fails bytes none.why none.behind field more is e none.fails
      by (inl (le, inr other)) =
          let both = field_spellings other.found field other.more more other.is_field is (sym other.spelled ∙ e) in
          none_is other.kind (refusal (want flags d count) field) (want_met flags d count k lt) (rw (want_same flags c d count h k does same, both.0) at other.refused)
      by (inr whole) = omega (arith, whole.0, same_width flags c d h k does)

  take_is : (n : ℕ) (fields : List OwnedField) → IsRecord fields → IsRecord (take n fields)
  take_is n fields each = AllByRecursion-append_left IsField (take n fields) (drop n fields) (rw (take-append-drop n fields) each)

  -- the fields up to one, that one, and more
  split : (fields : List OwnedField) (m n : ℕ) → m < n → n ≤ length fields → (more : List OwnedField) × (take n fields ≡ take m fields ++ get_or fields m Undefined ∷ more)
  split fields m n lt le =
      let all = take n fields in
      let len : m < length all = omega (arith, length-take-le n fields le) in
      (drop (m + 1) all, sym (take-append-drop m all) ∙ cc (take-take m n fields (omega (arith, lt)), drop_more all m Undefined len, get_or-take n fields m Undefined lt))

  module _ (byte : ℕ) (bytes : List ℕ) (at : ℕ) where
    -- the same fields are spelled up to the end of the shorter
    same_front : (a b : Outcome) (one : Fields byte bytes at a) (two : Fields byte bytes at b) → one.count ≤ two.count → (rest : List ℕ) → bytes ≡ front two.change one.count ++ rest
        → (take one.count (fields_of one.change) ≡ take one.count (fields_of two.change)) × (one.rest ≡ rest)
    same_front a b one two le rest e =
        record_spellings (take one.count (fields_of one.change)) (take one.count (fields_of two.change)) one.rest rest
        (take_is one.count (fields_of one.change) (fields_are flags one.change one.is_change)) (take_is one.count (fields_of two.change) (fields_are flags two.change two.is_change))
        (length-take-le one.count (fields_of one.change) one.within ∙ sym (length-take-le one.count (fields_of two.change) (omega (arith, le, two.within)))) (sym one.spelled ∙ e)

    -- no outcome is after fewer fields
    shorter : (a b : Outcome) (one : Fields byte bytes at a) (two : Fields byte bytes at b) → one.count < two.count → ⊥
    shorter a b one two lt =
        let fields = fields_of two.change in
        let field = get_or fields one.count Undefined in
        let parts = split fields one.count two.count lt two.within in
        let rest = field_bytes field ++ (record_bytes parts.0 ++ two.rest) in
        let spelled : bytes ≡ front two.change one.count ++ rest = two.spelled ∙ rw (parts.1, flat_map-append) (regroup (front two.change one.count) (field_bytes field) (record_bytes parts.0) two.rest) in
        let same = same_front a b one two (omega (arith, lt)) rest spelled in
        after_fewer one.change two.change one.count one.rest (record_bytes parts.0 ++ two.rest) (at + length (front one.change one.count)) one.is_change two.is_change (one.does ∙ sym two.does) same.0
        (omega (arith, lt, two.within)) same.1 a one.after
      where
        regroup : (x y z w : List ℕ) → (x ++ (y ++ z)) ++ w ≡ x ++ (y ++ (z ++ w))
        regroup x y z w = append_assoc x (y ++ z) w ∙ ap (λ (v : List ℕ). x ++ v) (append_assoc y z w)

    fields_once : Once (Fields byte bytes at)
    fields_once a b one two =
        elim (cases_order one.count two.count) [
          | inl e ↦
              let same = same_front a b one two (omega (arith, e)) two.rest (two.spelled ∙ ap (λ (n : ℕ). front two.change n ++ two.rest) (sym e)) in
              let place : at + length (front one.change one.count) ≡ at + length (front two.change two.count) = ap (λ (fields : List OwnedField). at + length (record_bytes fields)) (same.0 ∙ ap (λ (n : ℕ). take n (fields_of two.change)) e) in
              after_once one.change two.change one.count one.rest (at + length (front one.change one.count)) one.is_change two.is_change (one.does ∙ sym two.does) same.0 a b one.after
              (moved two.change one.count two.count one.rest two.rest _ _ b e same.1 place two.after)
          | inr (inl lt) ↦ absurd (shorter a b one two lt)
          | inr (inr gt) ↦ absurd (shorter b a two one gt)
        ]
      where
        moved : (d : Change) (m n : ℕ) (x y : List ℕ) (p q : ℕ) (b : Outcome) → m ≡ n → x ≡ y → p ≡ q → AfterFields d n y q b → AfterFields d m x p b
        moved d m n x y p q b e f g h = rw (e, f, g) h

  flag_once : (byte : ℕ) (bytes : List ℕ) (at : ℕ) → Once (Flag byte bytes at)
  flag_once byte [] at a b one two = one ∙ sym two
  flag_once byte (flag ∷ bytes) at a b (inl one) (inl two) = one.1 ∙ sym two.1
  flag_once byte (flag ∷ bytes) at a b (inr one) (inr two) = fields_once byte bytes (at + 1) a b one.1 two.1
  flag_once byte (flag ∷ bytes) at a b (inl one) (inr two) = absurd (omega (arith, one.0, two.0))
  flag_once byte (flag ∷ bytes) at a b (inr one) (inl two) = absurd (omega (arith, one.0, two.0))

  operation_once : (byte : ℕ) (bytes : List ℕ) → Once (Operation byte bytes)
  operation_once byte bytes a b (inl one) (inl two) = one.1 ∙ sym two.1
  operation_once byte bytes a b (inr one) (inr two) = flag_once byte bytes (from + 1) a b one.1 two.1
  operation_once byte bytes a b (inl one) (inr two) = absurd (one.0 two.0)
  operation_once byte bytes a b (inr one) (inl two) = absurd (two.0 one.0)

  no_header : (byte : ℕ) → (byte ≡ 0x54) ⊎ (byte ≡ 0x50) → byte ≢ 0x54 → byte ≢ 0x50 → ⊥
  no_header byte (inl table) p q = p table
  no_header byte (inr patchset) p q = q patchset

  -- an entry with a new key, or one fault
  pub entry_once : (bytes : List ℕ) → Once (AtEntry bytes)
  entry_once [] a b one two = one.1 ∙ sym two.1
  entry_once (byte ∷ bytes) a b (inl one) (inl two) = one.2 ∙ sym two.2
  entry_once (byte ∷ bytes) a b (inr one) (inr two) = operation_once byte bytes a b one.2 two.2
  entry_once (byte ∷ bytes) a b (inl one) (inr two) = absurd (no_header byte one.0 two.0 two.1)
  entry_once (byte ∷ bytes) a b (inr one) (inl two) = absurd (no_header byte two.0 one.0 one.1)

  is_operation : (change : Change) → IsOperation (operation change)
  is_operation (Insert row) = inl refl
  is_operation (Delete row) = inr (inl refl)
  is_operation (Update old new) = inr (inr refl)

  -- after so many fields of a change
  pub change_found : (change : Change) (count flag : ℕ) (rest : List ℕ) (o : Outcome) → IsChange flags change → count ≤ length (fields_of change) → flag ≤ 1
      → AfterFields change count rest (from + 1 + 1 + length (front change count)) o → AtEntry (operation change ∷ flag ∷ (front change count ++ rest)) o
  change_found change count flag rest o is within le after =
      let no = operation_no_header change in
      inr (no.0, no.1, inr (is_operation change, inr (le, record { change = change; count = count; rest = rest; is_change = is; does = refl; within = within; spelled = refl; after = after })))

  -- after an entry: its key is new or not
  pub entry_found : (entry : Entry) (rest : List ℕ) (o : Outcome) → IsEntry flags entry → Whole entry.change o → AtEntry (entry_bytes entry ++ rest) o
  entry_found entry rest o is whole =
      let fields = fields_of entry.change in
      let all : take (length fields) fields ≡ fields = take_all (length fields) fields (omega arith) in
      rw (entry_bytes-append, ← all) (change_found entry.change (length fields) (cond entry.indirect 1 0) rest o is (omega arith) (flag_le entry.indirect) (inr (refl, whole)))
