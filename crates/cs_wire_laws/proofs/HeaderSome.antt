-- After 0x54 is the rest of a header, or there is a fault.
use Rattle.std.proofs.Common.{◌≡◌, ◌≢◌, ℕ, zero, suc, ◌+◌, ◌<◌, ◌≤◌, List, [], ◌∷◌, length, get_or, take, drop, Result, Ok, Err, refl, sym, ◌∙◌, arith, inl, inr, true≢false}
use Rattle.std.specs.Prelude.{◌⊎◌, All, Any}
use Rattle.std.specs.Str.{is_utf8}
use Rattle.std.specs.List.{AllByRecursion}
use Rattle.std.proofs.lemmas.Bool.{cases_lt, cases_eq, cases_Bool}
use Rattle.std.proofs.lemmas.List.Elements.{All-nil, All-cons, All-head, All-tail}
use Rattle.std.proofs.lemmas.Str.{is_utf8-from_IsUtf8, IsUtf8-from_is_utf8}
use Rattle.cs_value.specs.declared.TheConstants.{MAX_CONTENT_LEN}
use Rattle.cs_value.specs.declared.fault.FieldFault.{FieldFault}
use Rattle.cs_value.specs.declared.fault.FieldFaultKind.{FieldFaultKind}
use Rattle.cs_value.specs.declared.fault.FieldFaultKind.TheVariants as field
use Rattle.cs_value.specs.Value.{AreBytes}
use Rattle.cs_value.specs.Varint.{varint}
use Rattle.cs_value.specs.Table.{IsFlags}
use Rattle.cs_value.specs.Reading.{number_at}
use Rattle.cs_value.proofs.ByteLists.{AreBytes-drop, each-from_AreBytes}
use Rattle.cs_value.proofs.VarintLemmas.{number_takes, number_faults}
use Rattle.cs_wire_entries.specs.declared.fault.ReadFaultKind.{ReadFaultKind}
use Rattle.cs_wire_entries.specs.declared.fault.ReadFaultKind.TheVariants.{Truncated, ColumnCount, NoKey, BadName}
use Rattle.cs_wire_entries.specs.Changeset.{HeaderData, GroupData, IsHeader, flags_bytes, header_bytes}
use Rattle.cs_wire_entries.specs.ReadFaults.{kind_of, Stands, TableStart, HeaderPart, IsColumnCount, HasNoCount, ReadCase}
use Rattle.cs_wire_entries.proofs.ReadingLemmas.{Stands-read, Stands-flags, Stands-ended, Stands-header, IsFlags-read, IsName-read}
use Rattle.cs_wire.proofs.HeaderFaults.{HeaderPart-more, HeaderPart-first, no_key, empty_name, bad_name}

-- the bytes have a fault
pub record HasFault (file : List ℕ) : Type 0 where
  pub kind : ReadFaultKind
  pub place : ℕ
  pub case : ReadCase file kind place

pub fault_of : (file : List ℕ) (kind : ReadFaultKind) (place : ℕ) → ReadCase file kind place → HasFault file
fault_of file kind place h = record { kind = kind; place = place; case = h }

-- ---- what is there or not

cases_list : (xs ys : List ℕ) → (xs ≡ ys) ⊎ (xs ≡ ys → ⊥)
cases_list [] [] = inl refl
cases_list [] (y ∷ ys) = inr (λ e. cc)
cases_list (x ∷ xs) [] = inr (λ e. cc)
cases_list (x ∷ xs) (y ∷ ys) =
    elim (cases_eq x y) [
      | inl first ↦ elim (cases_list xs ys) [ inl others ↦ inl (cc (first, others)) | inr differ ↦ inr (λ e. differ (cc)) ]
      | inr differ ↦ inr (λ e. differ (cc))
    ]

-- a text is new to these, or not
pub new_or_not : {X : Type 0} (f : X → List ℕ) (text : List ℕ) (xs : List X) → All (λ x. f x ≢ text) xs ⊎ (All (λ x. f x ≢ text) xs → ⊥)
new_or_not f text [] = inl (All-nil (λ x. f x ≢ text))
new_or_not f text (x ∷ xs) =
    elim (cases_list (f x) text) [
      | inl same ↦ inr (λ each. All-head (λ y. f y ≢ text) x xs each same)
      | inr differ ↦ elim (new_or_not f text xs) [
        | inl new ↦ inl (All-cons (λ y. f y ≢ text) x xs differ new)
        | inr old ↦ inr (λ each. old (All-tail (λ y. f y ≢ text) x xs each))
      ]
    ]

any_or_none : (flags : List ℕ) → Any (λ flag. 0 < flag) flags ⊎ (Any (λ flag. 0 < flag) flags → ⊥)
any_or_none [] = inr (λ some. omega (arith, some.2))
any_or_none (flag ∷ flags) =
    elim (cases_lt 0 flag) [
      | inl gt ↦ inl (0, flag, omega arith, refl, gt)
      | inr z ↦ elim (any_or_none flags) [
        | inl some ↦ inl (suc some.0, some.1, omega (arith, some.2), some.3, some.4)
        | inr none ↦ inr (λ some. later flag flags z none some)
      ]
    ]
  where
    later : (flag : ℕ) (flags : List ℕ) → flag ≤ 0 → (Any (λ f. 0 < f) flags → ⊥) → Any (λ f. 0 < f) (flag ∷ flags) → ⊥
    later flag flags z none (zero, x, lt, is, gt) = omega arith
    later flag flags z none (suc k, x, lt, is, gt) = none (k, x, omega arith, is, gt)

-- the first zero byte
record FirstZero (bytes : List ℕ) : Type 0 where
  at : ℕ
  within : at < length bytes
  is : get_or bytes at 0 ≡ 0
  before : (k : ℕ) → k < at → get_or bytes k 0 ≡ 0 → ⊥

first_zero : (bytes : List ℕ) → FirstZero bytes ⊎ AllByRecursion (λ b. b ≢ 0) bytes
first_zero [] = inr tt
first_zero (b ∷ bytes) =
    elim (cases_eq b 0) [
      | inl z ↦ inl (record { at = 0; within = omega arith; is = z; before = λ k lt e. omega arith })
      | inr ne ↦ elim (first_zero bytes) [
        | inl later ↦ inl (record { at = suc later.at; within = omega (arith, later.within); is = later.is; before = λ k lt e. earlier b bytes later.at ne later.before k lt e })
        | inr none ↦ inr (ne, none)
      ]
    ]
  where
    earlier : (b : ℕ) (bytes : List ℕ) (at : ℕ) → (b ≡ 0 → ⊥) → ((k : ℕ) → k < at → get_or bytes k 0 ≡ 0 → ⊥) → (k : ℕ) → k < suc at → get_or (b ∷ bytes) k 0 ≡ 0 → ⊥
    earlier b bytes at ne before zero lt e = ne e
    earlier b bytes at ne before (suc k) lt e = before k (omega arith) e

no_count_case : (file : List ℕ) (kind : FieldFaultKind) (place : ℕ) → HasNoCount file kind place → ReadCase file (kind_of kind) place
no_count_case file field.Truncated place h = inl (inl h)
no_count_case file field.BadVarint place h = inl h
no_count_case file field.BadType place h = absurd h.fails
no_count_case file field.RealValue place h = absurd h.fails
no_count_case file field.BadText place h = absurd h.fails

-- ---- a header

-- a header is here
pub record HeaderHere (file : List ℕ) (at : ℕ) : Type 0 where
  pub header : HeaderData
  pub to : ℕ
  pub is_header : IsHeader header
  pub stands : Stands file at (header_bytes header) to

module _ (file : List ℕ) (fits : AreBytes file) (at : ℕ) (groups : List GroupData) (start : TableStart file at groups) (first : Stands file at (0x54 ∷ []) (at + 1)) where
  part : HeaderPart file [] (at + 1)
  part = HeaderPart-first file at (at + 1) groups start first

  name_here : (flags : List ℕ) (b : ℕ) → IsFlags flags → Stands file (at + 1) (flags_bytes flags) b → HasFault file ⊎ HeaderHere file at
  name_here flags b are stands = by (first_zero (drop b file))
    where
      after_flags : HeaderPart file (flags_bytes flags) b
      after_flags = HeaderPart-more file (at + 1) b (flags_bytes flags) part stands

      by : FirstZero (drop b file) ⊎ AllByRecursion (λ x. x ≢ 0) (drop b file) → HasFault file ⊎ HeaderHere file at
      by (inr none) = inl (fault_of file Truncated (length file) (inr (inr (inl (record { flags = flags; at = b; are_flags = are; part = after_flags; no_end = none })), refl)))
      by (inl z) =
          let name = take z.at (drop b file) in
          elim (cases_eq (length name) 0) [
            | inl none ↦ inl (fault_of file BadName b (empty_name file b z.at flags are after_flags z.within z.is z.before none))
            | inr some ↦ elim (cases_Bool (is_utf8 name)) [
              | inl good ↦ inr (record {
                header = record { name = name; flags = flags };
                to = b + z.at + 1;
                is_header = record { name = IsName-read (drop b file) z.at z.within z.before (IsUtf8-from_is_utf8 name good) (omega (arith, some)); flags = are };
                stands = Stands-header file at (at + 1) b (b + z.at + 1) (record { name = name; flags = flags }) first stands (Stands-ended file b z.at z.within z.is);
              })
              | inr bad ↦ inl (fault_of file BadName b (bad_name file b z.at flags are after_flags z.within z.is z.before (λ u. true≢false (sym (is_utf8-from_IsUtf8 name u) ∙ bad))))
            ]
          ]

  flags_here : (count b : ℕ) → IsColumnCount count → Stands file (at + 1) (varint count) b → HasFault file ⊎ HeaderHere file at
  flags_here count b few stands =
      elim (cases_lt (length file) (b + count)) [
        | inl fewer ↦ inl (fault_of file Truncated (length file) (inr (inl (record { count = count; at = b; part = HeaderPart-more file (at + 1) b (varint count) part stands; is_count = few; fewer = fewer }), refl)))
        | inr le ↦ elim (any_or_none (take count (drop b file))) [
          | inl some ↦ name_here (take count (drop b file)) (b + count) (IsFlags-read file b count (each-from_AreBytes file fits) (omega (arith, few)) some) (Stands-flags file (at + 1) b count (take count (drop b file)) stands le refl)
          | inr none ↦ inl (fault_of file NoKey b (no_key file (at + 1) b count part stands few le none))
        ]
      ]

  bad_count : (count b : ℕ) → count ≤ MAX_CONTENT_LEN → Stands file (at + 1) (varint count) b → (IsColumnCount count → ⊥) → HasFault file
  bad_count count b le stands none = fault_of file ColumnCount (at + 1) (record { count = count; to = b; part = part; stands = stands; is_number = le; no_column_count = none })

  -- a header, or a fault
  pub header_here : HasFault file ⊎ HeaderHere file at
  header_here = by (number_at (drop (at + 1) file)) refl
    where
      by : (read : Result (ℕ × ℕ) FieldFault) → number_at (drop (at + 1) file) ≡ read → HasFault file ⊎ HeaderHere file at
      by (Err d) e = inl (fault_of file (kind_of d.kind) (at + 1 + d.place) (no_count_case file d.kind (at + 1 + d.place) (record { at = at + 1; behind = d.place; part = part; fails = number_faults (drop (at + 1) file) d e; place_is = refl })))
      by (Ok x) e =
          let takes = number_takes (drop (at + 1) file) x.0 x.1 (AreBytes-drop (at + 1) file fits) e in
          let stands = Stands-read file (at + 1) x.1 (varint x.0) first.within takes.1 in
          elim (cases_lt 0 x.0) [
            | inl some ↦ elim (cases_lt 32767 x.0) [
              | inl many ↦ inl (bad_count x.0 (at + 1 + x.1) takes.0 stands (λ few. omega (arith, few, many)))
              | inr few ↦ flags_here x.0 (at + 1 + x.1) (some, few) stands
            ]
            | inr none ↦ inl (bad_count x.0 (at + 1 + x.1) takes.0 stands (λ few. omega (arith, few, none)))
          ]
