-- Faults inside the header of a table.
use Rattle.std.proofs.Common.{◌≡◌, ℕ, ◌+◌, ◌<◌, ◌≤◌, List, [], ◌∷◌, length, take, drop, get_or, Any, arith, inl, inr}
use Rattle.std.specs.Prelude.{IsUtf8}
use Rattle.std.specs.List.{AllByRecursion}
use Rattle.std.proofs.lemmas.Bool.{cases_lt}
use Rattle.std.proofs.lemmas.List.{length-drop, length-take, get_or_default, nil_from_length}
use Rattle.std.proofs.lemmas.List.Elements.{recursion_from_All}
use Rattle.cs_value.specs.Varint.{varint}
use Rattle.cs_value.specs.Table.{IsFlags}
use Rattle.cs_wire_entries.specs.Changeset.{GroupData, flags_bytes}
use Rattle.cs_wire_entries.specs.ReadFaults.{Stands, TableStart, HeaderPart, IsColumnCount, HasNoKey, HasBadName}
use Rattle.cs_wire_entries.proofs.ReadingLemmas.{Stands-then, Stands-take, Stands-ended, no_zero_before}

-- after more of a header
pub HeaderPart-more : (file : List ℕ) (at to : ℕ) (text : List ℕ) → HeaderPart file [] at → Stands file at text to → HeaderPart file text to
HeaderPart-more file at to text part more = record { from = part.from; groups = part.groups; start = part.start; stands = Stands-then file part.from at to (0x54 ∷ []) text part.stands more }

-- after 0x54
pub HeaderPart-first : (file : List ℕ) (at to : ℕ) (groups : List GroupData) → TableStart file at groups → Stands file at (0x54 ∷ []) to → HeaderPart file [] to
HeaderPart-first file at to groups start first = record { from = at; groups = groups; start = start; stands = first }

-- flags that mark no key column
all_zero : (flags : List ℕ) → (Any (λ flag. 0 < flag) flags → ⊥) → AllByRecursion (λ flag. flag ≡ 0) flags
all_zero flags none = recursion_from_All (λ flag. flag ≡ 0) flags (λ k d lt.
    elim (cases_lt 0 (get_or flags k d)) [
      | inl gt ↦ absurd (none (k, get_or flags k d, lt, get_or_default flags k (get_or flags k d) d lt, gt))
      | inr le ↦ omega arith
    ])

pub no_key : (file : List ℕ) (at start count : ℕ) → HeaderPart file [] at → Stands file at (varint count) start → IsColumnCount count → start + count ≤ length file
    → (Any (λ flag. 0 < flag) (take count (drop start file)) → ⊥) → HasNoKey file start
no_key file at start count part head few le none =
    let flags = take count (drop start file) in
    let len : length flags ≡ count = omega (arith, length-take count (drop start file), length-drop start file) in
    record {
      flags = flags;
      to = start + count;
      part = rw len (HeaderPart-more file at start (varint count) part head);
      is_count = rw len few;
      stand = Stands-take file start count le;
      all_zero = all_zero flags none;
    }

-- a name that is empty
pub empty_name : (file : List ℕ) (at n : ℕ) (flags : List ℕ) → IsFlags flags → HeaderPart file (flags_bytes flags) at → n < length (drop at file) → get_or (drop at file) n 0 ≡ 0
    → ((k : ℕ) → k < n → get_or (drop at file) k 0 ≡ 0 → ⊥) → length (take n (drop at file)) ≡ 0 → HasBadName file at
empty_name file at n flags h part within at_end before none = record {
  flags = flags;
  name = take n (drop at file);
  to = at + n + 1;
  are_flags = h;
  part = part;
  stands = Stands-ended file at n within at_end;
  no_zero = no_zero_before (drop at file) n before;
  bad = inl (nil_from_length (take n (drop at file)) none);
}

-- a name that is not UTF-8
pub bad_name : (file : List ℕ) (at n : ℕ) (flags : List ℕ) → IsFlags flags → HeaderPart file (flags_bytes flags) at → n < length (drop at file) → get_or (drop at file) n 0 ≡ 0
    → ((k : ℕ) → k < n → get_or (drop at file) k 0 ≡ 0 → ⊥) → (IsUtf8 (take n (drop at file)) → ⊥) → HasBadName file at
bad_name file at n flags h part within at_end before not = record {
  flags = flags;
  name = take n (drop at file);
  to = at + n + 1;
  are_flags = h;
  part = part;
  stands = Stands-ended file at n within at_end;
  no_zero = no_zero_before (drop at file) n before;
  bad = inr not;
}
