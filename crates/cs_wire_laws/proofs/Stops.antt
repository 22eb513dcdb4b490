-- A file stops being that of a changeset at one place, for one reason.
use Rattle.std.proofs.Common.{◌≡◌, ℕ, List, [], ◌∷◌, ◌++◌, length, refl, sym, ap, ◌∙◌, arith, length-append, inl, inr}
use Rattle.std.specs.Prelude.{◌⊎◌}
use Rattle.std.proofs.lemmas.List.{same_from_push}
use Rattle.cs_wire_entries.specs.declared.entry.Entry.{Entry}
use Rattle.cs_wire_entries.specs.declared.fault.ReadFaultKind.{ReadFaultKind}
use Rattle.cs_wire_entries.specs.Changeset.{HeaderData, GroupData, file_bytes}
use Rattle.cs_wire.specs.Cursor.{IsOpen}
use Rattle.cs_wire_laws.proofs.Outcomes.{Outcome, Passes, Fails, Once, fails_not}
use Rattle.cs_wire_laws.proofs.HeaderOnce.{AtTable, table_once, header_found}
use Rattle.cs_wire_laws.proofs.EntryOnce.{AtEntry, entry_once, entry_found}
use Rattle.cs_wire_laws.proofs.Prefixes.{Full, Next, group_of, compare}

-- an entry of the last group may begin here
pub record InLast (all : List GroupData) (bytes : List ℕ) (o : Outcome) : Type 0 where
  pub groups : List GroupData
  pub header : HeaderData
  pub entries : List Entry
  pub is : all ≡ groups ++ group_of header entries ∷ []
  pub outcome : AtEntry header.flags entries (length (file_bytes all)) bytes o

-- what is found after groups
abbrev pub Found : List GroupData → List ℕ → Outcome → Type 0
Found all bytes o = (Full all × AtTable all bytes (length (file_bytes all)) o) ⊎ InLast all bytes o

-- the file begins with these groups, and this is found after them
pub record Stop (file : List ℕ) (o : Outcome) : Type 0 where
  pub groups : List GroupData
  pub rest : List ℕ
  pub is_open : IsOpen groups
  pub spelled : file ≡ file_bytes groups ++ rest
  pub found : Found groups rest o

-- ---- after the same groups

-- no entry begins where a table does
apart : (all : List GroupData) (bytes : List ℕ) (a b : Outcome) → Full all → AtTable all bytes (length (file_bytes all)) a → InLast all bytes b → ⊥
apart all [] a b full table last = table
apart all (c ∷ bytes) a b full table last = by table last.outcome
  where
    some : last.entries ≡ [] → ⊥
    some none = full last.groups last.header (last.is ∙ ap (λ (es : List Entry). last.groups ++ group_of last.header es ∷ []) none)

    by : AtTable all (c ∷ bytes) (length (file_bytes all)) a → AtEntry last.header.flags last.entries (length (file_bytes all)) (c ∷ bytes) b → ⊥
    by table (inl none) = some none.1
    by (inl table) (inr entry) = entry.0 table.0
    by (inr (inl patchset)) (inr entry) = entry.1 patchset.0
    by (inr (inr first)) (inr entry) = omega (arith, ap length (sym last.is ∙ first.0), length-append last.groups (group_of last.header last.entries ∷ []))

last_once : (all : List GroupData) (bytes : List ℕ) → Once (InLast all bytes)
last_once all bytes a b one two =
    let same = same_from_push one.groups two.groups (group_of one.header one.entries) (group_of two.header two.entries) (sym one.is ∙ two.is) in
    let flags : one.header.flags ≡ two.header.flags = ap (λ (g : GroupData). g.header.flags) same.1 in
    let entries : one.entries ≡ two.entries = ap (λ (g : GroupData). g.entries) same.1 in
    entry_once one.header.flags one.entries (length (file_bytes all)) bytes a b one.outcome (rw (flags, entries) two.outcome)

found_once : (all : List GroupData) (bytes : List ℕ) → Once (Found all bytes)
found_once all bytes a b (inl one) (inl two) = table_once all bytes (length (file_bytes all)) a b one.1 two.1
found_once all bytes a b (inr one) (inr two) = last_once all bytes a b one two
found_once all bytes a b (inl one) (inr two) = absurd (apart all bytes a b one.0 one.1 two)
found_once all bytes a b (inr one) (inl two) = absurd (apart all bytes b a two.0 two.1 one)

-- ---- after others

-- the next header or entry passes
passes : (all : List GroupData) (bytes : List ℕ) → Next all bytes → Found all bytes Passes
passes all bytes (inl next) = inl (next.full, rw next.spelled (header_found all next.header next.rest (length (file_bytes all)) Passes next.is_header (inr (next.fresh, refl))))
passes all bytes (inr next) = inr (record {
  groups = next.groups;
  header = next.header;
  entries = next.entries;
  is = next.is;
  outcome = rw next.spelled (entry_found next.header.flags next.entries (length (file_bytes all)) next.entry next.rest Passes next.is_entry (inr (next.fresh, refl)));
})

-- one fault at one place
pub stop_once : (file : List ℕ) (k l : ReadFaultKind) (p q : ℕ) → Stop file (Fails k p) → Stop file (Fails l q) → Fails k p ≡ Fails l q
stop_once file k l p q one two =
    elim (compare one.groups two.groups one.rest two.rest one.is_open two.is_open (sym one.spelled ∙ two.spelled)) [
      | inl same ↦ found_once one.groups one.rest (Fails k p) (Fails l q) one.found (rw (same.0, same.1) two.found)
      | inr (inl next) ↦ absurd (fails_not k p (found_once one.groups one.rest (Fails k p) Passes one.found (passes one.groups one.rest next)))
      | inr (inr next) ↦ absurd (fails_not l q (found_once two.groups two.rest (Fails l q) Passes two.found (passes two.groups two.rest next)))
    ]
