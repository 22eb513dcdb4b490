-- What is written of a file as it is gone through, entry by entry and table by table.
use Rattle.std.proofs.Common.{◌≡◌, ℕ, ◌+◌, ◌<◌, ◌≤◌, List, [], ◌∷◌, ◌++◌, length, take, get_or, refl, sym, ap, ◌∙◌, append_assoc, append-nil}
use Rattle.std.specs.List.{flat_map}
use Rattle.std.proofs.lemmas.List.{take_all}
use Rattle.cs_value.proofs.ListLemmas.{flat_map_take_more_at}
use Rattle.cs_wire_entries.specs.declared.entry.Entry.{Entry}
use Rattle.cs_wire.specs.declared.header.HeaderRef.{HeaderRef}
use Rattle.cs_wire.specs.Changeset.{GroupData}
use Rattle.cs_wire.specs.Items.{FlaggedEntry}
use Rattle.cs_file_scan.specs.Tables.{TablesData, EntriesLeft, IsNextEntry, IsNextTable}
use Rattle.cs_file_scan.proofs.TablesLemmas.{PassedEntries, PassedEntries-next, PassedEntries-all}
use Rattle.cs_file_scan.proofs.VisitLemmas.{more_written}

-- ---- things of a list

module _ {X : Type 0} (text : X → List ℕ) (xs : List X) (i : ℕ) (out now : List ℕ) (so : now ≡ out ++ flat_map text (take i xs)) where
  -- one more is written
  pub written_next : (x : X) (grown piece : List ℕ) → i < length xs → x ≡ get_or xs i x → grown ≡ now ++ piece → piece ≡ text x → grown ≡ out ++ flat_map text (take (i + 1) xs)
  written_next x grown piece lt is grown_is piece_is =
      grown_is ∙ ap (λ (l : List ℕ). l ++ piece) so ∙ append_assoc out (flat_map text (take i xs)) piece
      ∙ ap (λ (l : List ℕ). out ++ l) (ap (λ (l : List ℕ). flat_map text (take i xs) ++ l) piece_is ∙ sym (flat_map_take_more_at xs i x lt is text))

  -- and all are
  pub written_last : (whole : List ℕ) → length xs ≤ i → flat_map text xs ≡ whole → now ≡ out ++ whole
  written_last whole le is = so ∙ ap (λ (l : List X). out ++ flat_map text l) (take_all i xs le) ∙ ap (λ (l : List ℕ). out ++ l) is

-- ---- entries

-- of these entries some were passed, and this was written of each
pub record WritesEntries (text : Entry → List ℕ) (flags out written : List ℕ) (now : TablesData) (entries : List Entry) (groups : List GroupData) : Type 0 where
  pub before : List Entry
  pub passed : PassedEntries before now entries groups
  pub same : now.flags ≡ flags
  pub so_far : written ≡ out ++ flat_map text before

abbrev pub WritesEntries-none : (text : Entry → List ℕ) (out : List ℕ) (now : TablesData) (entries : List Entry) (groups : List GroupData) → EntriesLeft now entries groups → WritesEntries text now.flags out out now entries groups
WritesEntries-none text out now entries groups left = record {
  before = [];
  passed = record { others = entries; whole = refl; are_left = left };
  same = refl;
  so_far = sym (append-nil out);
}

module _ (text : Entry → List ℕ) (flags out written : List ℕ) (now : TablesData) (entries : List Entry) (groups : List GroupData) (so : WritesEntries text flags out written now entries groups) where
  abbrev pub WritesEntries-next : (grown : List ℕ) (next : TablesData) (seen : FlaggedEntry) → IsNextEntry now.flags so.passed.others groups seen next → grown ≡ written ++ text seen.entry
      → WritesEntries text flags out grown next entries groups
  WritesEntries-next grown next seen is grown_is = record {
    before = so.before ++ seen.entry ∷ [];
    passed = PassedEntries-next so.before (so.before ++ seen.entry ∷ []) now next entries groups so.passed seen is refl;
    same = is.flags_stay ∙ so.same;
    so_far = more_written text out written grown so.before seen.entry so.so_far grown_is;
  }

  pub WritesEntries-all : so.passed.others ≡ [] → written ≡ out ++ flat_map text entries
  WritesEntries-all none = so.so_far ∙ ap (λ (es : List Entry). out ++ flat_map text es) (sym (PassedEntries-all so.before now entries groups so.passed none))

-- ---- tables

-- of these groups these were passed, but for these entries of the last of them
pub record PassedTables (before : List GroupData) (now : TablesData) (groups : List GroupData) : Type 0 where
  pub entries : List Entry
  pub others : List GroupData
  pub whole : groups ≡ before ++ others
  pub are_left : EntriesLeft now entries others

pub PassedTables-none : (now : TablesData) (groups : List GroupData) → EntriesLeft now [] groups → PassedTables [] now groups
PassedTables-none now groups left = record { entries = []; others = groups; whole = refl; are_left = left }

module _ (before : List GroupData) (now : TablesData) (groups : List GroupData) (so : PassedTables before now groups) where
  pub PassedTables-next : (header : HeaderRef) (opened next : TablesData) (is : IsNextTable so.others header opened) (entries : List Entry) → EntriesLeft next entries is.others → PassedTables (before ++ is.group ∷ []) next groups
  PassedTables-next header opened next is entries left = record {
    entries = entries;
    others = is.others;
    whole = so.whole ∙ ap (λ (gs : List GroupData). before ++ gs) is.is ∙ sym (append_assoc before (is.group ∷ []) is.others);
    are_left = left;
  }

  pub PassedTables-all : so.others ≡ [] → groups ≡ before
  PassedTables-all none = so.whole ∙ ap (λ (gs : List GroupData). before ++ gs) none ∙ append-nil before

-- and this was written of each
pub record WritesTables (text : GroupData → List ℕ) (out written : List ℕ) (now : TablesData) (groups : List GroupData) : Type 0 where
  pub before : List GroupData
  pub passed : PassedTables before now groups
  pub so_far : written ≡ out ++ flat_map text before

pub WritesTables-none : (text : GroupData → List ℕ) (out : List ℕ) (now : TablesData) (groups : List GroupData) → EntriesLeft now [] groups → WritesTables text out out now groups
WritesTables-none text out now groups left = record { before = []; passed = PassedTables-none now groups left; so_far = sym (append-nil out) }

module _ (text : GroupData → List ℕ) (out written : List ℕ) (now : TablesData) (groups : List GroupData) (so : WritesTables text out written now groups) where
  pub WritesTables-next : (grown : List ℕ) (header : HeaderRef) (opened next : TablesData) (is : IsNextTable so.passed.others header opened) (entries : List Entry) → EntriesLeft next entries is.others
      → grown ≡ written ++ text is.group → WritesTables text out grown next groups
  WritesTables-next grown header opened next is entries left grown_is = record {
    before = so.before ++ is.group ∷ [];
    passed = PassedTables-next so.before now groups so.passed header opened next is entries left;
    so_far = more_written text out written grown so.before is.group so.so_far grown_is;
  }

  pub WritesTables-all : so.passed.others ≡ [] → written ≡ out ++ flat_map text groups
  WritesTables-all none = so.so_far ∙ ap (λ (gs : List GroupData). out ++ flat_map text gs) (sym (PassedTables-all so.before now groups so.passed none))
