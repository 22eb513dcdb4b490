-- The tables of a file that are named.
use Rattle.std.proofs.Common.{◌≡◌, ℕ, ◌≤◌, Bool, true, false, cond, List, [], ◌∷◌, ◌++◌, length, length-append, refl, ap, ◌∙◌, arith}
use Rattle.std.specs.List.{flat_map}
use Rattle.std.proofs.lemmas.List.Elements.{All-filter}
use Rattle.std.proofs.lemmas.List.Kept.{AllPairs-filter}
use Rattle.cs_wire_entries.specs.declared.entry.Entry.{Entry}
use Rattle.cs_wire.specs.declared.header.HeaderRef.{HeaderRef}
use Rattle.cs_wire.specs.Changeset.{HeaderData, GroupData, IsChangeset, IsFileOf, IsGroup, entries_bytes, file_bytes, group_bytes, header_bytes}
use Rattle.cs_wire.specs.Headers.{header_of}
use Rattle.cs_file_scan.specs.Tables.{TablesData, EntriesLeft, IsNextTable}
use Rattle.cs_files.proofs.PassLemmas.{WritesTables, WritesTables-next}
use Rattle.cs_files.specs.Selecting.{Selects, is_among, selected}

-- what is written of a group: its bytes, if it is named
abbrev pub group_text : List ℕ → GroupData → List ℕ
group_text names group = cond (is_among names group.header.name) (group_bytes group) []

-- of all groups the bytes of the selected ones are written
pub selected_bytes : (names : List ℕ) (groups : List GroupData) → flat_map (group_text names) groups ≡ file_bytes (selected names groups)
selected_bytes names [] = refl
selected_bytes names (group ∷ groups) = by (is_among names group.header.name) refl (selected_bytes names groups)
  where
    by : (named : Bool) → is_among names group.header.name ≡ named → flat_map (group_text names) groups ≡ file_bytes (selected names groups)
        → flat_map (group_text names) (group ∷ groups) ≡ file_bytes (selected names (group ∷ groups))
    by true is others = rw is (ap (λ (x : List ℕ). group_bytes group ++ x) others)
    by false is others = rw is others

-- they are no more than the file has
pub selected_length : (names : List ℕ) (groups : List GroupData) → length (file_bytes (selected names groups)) ≤ length (file_bytes groups)
selected_length names [] = omega arith
selected_length names (group ∷ groups) = by (is_among names group.header.name) refl (selected_length names groups)
  where
    by : (named : Bool) → is_among names group.header.name ≡ named → length (file_bytes (selected names groups)) ≤ length (file_bytes groups)
        → length (file_bytes (selected names (group ∷ groups))) ≤ length (file_bytes (group ∷ groups))
    by true is others = rw is (omega (arith, others, length-append (group_bytes group) (file_bytes (selected names groups)), length-append (group_bytes group) (file_bytes groups)))
    by false is others = rw is (omega (arith, others, length-append (group_bytes group) (file_bytes groups)))

-- the selected groups are a changeset
pub IsChangeset-selected : (names : List ℕ) (groups : List GroupData) → IsChangeset groups → IsChangeset (selected names groups)
IsChangeset-selected names groups is = record {
  each = All-filter (λ g. is_among names g.header.name) IsGroup groups is.each;
  once = AllPairs-filter (λ g h. g.header.name ≡ h.header.name → ⊥) (λ g. is_among names g.header.name) groups is.once;
}

pub file_selected : (names file out : List ℕ) (groups : List GroupData) → IsFileOf file groups → out ≡ file_bytes (selected names groups) → Selects names file out × (length out ≤ length file)
file_selected names file out groups is written = (
  record {
    changeset = groups;
    is_changeset = is.0;
    is_file = is.1;
    selected_is_changeset = IsChangeset-selected names groups is.0;
    selected_is_file = written;
  },
  omega (arith, ap length written, selected_length names groups, ap length is.1),
)

-- one more table is passed, and written if it is named
module _ (names out written grown : List ℕ) (now : TablesData) (groups : List GroupData) (so : WritesTables (group_text names) out written now groups) where
  pub table_selected : (header : HeaderRef) (opened next : TablesData) (is : IsNextTable so.passed.others header opened) (entries : List Entry) → EntriesLeft next entries is.others
      → grown ≡ written ++ cond (is_among names header.name.now) (header_bytes (header_of header) ++ entries_bytes is.group.entries) [] → WritesTables (group_text names) out grown next groups
  unfolding group_bytes
  table_selected header opened next is entries left grown_is =
      WritesTables-next (group_text names) out written now groups so grown header opened next is entries left
      (grown_is ∙ ap (λ (h : HeaderData). written ++ cond (is_among names h.name) (header_bytes h ++ entries_bytes is.group.entries) []) is.header_is)
