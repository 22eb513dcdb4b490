-- The bytes of groups, and where the entries of a group begin.
use Rattle.std.proofs.Common.{◌≡◌, ◌≢◌, ℕ, ◌<◌, List, [], ◌∷◌, ◌++◌, length, All, refl, append_assoc, arith, inl, inr}
use Rattle.std.specs.Prelude.{slice_get, Some}
use Rattle.std.proofs.lemmas.List.{append-nil}
use Rattle.std.proofs.lemmas.List.Elements.{All-nil}
use Rattle.cs_wire_entries.specs.Entry.{IsEntry}
use Rattle.cs_wire_entries.specs.Changeset.{HeaderData, GroupData, IsHeader, header_bytes, entries_bytes, group_bytes, file_bytes}
use Rattle.cs_wire_entries.specs.ReadFaults.{Stands, TableStart, EntryStart}
use Rattle.cs_wire_entries.specs.Reading.{EndsGroup}
use Rattle.cs_wire_entries.proofs.ReadingLemmas.{Stands-then}

-- the header of a group, and what follows it
pub group_bytes-append : (group : GroupData) (rest : List ℕ) → group_bytes group ++ rest ≡ header_bytes group.header ++ (entries_bytes group.entries ++ rest)
unfolding group_bytes
group_bytes-append group rest = append_assoc (header_bytes group.header) (entries_bytes group.entries) rest

pub Stands-group : (file : List ℕ) (at a b : ℕ) (group : GroupData) → Stands file at (header_bytes group.header) a → Stands file a (entries_bytes group.entries) b → Stands file at (group_bytes group) b
unfolding group_bytes
Stands-group file at a b group header entries = Stands-then file at a b _ _ header entries

pub same_group : (g h : GroupData) → g.header ≡ h.header → g.entries ≡ h.entries → g ≡ h
same_group g h p q = λ i. record { header = p i; entries = q i }

-- a group begins with the byte of a header
pub group_first : (group : GroupData) (tail : List ℕ) → slice_get (group_bytes group ++ tail) 0 ≡ Some 0x54
unfolding group_bytes header_bytes
group_first group tail = refl

pub group_bytes_some : (group : GroupData) → 0 < length (group_bytes group)
unfolding group_bytes header_bytes
group_bytes_some group = omega arith

-- what follows a group of a file ends it
pub ends_group : (others : List GroupData) → EndsGroup (file_bytes others)
ends_group [] = inl refl
ends_group (group ∷ others) = inr (group_first group (file_bytes others))

-- after the header of a new table its entries begin
abbrev pub EntryStart-none : (file : List ℕ) (at end : ℕ) (groups : List GroupData) (header : HeaderData) → TableStart file at groups → IsHeader header → All (λ g. g.header.name ≢ header.name) groups
    → Stands file at (header_bytes header) end → EntryStart file end header []
EntryStart-none file at end groups header start is new stands = record {
  from = at;
  groups = groups;
  start = start;
  is_header = is;
  new_table = new;
  each = All-nil (IsEntry header.flags);
  once = λ i j d lt in_list. absurd (omega arith);
  stand = rw (append-nil (header_bytes header)) stands;
}
