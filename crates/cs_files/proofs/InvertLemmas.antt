-- What is written of a file to undo it, table by table.
use Rattle.std.proofs.Common.{◌≡◌, ℕ, List, [], ◌++◌, length, map, sym, ap, ◌∙◌, append_assoc}
use Rattle.std.specs.List.{flat_map}
use Rattle.std.proofs.lemmas.List.Elements.{recursion_from_All}
use Rattle.std.proofs.lemmas.List.Folds.{flat_map-map}
use Rattle.cs_wire_entries.specs.declared.entry.Entry.{Entry}
use Rattle.cs_wire.specs.Entry.{IsEntry, entry_bytes}
use Rattle.cs_wire.specs.Changeset.{HeaderData, GroupData, IsFileOf, IsGroup, header_bytes, entries_bytes, group_bytes, file_bytes}
use Rattle.cs_wire.specs.Inverse.{IsInverseEntry}
use Rattle.cs_wire.specs.Items.{FlaggedEntry}
use Rattle.cs_file_scan.specs.Tables.{TablesData, EntriesLeft, IsNextEntry, IsNextTable}
use Rattle.cs_file_scan.specs.Visits.{IsVisited, group_text}
use Rattle.cs_wire.specs.Views.{inverse_entry}
use Rattle.cs_wire.specs.declared.header.HeaderRef.{HeaderRef}
use Rattle.cs_wire.specs.Headers.{header_of}
use Rattle.cs_group.specs.Inverse.{inverse_group}
use Rattle.cs_group.proofs.InverseGroups.{groups_inverse, inverse_is, IsChangeset-inverse}
use Rattle.cs_group.proofs.InverseLengths.{inverse_length}
use Rattle.cs_files.specs.Files.{Inverts}
use Rattle.cs_files.proofs.PassLemmas.{WritesEntries, WritesEntries-next, WritesTables, WritesTables-next}

-- ---- entries

-- one more is undone
module _ (flags out written grown : List ℕ) (now next : TablesData) (entries : List Entry) (groups : List GroupData) (so : WritesEntries (λ e. entry_bytes (inverse_entry flags e)) flags out written now entries groups) where
  pub inverted_next : (seen inverse : FlaggedEntry) → IsNextEntry now.flags so.passed.others groups seen next → inverse.flags ≡ seen.flags → IsEntry inverse.flags inverse.entry → IsInverseEntry seen.flags seen.entry inverse.entry
      → grown ≡ written ++ entry_bytes inverse.entry → WritesEntries (λ e. entry_bytes (inverse_entry flags e)) flags out grown next entries groups
  inverted_next seen inverse is flags_stay well_formed undoes grown_is =
      let fits : IsEntry seen.flags seen.entry = rw is.flags_are (rw is.is at so.passed.are_left.each).0 in
      let same : inverse.entry ≡ inverse_entry flags seen.entry =
      inverse_is seen.flags seen.entry inverse.entry fits (rw flags_stay at well_formed) undoes ∙ ap (λ (f : List ℕ). inverse_entry f seen.entry) (is.flags_are ∙ so.same) in
      WritesEntries-next (λ e. entry_bytes (inverse_entry flags e)) flags out written now entries groups so grown next seen is (grown_is ∙ ap (λ (e : Entry). written ++ entry_bytes e) same)

-- ---- tables

-- one more is undone
module _ (out written opened grown : List ℕ) (now : TablesData) (groups : List GroupData) (so : WritesTables (λ g. group_bytes (inverse_group g)) out written now groups) where
  pub inverted_table : (header : HeaderRef) (after next : TablesData) (is : IsNextTable so.passed.others header after) → opened ≡ written ++ header_bytes (header_of header)
      → grown ≡ opened ++ entries_bytes (map (inverse_entry after.flags) is.group.entries) → EntriesLeft next [] is.others → WritesTables (λ g. group_bytes (inverse_group g)) out grown next groups
  unfolding group_bytes
  inverted_table header after next is opened_is grown_is left =
      let h = is.group.header in
      let entries : List ℕ = entries_bytes (map (inverse_entry h.flags) is.group.entries) in
      WritesTables-next (λ g. group_bytes (inverse_group g)) out written now groups so grown header after next is [] left
      (grown_is ∙ ap (λ (f : List ℕ). opened ++ entries_bytes (map (inverse_entry f) is.group.entries)) is.flags_are
      ∙ ap (λ (x : List ℕ). x ++ entries) (opened_is ∙ ap (λ (x : HeaderData). written ++ header_bytes x) is.header_is)
      ∙ append_assoc written (header_bytes h) entries)

-- ---- the file

-- the whole is inverted
pub inverted : (file out : List ℕ) (groups : List GroupData) → IsFileOf file groups → out ≡ file_bytes (map inverse_group groups) → Inverts file out × (length out ≡ length file)
inverted file out groups is written =
    let inverse = map inverse_group groups in
    let is_inverse = (groups_inverse groups (recursion_from_All IsGroup groups is.0.each)).1 in
    let is_changeset = IsChangeset-inverse groups is.0 in (
      record {
        changeset = groups;
        inverse = inverse;
        is_changeset = is.0;
        is_file = is.1;
        is_inverse = is_inverse;
        inverse_is_changeset = is_changeset;
        inverse_is_file = written;
      },
      ap length written ∙ inverse_length groups inverse is.0 is_changeset is_inverse ∙ sym (ap length is.1),
    )

-- ---- the file, as it is visited

-- what is appended for an entry
abbrev pub inverse_text : List ℕ → Entry → List ℕ
inverse_text flags entry = entry_bytes (inverse_entry flags entry)

-- and for a table is the group that undoes it
inverse_group_text : (group : GroupData) → group_text header_bytes inverse_text group ≡ group_bytes (inverse_group group)
unfolding group_bytes
inverse_group_text group = ap (λ (l : List ℕ). header_bytes group.header ++ l) (sym (flat_map-map entry_bytes (inverse_entry group.header.flags) group.entries))

-- the whole that is visited is inverted
pub visited_inverted : (file old out : List ℕ) → old ≡ [] → IsVisited (group_text header_bytes inverse_text) file old out → Inverts file out × (length out ≡ length file)
visited_inverted file old out none is =
    let text : flat_map (group_text header_bytes inverse_text) is.groups ≡ file_bytes (map inverse_group is.groups) =
    ap (λ (f : GroupData → List ℕ). flat_map f is.groups) (λ i group. inverse_group_text group i) ∙ sym (flat_map-map group_bytes inverse_group is.groups) in
    inverted file out is.groups is.is_file (is.written ∙ ap (λ (l : List ℕ). l ++ flat_map (group_text header_bytes inverse_text) is.groups) none ∙ text)
