-- The file of a changeset whose key columns are numbered.
use Rattle.std.proofs.Common.{◌≡◌, ℕ, List, [], ◌++◌, length, sym, ap, ◌∙◌, append_assoc}
use Rattle.cs_wire.specs.declared.header.HeaderRef.{HeaderRef}
use Rattle.cs_wire.specs.Changeset.{HeaderData, GroupData, IsFileOf, header_bytes, entries_bytes, group_bytes, file_bytes}
use Rattle.cs_wire.specs.Headers.{header_of}
use Rattle.cs_file_scan.specs.Tables.{TablesData, EntriesLeft, IsNextTable}
use Rattle.cs_group.specs.Numbering.{numbered, numbered_header, numbered_group}
use Rattle.cs_group.proofs.NumberingLemmas.{IsChangeset-numbered, length_stays}
use Rattle.cs_files.specs.Files.{Numbers}
use Rattle.cs_files.proofs.PassLemmas.{WritesTables, WritesTables-next}

-- one more table is written
module _ (out written opened grown : List ℕ) (now : TablesData) (groups : List GroupData) (so : WritesTables (λ g. group_bytes (numbered_group g)) out written now groups) where
  pub numbered_table : (header : HeaderRef) (after next : TablesData) (is : IsNextTable so.passed.others header after) → opened ≡ written ++ header_bytes (numbered_header (header_of header))
      → grown ≡ opened ++ entries_bytes is.group.entries → EntriesLeft next [] is.others → WritesTables (λ g. group_bytes (numbered_group g)) out grown next groups
  unfolding group_bytes
  numbered_table header after next is opened_is grown_is left =
      let entries : List ℕ = entries_bytes is.group.entries in
      WritesTables-next (λ g. group_bytes (numbered_group g)) out written now groups so grown header after next is [] left
      (grown_is ∙ ap (λ (x : List ℕ). x ++ entries) (opened_is ∙ ap (λ (h : HeaderData). written ++ header_bytes (numbered_header h)) is.header_is)
      ∙ append_assoc written (header_bytes (numbered_header is.group.header)) entries)

-- the whole is numbered
pub file_numbered : (file out : List ℕ) (groups : List GroupData) → IsFileOf file groups → out ≡ file_bytes (numbered groups) → Numbers file out × (length out ≡ length file)
file_numbered file out groups is written = (
  record {
    changeset = groups;
    is_changeset = is.0;
    is_file = is.1;
    numbered_is_changeset = IsChangeset-numbered groups is.0;
    numbered_is_file = written;
  },
  ap length written ∙ length_stays groups ∙ sym (ap length is.1),
)
