-- The definitions of inverses and concatenations, on a table `t` of two columns, with the first as its key.
use Rattle.std.proofs.Common.{◌≡◌, ℕ, pos, Bool, true, List, [], ◌∷◌}
use Rattle.std.proofs.Common.{is_some, true≢false, refl, sym, ap, arith}
use Rattle.cs_value.specs.declared.value.OwnedValue.{OwnedValue}
use Rattle.cs_value.specs.declared.value.OwnedValue.TheVariants.{Int, Null}
use Rattle.cs_value.specs.Varint.{leading_digits, varint}
use Rattle.cs_value.specs.Spelling.{counted, value_bytes, field_bytes}
use Rattle.cs_wire_entries.specs.declared.entry.Change.{Change}
use Rattle.cs_wire_entries.specs.declared.entry.Change.TheVariants.{Insert, Delete}
use Rattle.cs_wire_entries.specs.declared.fault.ReadFaultKind.TheVariants.{NotTable}
use Rattle.cs_wire_entries.specs.declared.entry.Entry.{Entry}
use Rattle.cs_wire.specs.Entry.{key_of, entry_bytes}
use Rattle.cs_wire.specs.Changeset.{ImageData, image_of, IsHeader, GroupData, IsChangeset, file_bytes}
use Rattle.cs_wire.specs.Changeset.{flags_bytes, header_bytes, group_bytes}
use Rattle.cs_wire.proofs.Examples.{header, group, one_change_of, one_change, x, y, row, update, insert_file, delete_file, update_file, update_back_file, insert_is_spelled, delete_is_spelled, update_is_spelled, update_back_is_spelled}
use Rattle.cs_wire.proofs.Examples.{insert_is_changeset, delete_is_changeset, update_is_changeset, update_back_is_changeset, idle_update, no_group_is_changeset, keys_header, keys_row, keys_file, keys_insert_is_changeset, keys_delete_is_changeset, keys_insert_is_spelled, keys_delete_is_spelled, letter_is_refused}
use Rattle.cs_wire.proofs.Examples.{flags, header_is, one_is_changeset, one_change_is_changeset, row_is, row_is_keyed}
use Rattle.cs_wire.proofs.Examples.{y_is, insert_file_is_accepted}
use Rattle.cs_wire.specs.Inverse.{exchanged, IsInverseEntry, IsInverseGroup}
use Rattle.cs_group.specs.Inverse.{IsInverse}
use Rattle.cs_group.proofs.Examples.{one_table_agrees, wider, wide, first_clashes}
use Rattle.cs_group.specs.Joining.{IsJoined}
use Rattle.cs_files.specs.Files.{Inverts, AreFiles, Joins, JoinFails}
use Rattle.cs_files.specs.declared.fault.FileFault.TheVariants.{First, Second, Schema as Tables}

spelling : Unit {0}
unfolding leading_digits varint counted value_bytes field_bytes entry_bytes flags_bytes header_bytes group_bytes
spelling = tt

-- inverses

-- whether there was a row before
abbrev stood : ImageData → Bool
stood image = is_some image.before

undone : {flags : List ℕ} {entry inverse : Entry} → inverse.indirect ≡ entry.indirect
    → key_of flags inverse.change ≡ key_of flags entry.change
    → image_of flags inverse ≡ exchanged (image_of flags entry) → IsInverseEntry flags entry inverse
undone indirect key image = record { indirect = indirect; key = key; image = image }

abbrev other_row : List OwnedValue
other_row = Int (pos 2) ∷ y ∷ []

changes_are_undone :
    IsInverse (one_change (Insert row)) (one_change (Delete row))
    × IsInverse (one_change (Delete row)) (one_change (Insert row))
    × IsInverseGroup (group (update x y ∷ [])) (group (update y x ∷ []))
    -- an update that modifies no column undoes itself, and so does one that leaves a value as it is
    × IsInverseGroup (group (idle_update ∷ [])) (group (idle_update ∷ []))
    × IsInverseGroup (group (update x x ∷ [])) (group (update x x ∷ []))
    -- the changes of a table are undone each in its place
    × IsInverseGroup (group (Insert row ∷ Delete other_row ∷ [])) (group (Delete row ∷ Insert other_row ∷ []))
changes_are_undone = (
  (record { header = refl; entries = (undone refl refl refl, tt) }, tt),
  (record { header = refl; entries = (undone refl refl refl, tt) }, tt),
  record { header = refl; entries = (undone refl refl refl, tt) },
  record { header = refl; entries = (undone refl refl refl, tt) },
  record { header = refl; entries = (undone refl refl refl, tt) },
  record { header = refl; entries = (undone refl refl refl, (undone refl refl refl, tt)) },
)

-- and not in the opposite order
order_is_kept : IsInverseGroup (group (Insert row ∷ Delete other_row ∷ [])) (group (Insert other_row ∷ Delete row ∷ [])) → ⊥
order_is_kept h = true≢false (sym (ap stood h.entries.0.image))

-- a change does not undo itself
insert_is_not_insert : IsInverse (one_change (Insert row)) (one_change (Insert row)) → ⊥
insert_is_not_insert h = true≢false (sym (ap stood h.0.entries.0.image))

-- the inverse of an indirect change is indirect
indirect_is_kept : (changes : List Change)
    → IsInverseGroup (record { header = header; entries = record { indirect = true; change = Insert row } ∷ [] }) (group changes) → ⊥
indirect_is_kept [] h = absurd h.entries
indirect_is_kept (change ∷ changes) h = cc (h.entries.0.indirect)

-- files

-- the file of a changeset
record IsFile (file : List ℕ) (changeset : List GroupData) : Type 0 where
  is : IsChangeset changeset
  spelled : file_bytes changeset ≡ file

no_file : IsFile [] []
no_file = record { is = no_group_is_changeset; spelled = refl }

-- of the insertion and of the deletion of (1, 'x')
of_insert : IsFile insert_file (one_change (Insert row))
of_insert = record { is = insert_is_changeset; spelled = insert_is_spelled }

of_delete : IsFile delete_file (one_change (Delete row))
of_delete = record { is = delete_is_changeset; spelled = delete_is_spelled }

-- of the update of 'x' to 'y', and back
of_update : IsFile update_file (one_change (update x y))
of_update = record { is = update_is_changeset; spelled = update_is_spelled }

of_update_back : IsFile update_back_file (one_change (update y x))
of_update_back = record { is = update_back_is_changeset; spelled = update_back_is_spelled }

-- of the insertion and of the deletion of (1, 2)
of_keys_insert : IsFile (keys_file 0x12) (one_change_of keys_header (Insert keys_row))
of_keys_insert = record { is = keys_insert_is_changeset; spelled = keys_insert_is_spelled }

of_keys_delete : IsFile (keys_file 0x09) (one_change_of keys_header (Delete keys_row))
of_keys_delete = record { is = keys_delete_is_changeset; spelled = keys_delete_is_spelled }

inverts : {file out : List ℕ} {changeset inverse : List GroupData} → IsFile file changeset → IsFile out inverse
    → IsInverse changeset inverse → Inverts file out
inverts {changeset = changeset} {inverse = inverse} of out_of is = record {
  changeset = changeset;
  inverse = inverse;
  is_changeset = of.is;
  is_file = sym of.spelled;
  is_inverse = is;
  inverse_is_changeset = out_of.is;
  inverse_is_file = sym out_of.spelled;
}

pub insert_file_inverts : Inverts insert_file delete_file
insert_file_inverts = inverts of_insert of_delete changes_are_undone.0

files_invert :
    Inverts delete_file insert_file
    × Inverts update_file update_back_file
    × Inverts [] []
    × Inverts (keys_file 0x12) (keys_file 0x09)  -- with the same flags
files_invert = (
  inverts of_delete of_insert changes_are_undone.1,
  inverts of_update of_update_back (changes_are_undone.2, tt),
  inverts no_file no_file tt,
  inverts of_keys_insert of_keys_delete (record { header = refl; entries = (undone refl refl refl, tt) }, tt),
)

-- joins

-- the row (1, 'y')
abbrev later_row : List OwnedValue
later_row = Int (pos 1) ∷ y ∷ []

abbrev pub later_file : List ℕ
later_file = 0x54 ∷ 0x02 ∷ 0x01 ∷ 0x00 ∷ 0x74 ∷ 0x00 ∷ 0x12 ∷ 0x00 ∷ 0x01 ∷ 0 ∷ 0 ∷ 0 ∷ 0 ∷ 0 ∷ 0 ∷ 0 ∷ 1
    ∷ 0x03 ∷ 0x01 ∷ 0x79 ∷ []

-- the file of the insertion of (1, 'y')
of_later : IsFile later_file (one_change (Insert later_row))
unfolding spelling
of_later = record { is = one_change_is_changeset (Insert later_row) ((row_is.0, y_is), row_is_keyed); spelled = refl }

changesets_are_joined :
    IsJoined (one_change (Delete row)) (one_change (Insert row)) []
    × IsJoined (one_change (update x y)) (one_change (update y x)) []
    × IsJoined (one_change (Insert row)) (one_change (update x y)) (one_change (Insert later_row))
unfolding value_bytes field_bytes
changesets_are_joined = (
  record { joinable = one_table_agrees (Delete row) (Insert row); is_joined = refl; is_changeset = no_file.is },
  record { joinable = one_table_agrees (update x y) (update y x); is_joined = refl; is_changeset = no_file.is },
  record { joinable = one_table_agrees (Insert row) (update x y); is_joined = refl; is_changeset = of_later.is },
)

are_files : {first second : List ℕ} {changeset other : List GroupData} → IsFile first changeset → IsFile second other
    → AreFiles first second changeset other
are_files of other_of = record {
  is_changeset = of.is;
  is_file = sym of.spelled;
  other_is_changeset = other_of.is;
  other_is_file = sym other_of.spelled;
}

joins : {first second out : List ℕ} {changeset other join : List GroupData} → IsFile first changeset
    → IsFile second other → IsFile out join → IsJoined changeset other join → Joins first second out
joins {changeset = changeset} {other = other} {join = join} of other_of out_of is = record {
  changeset = changeset;
  other = other;
  join = join;
  are_files = are_files of other_of;
  is_joined = is;
  join_is_file = sym out_of.spelled;
}

files_join : Joins delete_file insert_file [] × Joins update_file update_back_file []
files_join = (
  joins of_delete of_insert no_file changesets_are_joined.0,
  joins of_update of_update_back no_file changesets_are_joined.1,
)

pub insert_file_joins_update : Joins insert_file update_file later_file
insert_file_joins_update = joins of_insert of_update of_later changesets_are_joined.2

-- the byte 41 is joined with no file: that is no table
letter_is_not_joined : (second : List ℕ) → JoinFails (0x41 ∷ []) second (First (record { kind = NotTable; place = 0 }))
letter_is_not_joined second = letter_is_refused

-- nor is the file of the insertion joined with it
letter_is_not_joined_after : JoinFails insert_file (0x41 ∷ []) (Second (record { kind = NotTable; place = 0 }))
letter_is_not_joined_after = (insert_file_is_accepted, letter_is_refused)

-- the file of the insertion of (1, NULL, NULL) into a table `t` of three columns
abbrev wide_file : List ℕ
wide_file = 0x54 ∷ 0x03 ∷ 0x01 ∷ 0x00 ∷ 0x00 ∷ 0x74 ∷ 0x00 ∷ 0x12 ∷ 0x00 ∷ 0x01 ∷ 0 ∷ 0 ∷ 0 ∷ 0 ∷ 0 ∷ 0 ∷ 0 ∷ 1
    ∷ 0x05 ∷ 0x05 ∷ []

-- three columns with a key are a header
wider_is_header : IsHeader wider
wider_is_header = record {
  name = header_is.name;
  flags = record {
    bytes = (omega arith, (omega arith, (omega arith, tt)));
    few = omega arith;
    some_key = (0, 1, omega arith, refl, omega arith);
  };
}

of_wide : IsFile wide_file wide
unfolding spelling
of_wide = record {
  is =
      one_is_changeset wider (Insert (Int (pos 1) ∷ Null ∷ Null ∷ [])) wider_is_header
      ((row_is.0, (tt, (tt, tt))), (λ same. cc, tt));
  spelled = refl;
}

-- it is not joined with that of the insertion of (1, 'x'), because of the table at the place 0 of the second one
wide_file_is_not_joined : JoinFails insert_file wide_file (Tables (record { place = 0 }))
wide_file_is_not_joined = record {
  changeset = one_change (Insert row);
  other = wide;
  are_files = are_files of_insert of_wide;
  clash = first_clashes;
}
