-- The file of the inverse of a changeset is as long as that of the changeset.
use Rattle.std.proofs.Common.{◌≡◌, ℕ, zero, suc, ◌+◌, List, [], ◌∷◌, length, length-append, Some, refl, ap, arith}
use Rattle.std.specs.List.{AllByRecursion, AllZip}
use Rattle.std.proofs.lemmas.List.Elements.{recursion_from_All}
use Rattle.cs_value.specs.declared.value.OwnedField.{OwnedField}
use Rattle.cs_wire_entries.specs.declared.entry.Change.{Change}
use Rattle.cs_wire_entries.specs.declared.entry.Change.TheVariants.{Insert, Delete, Update}
use Rattle.cs_wire_entries.specs.declared.entry.Entry.{Entry}
use Rattle.cs_wire.specs.Entry.{IsKeyedUpdate, IsChange, IsEntry, with_key, entry_bytes}
use Rattle.cs_wire.specs.Changeset.{HeaderData, GroupData, IsGroup, IsChangeset, header_bytes, entries_bytes, group_bytes, file_bytes}
use Rattle.cs_wire.specs.Inverse.{IsInverseEntry, IsInverseGroup}
use Rattle.cs_wire.specs.Views.{inverse_change, inverse_entry}
use Rattle.cs_wire.proofs.EntryInverses.{entry_inverses}
use Rattle.cs_wire_entries.proofs.InverseLemmas.{IsEntry-inverse, inverse_entry_is, each_entry}
use Rattle.cs_group.specs.Inverse.{IsInverse}
use Rattle.cs_group.proofs.EntryLengths.{record_length, record_more, change_length, update_length, entry_length_is}
use Rattle.cs_group.proofs.JoinLengths.{group_length}

-- the two records of an update and those of its inverse have the same fields
exchanged_length : (flags : List ℕ) (old new : List OwnedField) → IsKeyedUpdate flags old new
    → record_length (with_key flags old new) + record_length (with_key flags new old) ≡ record_length old + record_length new
exchanged_length [] [] [] h = refl
exchanged_length [] [] (n ∷ new) h = absurd h
exchanged_length [] (o ∷ old) new h = absurd h
exchanged_length (zero ∷ flags) [] new h = absurd h
exchanged_length (suc flag ∷ flags) [] new h = absurd h
exchanged_length (zero ∷ flags) (o ∷ old) [] h = absurd h
exchanged_length (suc flag ∷ flags) (o ∷ old) [] h = absurd h
exchanged_length (zero ∷ flags) (o ∷ old) (n ∷ new) h =
    omega (arith, exchanged_length flags old new h.1, record_more n (with_key flags old new), record_more o (with_key flags new old), record_more o old, record_more n new)
exchanged_length (suc flag ∷ flags) (o ∷ old) (n ∷ new) h =
    omega (arith, exchanged_length flags old new h.1, record_more o (with_key flags old new), record_more n (with_key flags new old), record_more o old, record_more n new)

-- so a change is as long as its inverse
inverse_change_length : (flags : List ℕ) (change : Change) → IsChange flags change → change_length (Some (inverse_change flags change)) ≡ change_length (Some change)
inverse_change_length flags (Insert row) h = refl
inverse_change_length flags (Delete row) h = refl
inverse_change_length flags (Update old new) h =
    omega (arith, update_length (with_key flags old new) (with_key flags new old), update_length old new, exchanged_length flags old new h.2)

-- and an entry
inverse_entry_length : (flags : List ℕ) (entry inverse : Entry) → IsEntry flags entry → IsEntry flags inverse → IsInverseEntry flags entry inverse → length (entry_bytes inverse) ≡ length (entry_bytes entry)
inverse_entry_length flags entry inverse p q is =
    let other = inverse_entry flags entry in
    let alone = entry_inverses flags entry inverse other q (IsEntry-inverse flags entry p) is (inverse_entry_is flags entry p) in
    omega (arith, ap (λ (e : Entry). length (entry_bytes e)) alone, entry_length_is other, entry_length_is entry, inverse_change_length flags entry.change p)

-- and entries
inverse_entries_length : (flags : List ℕ) (es is : List Entry) → AllByRecursion (IsEntry flags) es → AllByRecursion (IsEntry flags) is → AllZip (IsInverseEntry flags) es is
    → length (entries_bytes is) ≡ length (entries_bytes es)
inverse_entries_length flags [] [] p q h = refl
inverse_entries_length flags [] (i ∷ is) p q h = absurd h
inverse_entries_length flags (e ∷ es) [] p q h = absurd h
inverse_entries_length flags (e ∷ es) (i ∷ is) p q h =
    omega (
      arith,
      inverse_entry_length flags e i p.0 q.0 h.0,
      inverse_entries_length flags es is p.1 q.1 h.1,
      length-append (entry_bytes e) (entries_bytes es),
      length-append (entry_bytes i) (entries_bytes is),
    )

-- and a group
inverse_group_length : (group inverse : GroupData) → IsGroup group → IsGroup inverse → IsInverseGroup group inverse → length (group_bytes inverse) ≡ length (group_bytes group)
inverse_group_length group inverse p q is =
    let flags = group.header.flags in
    let each = recursion_from_All (IsEntry flags) inverse.entries (rw is.header at q.each) in
    omega (
      arith,
      inverse_entries_length flags group.entries inverse.entries (each_entry group p) each is.entries,
      ap (λ (header : HeaderData). length (header_bytes header)) is.header,
      group_length group,
      group_length inverse,
    )

inverse_groups_length : (groups inverse : List GroupData) → AllByRecursion IsGroup groups → AllByRecursion IsGroup inverse → IsInverse groups inverse → length (file_bytes inverse) ≡ length (file_bytes groups)
inverse_groups_length [] [] p q h = refl
inverse_groups_length [] (i ∷ inverse) p q h = absurd h
inverse_groups_length (g ∷ groups) [] p q h = absurd h
inverse_groups_length (g ∷ groups) (i ∷ inverse) p q h =
    omega (
      arith,
      inverse_group_length g i p.0 q.0 h.0,
      inverse_groups_length groups inverse p.1 q.1 h.1,
      length-append (group_bytes g) (file_bytes groups),
      length-append (group_bytes i) (file_bytes inverse),
    )

-- and the file of a changeset
pub inverse_length : (changeset inverse : List GroupData) → IsChangeset changeset → IsChangeset inverse → IsInverse changeset inverse → length (file_bytes inverse) ≡ length (file_bytes changeset)
inverse_length changeset inverse p q is =
    inverse_groups_length changeset inverse (recursion_from_All IsGroup changeset p.each) (recursion_from_All IsGroup inverse q.each) is
