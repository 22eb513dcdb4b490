-- Bytes are a changeset's file, or have a fault.
use Rattle.std.proofs.Common.{◌≡◌, ℕ, zero, suc, ◌+◌, ◌<◌, List, [], ◌∷◌, ◌++◌, length, get_or, Some, refl, ap, ◌∙◌, append_assoc, arith, inl, inr}
use Rattle.std.specs.Prelude.{◌⊎◌}
use Rattle.std.proofs.lemmas.Bool.{cases_lt, cases_eq}
use Rattle.std.proofs.lemmas.List.{append-nil, drop_all}
use Rattle.std.proofs.lemmas.List.Concat.{flat_map-append}
use Rattle.std.proofs.lemmas.List.Elements.{All-push}
use Rattle.std.proofs.lemmas.List.Quantifiers.{all_pairs_push}
use Rattle.std.proofs.lemmas.Option.{slice_get-get_or}
use Rattle.cs_value.specs.Value.{AreBytes}
use Rattle.cs_wire_entries.specs.declared.entry.Entry.{Entry}
use Rattle.cs_wire_entries.specs.declared.fault.ReadFault.{ReadFault}
use Rattle.cs_wire_entries.specs.declared.fault.ReadFaultKind.TheVariants.{NotTable, Patchset, DuplicateTable, EmptyGroup, DuplicateKey}
use Rattle.cs_wire_entries.specs.Entry.{IsEntry, key_of, entry_bytes}
use Rattle.cs_wire_entries.specs.Changeset.{HeaderData, GroupData, IsNewKey, IsAccepted, header_bytes, entries_bytes, file_bytes}
use Rattle.cs_wire_entries.specs.ReadFaults.{Stands, HasEntry, TableStart, EntryStart, ReadFails}
use Rattle.cs_wire_entries.proofs.ReadingLemmas.{Stands-then, Stands-byte, Stands-moves}
use Rattle.cs_wire_entries.proofs.EntryLemmas.{entry_bytes_some}
use Rattle.cs_wire.proofs.GroupLemmas.{HasOtherKey, IsChangeset-push}
use Rattle.cs_wire.proofs.GroupsLemmas.{EntryStart-none}
use Rattle.cs_wire.proofs.CursorLemmas.{Begins-open, between_start, header_moves}
use Rattle.cs_wire_laws.proofs.Prefixes.{group_of}
use Rattle.cs_wire_laws.proofs.HeaderSome.{HasFault, HeaderHere, fault_of, header_here, new_or_not}
use Rattle.cs_wire_laws.proofs.EntrySome.{EntryHere, entry_here}

module _ (file : List ℕ) (fits : AreBytes file) where
  -- the file is a changeset's, or it has a fault
  abbrev Read : Type 0
  Read = IsAccepted file ⊎ HasFault file

  -- ---- where a table is to begin

  -- an entry may begin here, after the header of a new table
  record Opened (at : ℕ) : Type 0 where
    header : HeaderData
    to : ℕ
    start : EntryStart file to header []
    moves : at < to

  opened : (at : ℕ) (groups : List GroupData) → TableStart file at groups → at < length file → get_or file at 0 ≡ 0x54 → HasFault file ⊎ Opened at
  opened at groups start within table = by (header_here file fits at groups start (rw table at (Stands-byte file at within)))
    where
      by : HasFault file ⊎ HeaderHere file at → HasFault file ⊎ Opened at
      by (inl fault) = inl fault
      by (inr h) =
          elim (new_or_not (λ (g : GroupData). g.header.name) h.header.name groups) [
            | inl new ↦ inr (record { header = h.header; to = h.to; start = EntryStart-none file at h.to groups h.header start h.is_header new h.stands; moves = header_moves file at h.to h.header h.stands within })
            | inr old ↦ inl (fault_of file DuplicateTable at (record { groups = groups; header = h.header; to = h.to; start = start; is_header = h.is_header; stands = h.stands; not_new = old }))
          ]

  -- a table, the end or a patchset is here
  at_table : (at : ℕ) (groups : List GroupData) → TableStart file at groups → (HasEntry file at → HasFault file) → ((o : Opened at) → Read) → Read
  at_table at groups start entry go_on =
      let byte = get_or file at 0 in
      elim (cases_lt at (length file)) [
        | inr end ↦ inl (groups, start.are, start.stand.spelled ∙ ap (λ (x : List ℕ). file_bytes groups ++ x) (drop_all at file end) ∙ append-nil (file_bytes groups))
        | inl within ↦ elim (cases_eq byte 0x54) [
          | inl table ↦ elim (opened at groups start within table) [ inl fault ↦ inr fault | inr o ↦ go_on o ]
          | inr a ↦ elim (cases_eq byte 0x50) [
            | inl patchset ↦ inr (fault_of file Patchset at (record { groups = groups; start = start; byte = slice_get-get_or file at 0 within ∙ ap Some patchset }))
            | inr b ↦ inr (entry (record { within = within; no_table = a; no_patchset = b }))
          ]
        ]
      ]

  -- ---- where an entry may begin

  push : (at : ℕ) (header : HeaderData) (entries : List Entry) (entry : Entry) (to : ℕ) (start : EntryStart file at header entries) → IsEntry header.flags entry
      → IsNewKey header.flags entries (key_of header.flags entry.change) → Stands file at (entry_bytes entry) to → EntryStart file to header (entries ++ entry ∷ [])
  push at header entries entry to start is new stands = record {
    from = start.from;
    groups = start.groups;
    start = start.start;
    is_header = start.is_header;
    new_table = start.new_table;
    each = All-push (IsEntry header.flags) entries entry start.each is;
    once = all_pairs_push (HasOtherKey header.flags) entries entry start.once (λ k d lt. new k d lt);
    stand = rw (flat_map-append entry_bytes entries (entry ∷ []), append-nil, ← append_assoc (header_bytes header) (entries_bytes entries) (entry_bytes entry))
        (Stands-then file start.from at to (header_bytes header ++ entries_bytes entries) (entry_bytes entry) start.stand stands);
  }

  -- one more entry
  record Pushed (at : ℕ) (header : HeaderData) : Type 0 where
    entries : List Entry
    to : ℕ
    start : EntryStart file to header entries
    moves : at < to

  pushed : (at : ℕ) (header : HeaderData) (entries : List Entry) → EntryStart file at header entries → HasEntry file at → HasFault file ⊎ Pushed at header
  pushed at header entries start here = by (entry_here file fits at header entries start here)
    where
      by : HasFault file ⊎ EntryHere header.flags file at → HasFault file ⊎ Pushed at header
      by (inl fault) = inl fault
      by (inr e) =
          elim (new_or_not (λ (d : Entry). key_of header.flags d.change) (key_of header.flags e.entry.change) entries) [
            | inl new ↦ inr (record { entries = entries ++ e.entry ∷ []; to = e.to; start = push at header entries e.entry e.to start e.is_entry new e.stands; moves = Stands-moves file at e.to (entry_bytes e.entry) e.stands (entry_bytes_some e.entry) here.within })
            | inr old ↦ inl (fault_of file DuplicateKey at (record { header = header; entries = entries; entry = e.entry; to = e.to; start = start; is_entry = e.is_entry; stands = e.stands; not_new = old }))
          ]

  -- after the entries of a table
  table_end : (at : ℕ) (header : HeaderData) (entries : List Entry) (start : EntryStart file at header entries) → 0 < length entries → TableStart file at (start.groups ++ group_of header entries ∷ [])
  table_end at header entries start some = record {
    are = IsChangeset-push start.groups (group_of header entries) start.start.are (record { header = start.is_header; some = some; each = start.each; once = start.once }) start.new_table;
    stand = (Begins-open file at header entries start).stand;
  }

  entry_or_not : (at : ℕ) → HasEntry file at ⊎ (HasEntry file at → ⊥)
  entry_or_not at =
      elim (cases_lt at (length file)) [
        | inr end ↦ inr (λ h. omega (arith, h.within, end))
        | inl within ↦ elim (cases_eq (get_or file at 0) 0x54) [
          | inl table ↦ inr (λ h. h.no_table table)
          | inr a ↦ elim (cases_eq (get_or file at 0) 0x50) [
            | inl patchset ↦ inr (λ h. h.no_patchset patchset)
            | inr b ↦ inl (record { within = within; no_table = a; no_patchset = b })
          ]
        ]
      ]

  -- after a table, where no entry begins
  after_table : (at : ℕ) (header : HeaderData) (entries : List Entry) → EntryStart file at header entries → (HasEntry file at → ⊥) → ((o : Opened at) → Read) → Read
  after_table at header [] start none go_on = inr (fault_of file EmptyGroup at (record { header = header; start = start; no_entry = none }))
  after_table at header (entry ∷ entries) start none go_on =
      at_table at (start.groups ++ group_of header (entry ∷ entries) ∷ []) (table_end at header (entry ∷ entries) start (omega arith)) (λ h. absurd (none h)) go_on

  -- from an entry on, with so many bytes left
  at_entry : (left at : ℕ) (header : HeaderData) (entries : List Entry) → EntryStart file at header entries → length file < at + left → Read
  at_entry zero at header entries start lt = absurd (omega (arith, start.stand.within, lt))
  at_entry (suc left) at header entries start lt =
      elim (entry_or_not at) [
        | inl here ↦ elim (pushed at header entries start here) [
          | inl fault ↦ inr fault
          | inr p ↦ at_entry left p.to header p.entries p.start (omega (arith, lt, p.moves))
        ]
        | inr none ↦ after_table at header entries start none (λ o. at_entry left o.to o.header [] o.start (omega (arith, lt, o.moves)))
      ]

  read_file : Read
  read_file =
      let start = between_start file in
      at_table 0 [] (record { are = start.are; stand = start.stand }) (λ h. fault_of file NotTable 0 (refl, h)) (λ o. at_entry (length file + 1) o.to o.header [] o.start (omega (arith, o.moves)))

-- bytes that are no changeset's file have a fault
pub read_fault_some : (file : List ℕ) → AreBytes file → (IsAccepted file → ⊥) → (fault : ReadFault) × ReadFails file fault.kind fault.place
read_fault_some file fits refused =
    elim (read_file file fits) [
      | inl accepted ↦ absurd (refused accepted)
      | inr f ↦ (record { kind = f.kind; place = f.place }, record { refused = refused; case = f.case })
    ]
