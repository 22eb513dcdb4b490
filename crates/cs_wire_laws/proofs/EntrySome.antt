-- Where an entry may begin is one, or there is a fault.
use Rattle.std.proofs.Common.{◌≡◌, ℕ, zero, suc, ◌+◌, ◌≤◌, Bool, true, false, cond, List, [], ◌∷◌, ◌++◌, length, get_or, drop, map, Result, Ok, Err, Option, None, Some, refl, sym, ◌∙◌, arith, inl, inr}
use Rattle.std.specs.Prelude.{◌⊎◌}
use Rattle.std.proofs.lemmas.Bool.{cases_lt, cases_eq}
use Rattle.std.proofs.lemmas.List.Concat.{flat_map-append}
use Rattle.cs_value.specs.declared.fault.FieldFault.{FieldFault}
use Rattle.cs_value.specs.declared.value.OwnedValue.{OwnedValue}
use Rattle.cs_value.specs.declared.value.OwnedField.{OwnedField}
use Rattle.cs_value.specs.declared.value.OwnedField.TheVariants.{Defined}
use Rattle.cs_value.specs.Value.{AreBytes, IsField, IsRow}
use Rattle.cs_value.specs.Table.{IsKeyedRow}
use Rattle.cs_value.specs.Spelling.{field_bytes, record_bytes}
use Rattle.cs_value.specs.Reading.{field_at}
use Rattle.cs_value.proofs.ByteLists.{AreBytes-drop}
use Rattle.cs_value.proofs.FieldTakes.{field_takes}
use Rattle.cs_value.proofs.FieldFails.{field_faults}
use Rattle.cs_value.proofs.RowImages.{IsRow-map}
use Rattle.cs_wire_entries.specs.declared.entry.Change.{Change}
use Rattle.cs_wire_entries.specs.declared.entry.Change.TheVariants.{Insert, Delete, Update}
use Rattle.cs_wire_entries.specs.declared.entry.Entry.{Entry}
use Rattle.cs_wire_entries.specs.declared.fault.ReadFaultKind.{ReadFaultKind}
use Rattle.cs_wire_entries.specs.declared.fault.ReadFaultKind.TheVariants.{Truncated, BadOp, BadFlag}
use Rattle.cs_wire_entries.specs.Entry.{IsChange, IsEntry, operation, fields_of, entry_bytes}
use Rattle.cs_wire_entries.specs.Changeset.{HeaderData}
use Rattle.cs_wire_entries.specs.ReadFaults.{kind_of, Stands, HasEntry, EntryStart, IsOperation}
use Rattle.cs_wire_entries.specs.Reading.{refusal, row_wants, old_wants, new_wants, wants_of, IsRecordAt, RecordRefused, ChangeRefused}
use Rattle.cs_wire_entries.proofs.ReadingLemmas.{Stands-then, Stands-read, Stands-byte}
use Rattle.cs_wire_entries.proofs.EntryLemmas.{Stands-entry}
use Rattle.cs_wire_entries.proofs.ChangeLemmas.{row_of, keyed_row, keyed_update, row_refused, old_refused, new_refused}
use Rattle.cs_wire_entries.proofs.EntryFaults.{change_case}
use Rattle.cs_wire_laws.proofs.WantsOnce.{Want}
use Rattle.cs_wire_laws.proofs.HeaderSome.{HasFault, fault_of}

-- an entry is here
pub record EntryHere (flags file : List ℕ) (at : ℕ) : Type 0 where
  pub entry : Entry
  pub to : ℕ
  pub is_entry : IsEntry flags entry
  pub stands : Stands file at (entry_bytes entry) to

entry_there : (flags file : List ℕ) (at to : ℕ) (entry : Entry) → IsEntry flags entry → Stands file at (entry_bytes entry) to → EntryHere flags file at
entry_there flags file at to entry is stands = record { entry = entry; to = to; is_entry = is; stands = stands }

-- a record that is wanted is here
record RecordHere (wants : List Want) (file : List ℕ) (at : ℕ) : Type 0 where
  fields : List OwnedField
  end : ℕ
  is : IsRecordAt wants file at fields end

-- or none
record NoRecord (wants : List Want) (file : List ℕ) (at : ℕ) : Type 0 where
  kind : ReadFaultKind
  place : ℕ
  refused : RecordRefused wants file at kind place

module _ (file : List ℕ) (fits : AreBytes file) where
  -- after a field that is wanted
  record_more : (want : Want) (wants : List Want) (at end : ℕ) (f : OwnedField) → IsField f → refusal want f ≡ None → Stands file at (field_bytes f) end
      → RecordHere wants file end ⊎ NoRecord wants file end → RecordHere (want ∷ wants) file at ⊎ NoRecord (want ∷ wants) file at
  record_more want wants at end f is met stands (inl r) = inl (record {
    fields = f ∷ r.fields;
    end = r.end;
    is = record { is_record = (is, r.is.is_record); wanted = (met, r.is.wanted); stands = Stands-then file at end r.end (field_bytes f) (record_bytes r.fields) stands r.is.stands };
  })
  record_more want wants at end f is met stands (inr n) =
      let r = n.refused in
      inr (record {
        kind = n.kind;
        place = n.place;
        refused = record {
          fields = f ∷ r.fields;
          end = r.end;
          is_record = (is, r.is_record);
          fewer = omega (arith, r.fewer);
          wanted = (met, r.wanted);
          stands = Stands-then file at end r.end (field_bytes f) (record_bytes r.fields) stands r.stands;
          why = r.why;
        };
      })

  record_here : (wants : List Want) (at : ℕ) → at ≤ length file → RecordHere wants file at ⊎ NoRecord wants file at
  record_here [] at le = inl (record { fields = []; end = at; is = record { is_record = tt; wanted = tt; stands = record { spelled = refl; within = le } } })
  record_here (want ∷ wants) at le = by (record_here wants) (field_at (drop at file)) refl
    where
      Later : Type 0
      Later = (end : ℕ) → end ≤ length file → RecordHere wants file end ⊎ NoRecord wants file end

      by_want : Later → (f : OwnedField) (end : ℕ) → IsField f → Stands file at (field_bytes f) end → (o : Option ReadFaultKind) → refusal want f ≡ o → RecordHere (want ∷ wants) file at ⊎ NoRecord (want ∷ wants) file at
      by_want later f end is stands None met = record_more want wants at end f is met stands (later end stands.within)
      by_want later f end is stands (Some kind) refused = inr (record {
        kind = kind;
        place = at;
        refused = record {
          fields = [];
          end = at;
          is_record = tt;
          fewer = omega arith;
          wanted = tt;
          stands = record { spelled = refl; within = le };
          why = inr (record { field = f; end = end; is_field = is; stands = stands; refused = refused; place_is = refl });
        };
      })

      by : Later → (read : Result (OwnedField × ℕ) FieldFault) → field_at (drop at file) ≡ read → RecordHere (want ∷ wants) file at ⊎ NoRecord (want ∷ wants) file at
      by later (Err d) e = inr (record {
        kind = kind_of d.kind;
        place = at + d.place;
        refused = record {
          fields = [];
          end = at;
          is_record = tt;
          fewer = omega arith;
          wanted = tt;
          stands = record { spelled = refl; within = le };
          why = inl (record { why = d.kind; behind = d.place; fails = field_faults (drop at file) d (AreBytes-drop at file fits) e; kind_is = refl; place_is = refl });
        };
      })
      by later (Ok x) e =
          let takes = field_takes (drop at file) x (AreBytes-drop at file fits) e in
          by_want later x.0 (at + x.1) takes.0 (Stands-read file at x.1 (field_bytes x.0) le takes.1) (refusal want x.0) refl

  -- ---- after an operation and an indirect flag

  module _ (from at : ℕ) (header : HeaderData) (entries : List Entry) (start : EntryStart file from header entries) (indirect : Bool) where
    flags : List ℕ
    flags = header.flags

    abbrev Head : ℕ → Type 0
    Head byte = Stands file from (byte ∷ cond indirect 1 0 ∷ []) at

    refused_case : (byte : ℕ) → Head byte → (kind : ReadFaultKind) (place : ℕ) → ChangeRefused byte header.flags file at kind place → HasFault file
    refused_case byte head kind place r = fault_of file kind place (change_case file from at header entries byte indirect header.flags refl start head kind place r)

    row_here : (change : List OwnedValue → Change) → ((row : List OwnedValue) → fields_of (change row) ≡ map Defined row) → ((row : List OwnedValue) → wants_of header.flags (change row) ≡ row_wants header.flags)
        → ((row : List OwnedValue) → IsRow row → IsKeyedRow header.flags row → IsChange header.flags (change row)) → (byte : ℕ) → ((row : List OwnedValue) → operation (change row) ≡ byte) → Head byte
        → HasFault file ⊎ EntryHere header.flags file from
    row_here change fields_are wants_are is byte does head = by (record_here (row_wants header.flags) at head.within)
      where
        by : RecordHere (row_wants header.flags) file at ⊎ NoRecord (row_wants header.flags) file at → HasFault file ⊎ EntryHere header.flags file from
        by (inr n) = inl (refused_case byte head n.kind n.place (row_refused header.flags file at n.kind n.place n.refused change fields_are wants_are is byte does))
        by (inl r) =
            let row = row_of header.flags r.fields r.is.wanted in
            let same : r.fields ≡ fields_of (change row.0) = row.1 ∙ sym (fields_are row.0) in
            let whole : Stands file from (byte ∷ cond indirect 1 0 ∷ record_bytes (fields_of (change row.0))) r.end = rw (← same) (Stands-then file from at r.end (byte ∷ cond indirect 1 0 ∷ []) (record_bytes r.fields) head r.is.stands) in
            inr (entry_there header.flags file from r.end (record { indirect = indirect; change = change row.0 })
            (is row.0 (IsRow-map row.0 (rw row.1 at r.is.is_record)) (keyed_row header.flags row.0 (rw row.1 at r.is.wanted)))
            (Stands-entry file from r.end indirect (change row.0) byte (does row.0) whole))

    update_here : Head 0x17 → HasFault file ⊎ EntryHere header.flags file from
    update_here head = by (record_here (old_wants header.flags) at head.within)
      where
        by_new : (o : RecordHere (old_wants header.flags) file at) → RecordHere (new_wants header.flags o.fields) file o.end ⊎ NoRecord (new_wants header.flags o.fields) file o.end → HasFault file ⊎ EntryHere header.flags file from
        by_new o (inr n) = inl (refused_case 0x17 head n.kind n.place (new_refused header.flags file at o.fields o.end o.is n.kind n.place n.refused))
        by_new o (inl n) =
            let change = Update o.fields n.fields in
            let both : Stands file at (record_bytes (o.fields ++ n.fields)) n.end = rw flat_map-append (Stands-then file at o.end n.end (record_bytes o.fields) (record_bytes n.fields) o.is.stands n.is.stands) in
            inr (entry_there header.flags file from n.end (record { indirect = indirect; change = change })
            (o.is.is_record, n.is.is_record, keyed_update header.flags o.fields n.fields o.is.wanted n.is.wanted)
            (Stands-entry file from n.end indirect change 0x17 refl (Stands-then file from at n.end (0x17 ∷ cond indirect 1 0 ∷ []) (record_bytes (o.fields ++ n.fields)) head both)))

        by : RecordHere (old_wants header.flags) file at ⊎ NoRecord (old_wants header.flags) file at → HasFault file ⊎ EntryHere header.flags file from
        by (inr n) = inl (refused_case 0x17 head n.kind n.place (old_refused header.flags file at n.kind n.place n.refused))
        by (inl o) = by_new o (record_here (new_wants header.flags o.fields) o.end o.is.stands.within)

    change_here : (byte : ℕ) → IsOperation byte → Head byte → HasFault file ⊎ EntryHere header.flags file from
    change_here byte (inl insert) head = row_here Insert (λ row. refl) (λ row. refl) (λ row h k. (h, k)) 0x12 (λ row. refl) (rw insert at head)
    change_here byte (inr (inl delete)) head = row_here Delete (λ row. refl) (λ row. refl) (λ row h k. (h, k)) 0x09 (λ row. refl) (rw delete at head)
    change_here byte (inr (inr update)) head = update_here (rw update at head)

  -- ---- an entry

  operation_or_not : (byte : ℕ) → IsOperation byte ⊎ (IsOperation byte → ⊥)
  operation_or_not byte =
      elim (cases_eq byte 0x12) [
        | inl insert ↦ inl (inl insert)
        | inr a ↦ elim (cases_eq byte 0x09) [
          | inl delete ↦ inl (inr (inl delete))
          | inr b ↦ elim (cases_eq byte 0x17) [
            | inl update ↦ inl (inr (inr update))
            | inr c ↦ inr (λ is. none a b c is)
          ]
        ]
      ]
    where
      none : (byte ≡ 0x12 → ⊥) → (byte ≡ 0x09 → ⊥) → (byte ≡ 0x17 → ⊥) → IsOperation byte → ⊥
      none a b c (inl e) = a e
      none a b c (inr (inl e)) = b e
      none a b c (inr (inr e)) = c e

  flag_of : (flag : ℕ) → flag ≤ 1 → (b : Bool) × (flag ≡ cond b 1 0)
  flag_of zero le = (false, refl)
  flag_of (suc zero) le = (true, refl)
  flag_of (suc (suc n)) le = absurd (omega arith)

  -- an entry, or a fault
  pub entry_here : (at : ℕ) (header : HeaderData) (entries : List Entry) → EntryStart file at header entries → HasEntry file at → HasFault file ⊎ EntryHere header.flags file at
  entry_here at header entries start here =
      let byte = get_or file at 0 in
      let first = Stands-byte file at here.within in
      elim (operation_or_not byte) [
        | inr none ↦ inl (fault_of file BadOp at (record { header = header; entries = entries; start = start; entry = here; no_operation = none }))
        | inl is ↦ elim (cases_lt (at + 1) (length file)) [
          | inr end ↦
              let last : at + 1 ≡ length file = omega (arith, end, first.within) in
              inl (fault_of file Truncated (length file) (inr (inr (inr (record { at = at; header = header; entries = entries; byte = byte; start = start; is_operation = is; stands = rw last at first })), refl)))
          | inl within ↦
              let flag = get_or file (at + 1) 0 in
              elim (cases_lt 1 flag) [
                | inl above ↦ inl (fault_of file BadFlag (at + 1) (record { at = at; header = header; entries = entries; byte = byte; start = start; is_operation = is; stands = first; within = within; above_one = above }))
                | inr le ↦
                    let b = flag_of flag le in
                    let second : Stands file (at + 1) (cond b.0 1 0 ∷ []) (at + 1 + 1) = rw (← b.1) (Stands-byte file (at + 1) within) in
                    change_here at (at + 1 + 1) header entries start b.0 byte is (Stands-then file at (at + 1) (at + 1 + 1) (byte ∷ []) (cond b.0 1 0 ∷ []) first second)
              ]
        ]
      ]
