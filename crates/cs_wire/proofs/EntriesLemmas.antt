-- Where entries begin.
use Rattle.std.proofs.Common.{◌≡◌, ◌≢◌, ℕ, ◌<◌, ◌≤◌, List, ◌++◌, length, drop, get_or, sym, ap, ◌∙◌, arith, inl, inr, add-zero}
use Rattle.std.proofs.lemmas.List.{length-drop, get_or-drop}
use Rattle.std.proofs.lemmas.Option.{get_or_from_slice_get}
use Rattle.cs_wire_entries.specs.declared.entry.Entry.{Entry}
use Rattle.cs_wire_entries.specs.declared.entry.Change.{Change}
use Rattle.cs_wire_entries.specs.declared.entry.Change.TheVariants.{Insert, Delete, Update}
use Rattle.cs_wire_entries.specs.Entry.{operation, entry_bytes}
use Rattle.cs_wire_entries.specs.ReadFaults.{HasEntry}
use Rattle.cs_wire_entries.specs.Reading.{EndsGroup}
use Rattle.cs_wire_entries.proofs.ReadingLemmas.{first_byte}
use Rattle.cs_wire_entries.proofs.EntryLemmas.{entry_bytes-append}

-- an entry begins with a byte that begins no header
pub operation_no_header : (change : Change) → (operation change ≢ 0x54) × (operation change ≢ 0x50)
operation_no_header (Insert row) = (λ e. omega arith, λ e. omega arith)
operation_no_header (Delete row) = (λ e. omega arith, λ e. omega arith)
operation_no_header (Update old new) = (λ e. omega arith, λ e. omega arith)

pub HasEntry-entry : (file : List ℕ) (at : ℕ) (entry : Entry) (tail : List ℕ) → at ≤ length file → drop at file ≡ entry_bytes entry ++ tail → HasEntry file at
HasEntry-entry file at entry tail le e =
    let spelled = e ∙ entry_bytes-append entry tail in
    let within : at < length file = omega (arith, ap length spelled, length-drop at file) in
    let first = first_byte file at (operation entry.change) _ within spelled in
    record { within = within; no_table = λ h. (operation_no_header entry.change).0 (sym first ∙ h); no_patchset = λ h. (operation_no_header entry.change).1 (sym first ∙ h) }

-- where an entry is to be read, the group does not end
pub not_ended : (file : List ℕ) (at : ℕ) → HasEntry file at → EndsGroup (drop at file) → ⊥
not_ended file at h (inl none) = omega (arith, h.within, ap length none, length-drop at file)
not_ended file at h (inr table) = h.no_table (sym (ap (λ (n : ℕ). get_or file n 0) (add-zero at)) ∙ sym (get_or-drop at file 0 0) ∙ get_or_from_slice_get (drop at file) 0 0x54 0 table)
