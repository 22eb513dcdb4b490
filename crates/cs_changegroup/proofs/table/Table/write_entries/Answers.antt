-- `table::Table::write_entries`: the invariant of the loop, what it ensures.
use Rattle.std.proofs.Common.{◌≡◌, ◌<◌, ◌≤◌, ◌++◌, List, ℕ, length, get_or, sym, ap, ◌∙◌, subst, arith}
use Rattle.cs_wire.specs.Changeset.{entries_bytes}
use Rattle.cs_wire_entries.specs.declared.entry.Entry.{Entry}
use Rattle.cs_changegroup.specs.declared.slot.Slot.{Slot}
use Rattle.cs_changegroup.specs.Slots.{AreSlots, IsTextAt, TableView}
use Rattle.cs_changegroup.proofs.SlotLemmas.{all_written, bytes_at, gone_written, in_kept, live_at, live_written, no_entry}
use Rattle.cs_changegroup.proofs.table.Table.write_entries.Goals as goal
use Rattle.cs_changegroup.proofs.table.Table.write_entries.Goals.{then-slot+in_ok-extend_from_slice, else-slot}

pub loop-slot-preserved : goal.loop-slot-preserved
loop-slot-preserved c = λ kept are.
    let inside = c.self.inside in
    let view : TableView = record { header = inside.header; slots = inside.slots.items; keys = inside.keys; vanished = inside.vanished } in
    let files = c.args.files.now in
    let own : AreSlots files view kept = subst (λ (t : TableView). AreSlots files t kept) (sym c.self.view_is) are in
    let index = c.loop-slot.slot-index in
    let so_far = c.loop-slot.invariant kept are in
    let out = c.args.out.now.items in
    let slot : Slot = c.slot-item.result in
    let value : c.deref-slot-items.result.now ≡ inside.slots.items = c.deref-slot-items.ensures.value in
    let here : slot ≡ get_or inside.slots.items index slot = c.slot-item.is ∙ ap (λ (ss : List Slot). get_or ss index slot) value in
    let within : index < length inside.slots.items = subst (λ (ss : List Slot). index < length ss) value c.loop-slot-test.true in
    elim c.if-slot.branch [
      | then-slot+in_ok-extend_from_slice w ↦
          let bytes = subst (λ (s : Slot). (text : List ℕ) → IsTextAt files s.text text → 0 < length text → w.bytes.result.now ≡ text) here w.bytes.ensures in
          rw w.out-is (live_written files view kept own index within out c.loop-slot.out.items so_far no_entry w.extend_from_slice.new.self.items w.bytes.result.now
          (live_at files view kept own index (in_kept files view kept own index within out c.loop-slot.out.items so_far no_entry) no_entry slot ∙ sym (ap (λ (s : Slot). s.live) here) ∙ w.if-slot.true)
          (bytes_at files view kept own index (in_kept files view kept own index within out c.loop-slot.out.items so_far no_entry) no_entry w.bytes.result.now slot bytes)
          w.in_ok-extend_from_slice.ensures.items)
      | else-slot w ↦
          rw w.out-is (gone_written files view kept own index within out c.loop-slot.out.items so_far no_entry
          (live_at files view kept own index (in_kept files view kept own index within out c.loop-slot.out.items so_far no_entry) no_entry slot ∙ sym (ap (λ (s : Slot). s.live) here) ∙ w.if-slot.false))
    ]

pub returns : goal.returns
returns c = λ kept are.
    let inside = c.self.inside in
    let view : TableView = record { header = inside.header; slots = inside.slots.items; keys = inside.keys; vanished = inside.vanished } in
    let own : AreSlots c.args.files.now view kept = subst (λ (t : TableView). AreSlots c.args.files.now t kept) (sym c.self.view_is) are in
    let over : length c.deref-slot-items.result.now ≤ c.loop-slot.slot-index = omega (arith, c.loop-slot-test.false) in
    let all : length inside.slots.items ≤ c.loop-slot.slot-index = subst (λ (ss : List Slot). length ss ≤ c.loop-slot.slot-index) c.deref-slot-items.ensures.value over in
    c.loop-slot.invariant kept are ∙ ap (λ (es : List Entry). c.args.out.now.items ++ entries_bytes es) (all_written c.args.files.now view kept own c.loop-slot.slot-index all)
