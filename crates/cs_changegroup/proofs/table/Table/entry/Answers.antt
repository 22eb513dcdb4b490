-- `table::Table::entry`: the clause `found`.
use Rattle.std.proofs.Common.{◌≡◌, ◌<◌, [], List, ℕ, Some, length, get_or, sym, ap, subst, arith}
use Rattle.std.proofs.lemmas.Bool.{iff_false}
use Rattle.cs_changegroup.specs.declared.slot.Slot.{Slot}
use Rattle.cs_changegroup.specs.Slots.{AreSlots, IsTextAt, TableView}
use Rattle.cs_changegroup.proofs.SlotLemmas.{has_entry_at, slot_at, slots_long, spelled_at}
use Rattle.cs_changegroup.proofs.table.Table.entry.Goals as goal

pub returns-then-len-index-clause-found : goal.returns-then-len-index-clause-found
returns-then-len-index-clause-found c = λ kept k are within.
    let inside = c.self.inside in
    let view : TableView = record { header = inside.header; slots = inside.slots.items; keys = inside.keys; vanished = inside.vanished } in
    let own : AreSlots c.args.files.now view kept = subst (λ (t : TableView). AreSlots c.args.files.now t kept) (sym c.self.view_is) are in
    absurd (omega (arith, slots_long c.args.files.now view kept own c.args.index within k, c.len.ensures, c.if-len-index.true))

pub returns-then-not-has_entry-clause-found : goal.returns-then-not-has_entry-clause-found
returns-then-not-has_entry-clause-found c = λ kept k are within.
    let inside = c.self.inside in
    let view : TableView = record { header = inside.header; slots = inside.slots.items; keys = inside.keys; vanished = inside.vanished } in
    let own : AreSlots c.args.files.now view kept = subst (λ (t : TableView). AreSlots c.args.files.now t kept) (sym c.self.view_is) are in
    let slot : Slot = c.index.result.now in
    let bytes = subst (λ (s : Slot). (text : List ℕ) → IsTextAt c.args.files.now s.text text → 0 < length text → c.bytes-bytes.result.now ≡ text) c.index.ensures c.bytes-bytes.ensures in
    absurd (iff_false c.has_entry.ensures c.if-not-has_entry.true (has_entry_at c.args.files.now view kept own c.args.index within k c.bytes-bytes.result.now slot bytes))

pub returns-in-Ok-clause-found : goal.returns-in-Ok-clause-found
returns-in-Ok-clause-found c = λ kept k are within.
    let inside = c.self.inside in
    let view : TableView = record { header = inside.header; slots = inside.slots.items; keys = inside.keys; vanished = inside.vanished } in
    let own : AreSlots c.args.files.now view kept = subst (λ (t : TableView). AreSlots c.args.files.now t kept) (sym c.self.view_is) are in
    let slot : Slot = c.index.result.now in
    let bytes = subst (λ (s : Slot). (text : List ℕ) → IsTextAt c.args.files.now s.text text → 0 < length text → c.bytes-bytes.result.now ≡ text) c.index.ensures c.bytes-bytes.ensures in
    let fits = (slot_at c.args.files.now view kept own c.args.index within k slot).fits in
    ap Some (c.in-Ok.ensures.only (get_or kept c.args.index k).entry [] (rw c.flags.ensures.same fits) (spelled_at c.args.files.now view kept own c.args.index within k c.bytes-bytes.result.now slot bytes))

pub returns-in-Err-clause-found : goal.returns-in-Err-clause-found
returns-in-Err-clause-found c = λ kept k are within.
    let inside = c.self.inside in
    let view : TableView = record { header = inside.header; slots = inside.slots.items; keys = inside.keys; vanished = inside.vanished } in
    let own : AreSlots c.args.files.now view kept = subst (λ (t : TableView). AreSlots c.args.files.now t kept) (sym c.self.view_is) are in
    let slot : Slot = c.index.result.now in
    let bytes = subst (λ (s : Slot). (text : List ℕ) → IsTextAt c.args.files.now s.text text → 0 < length text → c.bytes-bytes.result.now ≡ text) c.index.ensures c.bytes-bytes.ensures in
    let fits = (slot_at c.args.files.now view kept own c.args.index within k slot).fits in
    absurd (c.in-Err.ensures.only (get_or kept c.args.index k).entry [] (rw c.flags.ensures.same fits) (spelled_at c.args.files.now view kept own c.args.index within k c.bytes-bytes.result.now slot bytes))
