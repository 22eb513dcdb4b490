-- `table::Table::plan`: what `merge_refs` requires, what it ensures.
use Rattle.std.proofs.Common.{◌≡◌, List, ℕ, None, Some, get_or, sym, ap, ◌∙◌, subst}
use Rattle.std.proofs.lemmas.List.{get_or_default}
use Rattle.cs_wire_entries.specs.declared.entry.Entry.{Entry}
use Rattle.cs_wire.specs.Entry.{key_of}
use Rattle.cs_wire.specs.Views.{IsIndexWhere}
use Rattle.cs_group.specs.Joining.{FitsKey, IfBecomes, key_marks, merged}
use Rattle.cs_group.proofs.KeyPlaceLemmas.{key_of_same}
use Rattle.cs_changegroup.specs.declared.slot.Slot.{Slot}
use Rattle.cs_changegroup.specs.Slots.{AreSlots, IsNewest, KeptEntry, TableView, if_live, kept_key}
use Rattle.cs_changegroup.proofs.LivingLemmas.{newest_gone}
use Rattle.cs_changegroup.proofs.SlotLemmas.{gone_at, live_at, no_entry}
use Rattle.cs_changegroup.proofs.table.Table.plan.Goals as goal
use Rattle.cs_changegroup.proofs.table.Table.plan.Goals.{in_default-via-in-Some+else-index, in_default-via-in_default}

pub merge_refs-requires-clause-one_key : goal.merge_refs-requires-clause-one_key
merge_refs-requires-clause-one_key c =
    let found = c.in-Some.found.entry in
    let later = c.args.later.now in
    let flags : found.flags ≡ c.args.self.now.header.flags = rw c.in-Some.is at c.in_ok-found.ensures.flags in
    let own : key_of found.flags found.entry.change ≡ c.args.key.now = rw c.in-Some.is at c.in_ok-found.ensures.key in
    own ∙ c.requires.key ∙ key_of_same later.flags found.flags later.entry.change (c.requires.agree ∙ ap key_marks (sym flags))

pub returns-in_ok-merge_refs-in-Some-clause-fits : goal.returns-in_ok-merge_refs-in-Some-clause-fits
returns-in_ok-merge_refs-in-Some-clause-fits c =
    let found = c.in-Some.found.entry in
    let later = c.args.later.now in
    let own = c.args.self.now.header.flags in
    let flags : found.flags ≡ own = rw c.in-Some.is at c.in_ok-found.ensures.flags in
    let key : key_of found.flags found.entry.change ≡ c.args.key.now = rw c.in-Some.is at c.in_ok-found.ensures.key in
    let same : key_of found.flags found.entry.change ≡ key_of own later.entry.change = key ∙ c.requires.key ∙ key_of_same later.flags own later.entry.change c.requires.agree in
    subst (λ (fs : List ℕ). IfBecomes c.in_ok-merge_refs-in-Some.field-0 (FitsKey fs (key_of own later.entry.change))) flags
    (subst (λ (k : List ℕ). IfBecomes c.in_ok-merge_refs-in-Some.field-0 (FitsKey found.flags k)) same c.in_ok-merge_refs-in-Some.ensures.fits)

pub returns-in_ok-merge_refs-in-Some-clause-planned : goal.returns-in_ok-merge_refs-in-Some-clause-planned
returns-in_ok-merge_refs-in-Some-clause-planned c = λ kept are.
    let inside = c.self.inside in
    let view : TableView = record { header = inside.header; slots = inside.slots.items; keys = inside.keys; vanished = inside.vanished } in
    let mine : AreSlots c.args.files.now view kept = subst (λ (t : TableView). AreSlots c.args.files.now t kept) (sym c.self.view_is) are in
    let found = c.in-Some.found.entry in
    let index = c.in-Some.found.index in
    let later = c.args.later.now in
    let own = c.args.self.now.header.flags in
    let flags : found.flags ≡ own = rw c.in-Some.is at c.in_ok-found.ensures.flags in
    let key : key_of found.flags found.entry.change ≡ c.args.key.now = rw c.in-Some.is at c.in_ok-found.ensures.key in
    let same : key_of found.flags found.entry.change ≡ key_of own later.entry.change = key ∙ c.requires.key ∙ key_of_same later.flags own later.entry.change c.requires.agree in
    let at : IsIndexWhere (λ k. k.entry ≡ found.entry) kept index = rw c.in-Some.is at (c.in_ok-found.ensures.entry kept are) in
    let it : KeptEntry = get_or kept index no_entry in
    let is : it.entry ≡ found.entry = at.holds no_entry in
    record {
      found = it;
      within = at.within;
      there = get_or_default kept index no_entry it at.within;
      live = live_at c.args.files.now view kept mine index at.within no_entry c.index.result.now ∙ sym (ap (λ (s : Slot). s.live) c.index.ensures) ∙ c.if-index.true;
      one_key = sym same ∙ ap (λ (fs : List ℕ). key_of fs found.entry.change) flags ∙ ap (λ (e : Entry). key_of own e.change) (sym is);
      merged = c.in_ok-merge_refs-in-Some.ensures.case ∙ ap (λ (fs : List ℕ). merged fs found.entry later.entry) flags ∙ ap (λ (e : Entry). merged own e later.entry) (sym is);
    }

pub returns-in_default-clause-planned : goal.returns-in_default-clause-planned
returns-in_default-clause-planned c = λ kept are.
    let inside = c.self.inside in
    let view : TableView = record { header = inside.header; slots = inside.slots.items; keys = inside.keys; vanished = inside.vanished } in
    let mine : AreSlots c.args.files.now view kept = subst (λ (t : TableView). AreSlots c.args.files.now t kept) (sym c.self.view_is) are in
    let later = c.args.later.now in
    let own = c.args.self.now.header.flags in
    let key : c.args.key.now ≡ key_of own later.entry.change = c.requires.key ∙ key_of_same later.flags own later.entry.change c.requires.agree in
    let newest = c.in_ok-found.ensures.newest kept are in
    rw (← key) (elim c.in_default.branch [
      | in_default-via-in-Some+else-index w ↦
          let at : IsNewest (kept_key own) c.args.key.now kept (Some w.in-Some.found.index) = rw w.in-Some.is at newest in
          newest_gone if_live (kept_key own) c.args.key.now kept (Some w.in-Some.found.index) are.once at
          (λ d. gone_at c.args.files.now view kept mine w.in-Some.found.index at.0.within d w.index.result.now (sym (ap (λ (s : Slot). s.live) w.index.ensures) ∙ w.if-index.false))
      | in_default-via-in_default w ↦
          let none : IsNewest (kept_key own) c.args.key.now kept None = rw w.in_default.is at newest in
          newest_gone if_live (kept_key own) c.args.key.now kept None are.once none tt
    ])
