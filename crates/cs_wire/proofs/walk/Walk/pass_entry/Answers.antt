-- `walk::Walk::pass_entry`: the invariant, the clauses `fault` and `item`.
use Rattle.std.proofs.Common.{List, ℕ, All, ◌≢◌, ◌<◌, length, ap, sym, subst, ◌∙◌, inr}
use Rattle.std.specs.Prelude.{IfErr}
use Rattle.std.proofs.lemmas.Bool.{iff_false}
use Rattle.std.specs.Cow.{cow_slice_items}
use Rattle.std.proofs.lemmas.Result.{err_from_is_err_and}
use Rattle.cs_value.specs.Refusals.{Refuses}
use Rattle.cs_wire_entries.specs.declared.entry.Entry.{Entry}
use Rattle.cs_wire_entries.specs.Entry.{key_of}
use Rattle.cs_wire_entries.specs.ReadFaults.{HasEntry, ReadFails}
use Rattle.cs_wire.specs.Cursor.{Begins}
use Rattle.cs_wire.specs.Walk.{WalkData}
use Rattle.cs_wire.proofs.IndexLemmas.{Knows-is, Knows-new}
use Rattle.cs_wire.proofs.CursorLemmas.{in_table, key_again, pass_entry, passed_entry, entry_refused, entry_again}
use Rattle.cs_wire_entries.proofs.ReadingLemmas.{Stands-moves}
use Rattle.cs_wire_entries.proofs.EntryLemmas.{entry_bytes_some}
use Rattle.cs_wire.proofs.walk.Walk.pass_entry.Goals as goal

pub returns-in_err-seen-clause-fault : goal.returns-in_err-seen-clause-fault
returns-in_err-seen-clause-fault c =
    let v = c.self.view_is in
    let i = c.self.inside in
    let t = in_table i.file.now i.place i.flags.now i.is_bare i.names i.keys c.self.invariant (subst (λ (w : WalkData). 0 < length w.flags) (sym v) c.requires.table) in
    let here = subst (λ (w : WalkData). HasEntry w.file w.place) (sym v) c.requires.entry in
    let p = err_from_is_err_and c.from_residual.result c.from_residual.ensures.1 in
    subst (λ (w : WalkData). IfErr c.from_residual.result (Refuses (λ f. ReadFails w.file f.kind f.place))) v
    (rw (p.1, p.2) (record {
      refused = entry_refused i.file.now i.place t.header t.entries t.start t.begins here (rw t.flags_are at c.in_err-seen.ensures.only);
      case = c.in_err-seen.ensures.fault t.header t.entries t.flags_are t.start;
    }))

pub returns-clause-well_formed : goal.returns-clause-well_formed
returns-clause-well_formed c =
    let v = c.self.view_is in
    let i = c.self.inside in
    let t = in_table i.file.now i.place i.flags.now i.is_bare i.names i.keys c.self.invariant (subst (λ (w : WalkData). 0 < length w.flags) (sym v) c.requires.table) in
    let read = c.in_ok-seen.ensures in
    (rw (read.flags, t.flags_are) t.start.is_header.flags, rw read.flags read.well_formed)

pub returns-clause-forward : goal.returns-clause-forward
returns-clause-forward c =
    let v = c.self.view_is in
    let i = c.self.inside in
    let here = subst (λ (w : WalkData). HasEntry w.file w.place) (sym v) c.requires.entry in
    let read = c.in_ok-seen.ensures in (
      subst (λ (w : WalkData). w.place < c.in_ok-seen.end) v (Stands-moves i.file.now i.place c.in_ok-seen.end _ read.found (entry_bytes_some c.in_ok-seen.seen.entry) here.within),
      read.found.within,
    )

pub invariant_of-self-then-not-branch : goal.invariant_of-self-then-not-branch
invariant_of-self-then-not-branch c =
    let v = c.self.view_is in
    let i = c.self.inside in
    let t = in_table i.file.now i.place i.flags.now i.is_bare i.names i.keys c.self.invariant (subst (λ (w : WalkData). 0 < length w.flags) (sym v) c.requires.table) in
    inr (key_again i.file.now i.place i.flags.now i.is_bare i.names i.keys c.insert.new.self (cow_slice_items c.in_ok-key_slice.field-0) t c.in_ok-insert.ensures.added (iff_false c.in_ok-insert.ensures.is_new c.if-not-branch.true))

pub returns-then-not-branch-clause-fault : goal.returns-then-not-branch-clause-fault
returns-then-not-branch-clause-fault c =
    let v = c.self.view_is in
    let i = c.self.inside in
    let t = in_table i.file.now i.place i.flags.now i.is_bare i.names i.keys c.self.invariant (subst (λ (w : WalkData). 0 < length w.flags) (sym v) c.requires.table) in
    let here = subst (λ (w : WalkData). HasEntry w.file w.place) (sym v) c.requires.entry in
    let read = c.in_ok-seen.ensures in
    let entry : Entry = c.in_ok-seen.seen.entry in
    let key_is = c.in_ok-key_slice.ensures ∙ ap (λ (flags : List ℕ). key_of flags entry.change) (read.flags ∙ t.flags_are) in
    let old = Knows-is (λ (e : Entry). key_of t.header.flags e.change) i.keys t.entries (key_of t.header.flags entry.change) t.knows_keys
    (λ new. iff_false c.in_ok-insert.ensures.is_new c.if-not-branch.true (subst (λ (k : List ℕ). All (λ t. t ≢ k) i.keys) (sym key_is) new)) in
    subst (λ (w : WalkData). IfErr c.refuse.result (Refuses (λ f. ReadFails w.file f.kind f.place))) v
    (rw c.refuse.ensures (record {
      refused = entry_again i.file.now i.place t.header t.entries t.start t.begins entry (rw t.flags_are at c.in_ok-seen.ensures.only) here old;
      case = record {
        header = t.header;
        entries = t.entries;
        entry = entry;
        to = c.in_ok-seen.end;
        start = t.start;
        is_entry = rw t.flags_are at read.well_formed;
        stands = read.found;
        not_new = old;
      };
    }))

pub invariant_of-self-2 : goal.invariant_of-self-2
invariant_of-self-2 c =
    let v = c.self.view_is in
    let i = c.self.inside in
    let t = in_table i.file.now i.place i.flags.now i.is_bare i.names i.keys c.self.invariant (subst (λ (w : WalkData). 0 < length w.flags) (sym v) c.requires.table) in
    let here = subst (λ (w : WalkData). HasEntry w.file w.place) (sym v) c.requires.entry in
    let read = c.in_ok-seen.ensures in
    let entry : Entry = c.in_ok-seen.seen.entry in
    let same = c.in_ok-key_slice.ensures ∙ ap (λ (flags : List ℕ). key_of flags entry.change) read.flags in
    let key_is = same ∙ ap (λ (flags : List ℕ). key_of flags entry.change) t.flags_are in
    let fresh = Knows-new (λ (e : Entry). key_of t.header.flags e.change) i.keys t.entries (key_of t.header.flags entry.change) t.knows_keys (rw key_is at c.in_ok-insert.ensures.is_new.0 c.if-not-branch.false) in
    inr (pass_entry i.file.now i.place i.flags.now i.is_bare i.names i.keys t entry c.in_ok-seen.end c.insert.new.self here read.well_formed read.found c.in_ok-seen.ensures.only fresh (rw same at c.in_ok-insert.ensures.added))

pub returns-clause-item : goal.returns-clause-item
returns-clause-item c = λ groups begins.
    let v = c.self.view_is in
    let i = c.self.inside in
    let t = in_table i.file.now i.place i.flags.now i.is_bare i.names i.keys c.self.invariant (subst (λ (w : WalkData). 0 < length w.flags) (sym v) c.requires.table) in
    let read = c.in_ok-seen.ensures in
    let entry : Entry = c.in_ok-seen.seen.entry in
    let key_is = c.in_ok-key_slice.ensures ∙ ap (λ (flags : List ℕ). key_of flags entry.change) (read.flags ∙ t.flags_are) in
    let fresh = Knows-new (λ (e : Entry). key_of t.header.flags e.change) i.keys t.entries (key_of t.header.flags entry.change) t.knows_keys (rw key_is at c.in_ok-insert.ensures.is_new.0 c.if-not-branch.false) in
    let passed = passed_entry i.file.now i.place i.flags.now i.is_bare i.names i.keys t entry c.in_ok-seen.end read.well_formed read.found fresh groups (subst (λ (w : WalkData). Begins w.file w.place groups) (sym v) begins) in
    ((passed.0.0, read.flags ∙ passed.0.1), passed.1)
