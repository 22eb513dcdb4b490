-- `walk::Walk::pass_table`: the invariant, the clauses `fault` and `item`.
use Rattle.std.proofs.Common.{List, ℕ, All, ◌≢◌, [], ◌∷◌, ◌++◌, ◌<◌, length, ap, sym, subst, ◌∙◌, inr}
use Rattle.std.specs.Prelude.{IfErr}
use Rattle.std.proofs.lemmas.Bool.{iff_false}
use Rattle.std.proofs.lemmas.Result.{err_from_is_err_and}
use Rattle.cs_value.specs.Refusals.{Refuses}
use Rattle.cs_wire_entries.specs.Changeset.{GroupData, IsNewName}
use Rattle.cs_wire.specs.Headers.{header_of}
use Rattle.cs_wire_entries.specs.ReadFaults.{HasEntry, ReadFails}
use Rattle.cs_wire.specs.Cursor.{Begins}
use Rattle.cs_wire.specs.Walk.{WalkData}
use Rattle.cs_wire.proofs.IndexLemmas.{Knows-is, Knows-new}
use Rattle.cs_wire.proofs.GroupsLemmas.{EntryStart-none}
use Rattle.cs_wire.proofs.CursorLemmas.{between, name_again, pass_header, table_refused, table_again, same_between, Begins-open, header_moves}
use Rattle.cs_wire.proofs.walk.Walk.pass_table.Goals as goal

pub returns-in_err-header-clause-fault : goal.returns-in_err-header-clause-fault
returns-in_err-header-clause-fault c =
    let v = c.self.view_is in
    let i = c.self.inside in
    let b = between i.file.now i.place i.flags.now i.is_bare i.names i.keys c.self.invariant (ap (λ (w : WalkData). w.is_bare) v ∙ c.requires.bare)
    (subst (λ (w : WalkData). 0 < length w.flags → HasEntry w.file w.place → ⊥) (sym v) c.requires.no_entry) in
    let within = subst (λ (w : WalkData). w.place < length w.file) (sym v) c.requires.within in
    let p = err_from_is_err_and c.from_residual.result c.from_residual.ensures.1 in
    subst (λ (w : WalkData). IfErr c.from_residual.result (Refuses (λ f. ReadFails w.file f.kind f.place))) v
    (rw (p.1, p.2) (record {
      refused = table_refused i.file.now i.place b.0 b.1 within c.in_err-header.ensures.only;
      case = c.in_err-header.ensures.fault b.0 (record { are = b.1.are; stand = b.1.stand }) b.1.none_before;
    }))

pub returns-clause-forward : goal.returns-clause-forward
returns-clause-forward c =
    let v = c.self.view_is in
    let i = c.self.inside in
    let within = subst (λ (w : WalkData). w.place < length w.file) (sym v) c.requires.within in
    let read = c.in_ok-header.ensures in (
      subst (λ (w : WalkData). w.place < c.in_ok-header.end) v (header_moves i.file.now i.place c.in_ok-header.end (header_of c.in_ok-header.header) read.found within),
      read.found.within,
    )

pub invariant_of-self-then-not-branch : goal.invariant_of-self-then-not-branch
invariant_of-self-then-not-branch c =
    let i = c.self.inside in
    name_again i.file.now i.place i.flags.now i.is_bare i.names i.keys c.insert.new.self c.as_bytes.result.now c.self.invariant c.in_ok-insert.ensures.added (iff_false c.in_ok-insert.ensures.is_new c.if-not-branch.true)

pub returns-then-not-branch-clause-fault : goal.returns-then-not-branch-clause-fault
returns-then-not-branch-clause-fault c =
    let v = c.self.view_is in
    let i = c.self.inside in
    let b = between i.file.now i.place i.flags.now i.is_bare i.names i.keys c.self.invariant (ap (λ (w : WalkData). w.is_bare) v ∙ c.requires.bare)
    (subst (λ (w : WalkData). 0 < length w.flags → HasEntry w.file w.place → ⊥) (sym v) c.requires.no_entry) in
    let within = subst (λ (w : WalkData). w.place < length w.file) (sym v) c.requires.within in
    let old = Knows-is (λ (g : GroupData). g.header.name) i.names b.0 c.in_ok-header.header.name.now b.2
    (λ new. iff_false c.in_ok-insert.ensures.is_new c.if-not-branch.true (subst (λ (name : List ℕ). All (λ t. t ≢ name) i.names) (sym c.as_bytes.ensures.value) new)) in
    subst (λ (w : WalkData). IfErr c.refuse.result (Refuses (λ f. ReadFails w.file f.kind f.place))) v
    (rw c.refuse.ensures (record {
      refused = table_again i.file.now i.place b.0 b.1 (header_of c.in_ok-header.header) c.in_ok-header.ensures.only within old;
      case = record {
        groups = b.0;
        header = header_of c.in_ok-header.header;
        to = c.in_ok-header.end;
        start = record { are = b.1.are; stand = b.1.stand };
        is_header = c.in_ok-header.ensures.well_formed;
        stands = c.in_ok-header.ensures.found;
        not_new = old;
      };
    }))

pub invariant_of-self-2 : goal.invariant_of-self-2
invariant_of-self-2 c =
    let v = c.self.view_is in
    let i = c.self.inside in
    let b = between i.file.now i.place i.flags.now i.is_bare i.names i.keys c.self.invariant (ap (λ (w : WalkData). w.is_bare) v ∙ c.requires.bare)
    (subst (λ (w : WalkData). 0 < length w.flags → HasEntry w.file w.place → ⊥) (sym v) c.requires.no_entry) in
    let within = subst (λ (w : WalkData). w.place < length w.file) (sym v) c.requires.within in
    let name_is = c.as_bytes.ensures.value in
    let fresh = Knows-new (λ (g : GroupData). g.header.name) i.names b.0 c.in_ok-header.header.name.now b.2 (rw name_is at c.in_ok-insert.ensures.is_new.0 c.if-not-branch.false) in
    let header = header_of c.in_ok-header.header in
    let read = c.in_ok-header.ensures in
    let moves = header_moves i.file.now i.place c.in_ok-header.end header read.found within in
    inr (pass_header i.file.now i.place i.names c.insert.new.self c.clear.new.self b.0 b.1 b.2 header c.in_ok-header.end read.well_formed read.found moves c.in_ok-header.ensures.only fresh (rw name_is at c.in_ok-insert.ensures.added) c.clear.ensures)

pub returns-clause-item : goal.returns-clause-item
returns-clause-item c = λ groups begins.
    let v = c.self.view_is in
    let i = c.self.inside in
    let b = between i.file.now i.place i.flags.now i.is_bare i.names i.keys c.self.invariant (ap (λ (w : WalkData). w.is_bare) v ∙ c.requires.bare)
    (subst (λ (w : WalkData). 0 < length w.flags → HasEntry w.file w.place → ⊥) (sym v) c.requires.no_entry) in
    let fresh = Knows-new (λ (g : GroupData). g.header.name) i.names b.0 c.in_ok-header.header.name.now b.2 (rw c.as_bytes.ensures.value at c.in_ok-insert.ensures.is_new.0 c.if-not-branch.false) in
    let header = header_of c.in_ok-header.header in
    let read = c.in_ok-header.ensures in
    let same = same_between i.file.now i.place b.0 b.1 groups (subst (λ (w : WalkData). Begins w.file w.place groups) (sym v) begins) in
    let start = EntryStart-none i.file.now i.place c.in_ok-header.end b.0 header (record { are = b.1.are; stand = b.1.stand }) read.well_formed fresh read.found in (
      subst (λ (gs : List GroupData). IsNewName gs header.name) (sym same) fresh,
      subst (λ (gs : List GroupData). Begins i.file.now c.in_ok-header.end (gs ++ record { header = header; entries = [] } ∷ [])) (sym same) (Begins-open i.file.now c.in_ok-header.end header [] start),
    )
