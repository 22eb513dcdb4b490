-- `walk::Walk::advance`: the clauses `fault` and `end`.
use Rattle.std.proofs.Common.{◌<◌, length, sym, subst, arith}
use Rattle.std.specs.Prelude.{IfErr}
use Rattle.std.proofs.lemmas.Bool.{iff_false}
use Rattle.cs_value.specs.Refusals.{Refuses}
use Rattle.cs_wire_entries.specs.ReadFaults.{HasEntry, ReadFails}
use Rattle.cs_wire_entries.specs.Changeset.{IsFileOf}
use Rattle.cs_wire.specs.Cursor.{Begins}
use Rattle.cs_wire.specs.Walk.{WalkData}
use Rattle.cs_wire.proofs.CursorLemmas.{bare_fails, ends_whole}
use Rattle.cs_wire.proofs.walk.Walk.advance.Goals as goal

pub returns-then-self-clause-fault : goal.returns-then-self-clause-fault
returns-then-self-clause-fault c =
    let v = c.self.view_is in
    let i = c.self.inside in
    let none = subst (λ (w : WalkData). 0 < length w.flags → HasEntry w.file w.place → ⊥) (sym v) (λ some here. iff_false c.is_at_entry.ensures c.if-is_at_entry.false (some, here)) in
    subst (λ (w : WalkData). IfErr c.refuse.result (Refuses (λ f. ReadFails w.file f.kind f.place))) v
    (rw c.refuse.ensures (bare_fails i.file.now i.place i.flags.now i.is_bare i.names i.keys c.self.invariant c.if-self.true none))

pub returns-then-self-2-clause-end : goal.returns-then-self-2-clause-end
returns-then-self-2-clause-end c = λ groups begins same.
    let v = c.self.view_is in
    let i = c.self.inside in
    let none = subst (λ (w : WalkData). 0 < length w.flags → HasEntry w.file w.place → ⊥) (sym v) (λ some here. iff_false c.is_at_entry.ensures c.if-is_at_entry.false (some, here)) in
    let here = subst (λ (w : WalkData). Begins w.file w.place groups) (sym v) begins in
    subst (λ (w : WalkData). IsFileOf w.file groups) v
    (ends_whole i.file.now i.place i.flags.now i.is_bare i.names i.keys c.self.invariant c.if-self.false none (omega (arith, c.if-self-2.true)) groups here)
