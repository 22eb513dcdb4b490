-- `reader::header::read_name`: the clauses `found` and `fault`, what it ensures.
use Rattle.std.proofs.Common.{◌<◌, length, take, drop, sym, ◌∙◌, arith}
use Rattle.std.proofs.lemmas.Bool.{eqb-false, eqb-true}
use Rattle.cs_wire.proofs.HeaderFaults.{empty_name, bad_name}
use Rattle.cs_wire_entries.proofs.ReadingLemmas.{name_has_end, IsName-read, name_taken, Stands-ended}
use Rattle.cs_wire.proofs.reader.header.read_name.Goals as goal

pub returns-in_default-clause-only : goal.returns-in_default-clause-only
returns-in_default-clause-only c = λ name rest h e.
    let end = name_has_end c.rest_from-rest.result.now name rest (c.rest_from-rest.ensures ∙ e) in
    absurd (c.in_default.ensures.none (length name) end.0 end.1)

pub returns-in-Ok-clause-found : goal.returns-in-Ok-clause-found
returns-in-Ok-clause-found c =
    let file = c.args.file.now in
    let at = c.args.at in
    let n = c.in-Some.len in
    let left = c.rest_from-rest.result.now in
    let text = c.in-Ok.ensures.cases.0 in
    let within : n < length left = c.in-Some.ensures.found.0 in
    let none = eqb-false (length (take n left)) 0 (sym c.is_empty.ensures ∙ c.if-is_empty.false) in
    let some : 0 < length (take n left) = omega arith in (
      rw text (IsName-read left n within c.in-Some.ensures.found.2 c.in-Ok.ensures.cases.1 some),
      rw (text, c.rest_from-rest.ensures) (Stands-ended file at n (rw c.rest_from-rest.ensures at within) (rw c.rest_from-rest.ensures at c.in-Some.ensures.found.1)),
    )

pub returns-in-Ok-clause-only : goal.returns-in-Ok-clause-only
returns-in-Ok-clause-only c = λ name rest h e.
    c.in-Ok.ensures.cases.0
    ∙ name_taken c.rest_from-rest.result.now name rest c.in-Some.len h (c.rest_from-rest.ensures ∙ e) c.in-Some.ensures.found.0 c.in-Some.ensures.found.1 c.in-Some.ensures.found.2

pub returns-in-Err-clause-only : goal.returns-in-Err-clause-only
returns-in-Err-clause-only c = λ name rest h e.
    let taken = name_taken c.rest_from-rest.result.now name rest c.in-Some.len h (c.rest_from-rest.ensures ∙ e) c.in-Some.ensures.found.0 c.in-Some.ensures.found.1 c.in-Some.ensures.found.2 in
    absurd (c.in-Err.ensures.cases.0 (rw taken h.text))

pub returns-then-is_empty-clause-fault : goal.returns-then-is_empty-clause-fault
returns-then-is_empty-clause-fault c = λ flags h part.
    let found = rw c.rest_from-rest.ensures at c.in-Some.ensures.found in
    let none = eqb-true (length (take c.in-Some.len (drop c.args.at c.args.file.now))) 0 (rw c.rest_from-rest.ensures at (sym c.is_empty.ensures ∙ c.if-is_empty.true)) in
    rw c.fault_at-then-is_empty.ensures (empty_name c.args.file.now c.args.at c.in-Some.len flags h part found.0 found.1 found.2 none)

pub returns-in-Err-clause-fault : goal.returns-in-Err-clause-fault
returns-in-Err-clause-fault c = λ flags h part.
    let found = rw c.rest_from-rest.ensures at c.in-Some.ensures.found in
    rw c.fault_at-in-Err.ensures (bad_name c.args.file.now c.args.at c.in-Some.len flags h part found.0 found.1 found.2 (rw c.rest_from-rest.ensures at c.in-Err.ensures.cases.0))
