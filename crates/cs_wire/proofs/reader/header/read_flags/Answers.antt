-- `reader::header::read_flags`: the clauses `found` and `fault`, what it ensures.
use Rattle.std.proofs.Common.{◌≡◌, ◌+◌, ◌≤◌, ◌++◌, length, take, drop, ap, ◌∙◌, arith, length-append}
use Rattle.std.proofs.lemmas.List.{length-drop}
use Rattle.std.proofs.lemmas.Bool.{iff_false}
use Rattle.cs_wire.proofs.HeaderFaults.{no_key}
use Rattle.cs_wire_entries.proofs.ReadingLemmas.{IsFlags-read, flags_some, flags_bytes-append, flags_counted, flags_taken, Stands-flags}
use Rattle.cs_wire.proofs.reader.header.read_flags.Goals as goal

pub returns-in_err-count-clause-only : goal.returns-in_err-count-clause-only
returns-in_err-count-clause-only c =
    λ flags rest h e. absurd (c.in_err-count.ensures.only (length flags) (flags ++ rest) (omega (arith, h.few)) (e ∙ flags_bytes-append flags rest))

pub returns-then-count-eq0-clause-only : goal.returns-then-count-eq0-clause-only
returns-then-count-eq0-clause-only c = λ flags rest h e.
    let read = flags_counted c.args.file.now c.args.at c.in_ok-count.start c.in_ok-count.count c.in_ok-count.ensures.found.1 c.in_ok-count.ensures.only flags rest h e in
    absurd (omega (arith, read.0, h.few, flags_some flags h, c.then-count-eq0.either))

pub returns-then-rest-count-clause-only : goal.returns-then-rest-count-clause-only
returns-then-rest-count-clause-only c = λ flags rest h e.
    let read = flags_counted c.args.file.now c.args.at c.in_ok-count.start c.in_ok-count.count c.in_ok-count.ensures.found.1 c.in_ok-count.ensures.only flags rest h e in
    absurd (omega (arith, read.0, ap length (c.rest_from-rest.ensures ∙ read.1), length-append flags rest))

pub returns-then-not-has_key-clause-only : goal.returns-then-not-has_key-clause-only
returns-then-not-has_key-clause-only c = λ flags rest h e.
    let read = flags_counted c.args.file.now c.args.at c.in_ok-count.start c.in_ok-count.count c.in_ok-count.ensures.found.1 c.in_ok-count.ensures.only flags rest h e in
    let taken = flags_taken c.in_ok-count.count c.rest_from-rest.result.now flags rest read.0 (c.rest_from-rest.ensures ∙ read.1) in
    absurd (iff_false c.has_key.ensures c.if-not-has_key.true (rw taken h.some_key))

pub returns-clause-found : goal.returns-clause-found
returns-clause-found c =
    let start = c.in_ok-count.start in
    let count = c.in_ok-count.count in
    let flags : take count c.rest_from-rest.result.now ≡ take count (drop start c.args.file.now) = ap (take count) c.rest_from-rest.ensures in
    let key = c.has_key.ensures.0 c.if-not-has_key.false in
    let le : start + count ≤ length c.args.file.now = omega (arith, ap length c.rest_from-rest.ensures, length-drop start c.args.file.now, c.in_ok-count.ensures.found.1.within) in (
      rw flags (IsFlags-read c.args.file.now start count (λ i. omega (arith, c.type_inv.file i)) c.if-count-gt-MAX_COLUMNS.false (rw c.rest_from-rest.ensures at key)),
      Stands-flags c.args.file.now c.args.at start count _ c.in_ok-count.ensures.found.1 le flags,
    )

pub returns-clause-only : goal.returns-clause-only
returns-clause-only c = λ flags rest h e.
    let read = flags_counted c.args.file.now c.args.at c.in_ok-count.start c.in_ok-count.count c.in_ok-count.ensures.found.1 c.in_ok-count.ensures.only flags rest h e in
    flags_taken c.in_ok-count.count c.rest_from-rest.result.now flags rest read.0 (c.rest_from-rest.ensures ∙ read.1)

pub returns-then-not-has_key-clause-fault : goal.returns-then-not-has_key-clause-fault
returns-then-not-has_key-clause-fault c = λ part.
    let start = c.in_ok-count.start in
    let count = c.in_ok-count.count in
    let le : start + count ≤ length c.args.file.now = omega (arith, ap length c.rest_from-rest.ensures, length-drop start c.args.file.now, c.in_ok-count.ensures.found.1.within) in
    let none = iff_false c.has_key.ensures c.if-not-has_key.true in
    rw c.fault_at-then-not-has_key.ensures (no_key c.args.file.now c.args.at start count part c.in_ok-count.ensures.found.1 (omega arith, c.if-count-gt-MAX_COLUMNS.false) le (rw c.rest_from-rest.ensures at none))
