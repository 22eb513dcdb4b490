-- `check::is_former`: what it ensures.
use Rattle.std.proofs.Common.{◌≡◌, ◌<◌, List, ℕ, false, length, get_or, sym, ap, ◌∙◌, arith}
use Rattle.cs_value.specs.State.{is_marked}
use Rattle.cs_rows.proofs.RuleLemmas.{rules_length, former_at, former_of_columns}
use Rattle.cs_store_encoding.proofs.check.is_former.Goals as goal

pub returns-then-not-is_former_rule : goal.returns-then-not-is_former_rule
returns-then-not-is_former_rule c =
    let flags = c.args.schema.now.flags in
    let refuses = c.args.schema.now.refuses in
    let i = c.loop-column.column in
    let same = c.flags-flag-items.ensures.same in
    let within : i < length flags = omega (arith, c.loop-column-test.true, ap (λ (l : List ℕ). length l) same) in
    let mark : c.refuses_at.result ≡ get_or refuses i false = c.refuses_at.ensures in
    (λ e. absurd cc, λ former. c.if-not-is_former_rule.ensures.1 (mark ∙ former_at flags refuses i within former ∙ ap (λ (l : List ℕ). is_marked (get_or l i 0)) (sym same)))

pub returns : goal.returns
returns c =
    let flags = c.args.schema.now.flags in
    let refuses = c.args.schema.now.refuses in
    let same = ap (λ (l : List ℕ). length l) c.flags-flag-items.ensures.same in
    (λ e. former_of_columns flags refuses (rules_length flags refuses c.flags-flag-items.ensures.well_formed.rules) (λ k lt. c.loop-column.invariant k (omega (arith, lt, same, c.loop-column-test.false))), λ former. cc)
