-- `schema::are_rules`: what it ensures.
use Rattle.std.proofs.Common.{arith}
use Rattle.cs_rows.proofs.RuleLemmas.{rules_length, rules_of_columns, rule_column}
use Rattle.cs_rows.proofs.schema.are_rules.Goals as goal

pub returns-then-flags-refuses : goal.returns-then-flags-refuses
returns-then-flags-refuses c = (λ e. absurd cc, λ rules. absurd (c.if-flags-refuses.true (rules_length c.args.flags.now c.args.refuses.now rules)))

pub returns-then-not-is_rule : goal.returns-then-not-is_rule
returns-then-not-is_rule c = (λ e. absurd cc, λ rules. c.if-not-is_rule.ensures.1 (rule_column c.args.flags.now c.args.refuses.now c.loop-column.column rules c.loop-column-test.true))

pub returns : goal.returns
returns c = (λ e. rules_of_columns c.args.flags.now c.args.refuses.now c.if-flags-refuses.false (λ k lt. c.loop-column.invariant k (omega arith)), λ rules. cc)
