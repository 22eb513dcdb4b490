-- `expected::are_rising`: the orders differ where a key does.
use Rattle.std.proofs.Common.{rules, ◌<◌, length, zero, sym, true≢false}
use Rattle.sqlite_sql.specs.Syntax.{term_of}
use Rattle.sqlite_sql.specs.declared.query.SortKey.{SortKey}
use Rattle.cs_store_sql.specs.Statements.{by_column}
use Rattle.cs_store_sql.proofs.ExpectedLemmas.{same_at}
use Rattle.cs_store_sql.proofs.expected.are_rising.Goals as goal

pub returns-then-not-is_rising : goal.returns-then-not-is_rising
returns-then-not-is_rising c =
    let in_keys : c.loop-at.at < length c.args.keys.now = search rules in
    let in_columns : c.loop-at.at < length c.args.columns.now = search rules in
    (λ none. absurd (true≢false (sym none)), λ same. let here = c.is_rising.ensures.1 (same_at (λ (k : SortKey). (term_of c.args.nodes.now k.node, k.key)) by_column c.args.keys.now c.args.columns.now c.loop-at.at _ zero in_keys in_columns same) in search rules)
