-- `expected::are_expected`: the lists differ where a term does.
use Rattle.std.proofs.Common.{rules, ◌<◌, length, zero, sym, true≢false}
use Rattle.sqlite_sql.specs.Syntax.{term_of}
use Rattle.cs_store_sql.specs.declared.expected.Expected.TheVariants.{Null}
use Rattle.cs_store_sql.specs.Statements.{expected_term}
use Rattle.cs_store_sql.proofs.ExpectedLemmas.{same_at}
use Rattle.cs_store_sql.proofs.expected.are_expected.Goals as goal

pub returns-then-not-is_expected : goal.returns-then-not-is_expected
returns-then-not-is_expected c =
    let in_roots : c.loop-at.at < length c.args.roots.now = search rules in
    let in_expected : c.loop-at.at < length c.args.expected.now = search rules in
    (λ none. absurd (true≢false (sym none)), λ same. let here = c.is_expected.ensures.1 (same_at (term_of c.args.nodes.now) expected_term c.args.roots.now c.args.expected.now c.loop-at.at zero Null in_roots in_expected same) in search rules)
