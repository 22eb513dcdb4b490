-- `check::read_version`: the clause `refused`.
use Rattle.std.proofs.Common.{List, ℕ, refl, sym, ap, ◌∙◌, ◌==◌, length, true≢false}
use Rattle.cs_store_encoding.proofs.CheckLemmas.{lists_none}
use Rattle.cs_store_encoding.proofs.check.read_version.Goals as goal

pub returns-then-not-is_empty-clause-refused : goal.returns-then-not-is_empty-clause-refused
returns-then-not-is_empty-clause-refused c =
    let none = lists_none c.args.listed.now c.first-item.result c.in-len1-up.len_at_least c.first-item.is (λ own.
    true≢false (sym (c.if-not-is_empty.ensures ∙ ap (λ n. n == 0) c.first.inside.key.ok.0 ∙ ap (λ (l : List ℕ). length l == 0) (ap (λ (e : List ℕ × List ℕ). e.0) c.first.view_is ∙ own.0)))) in
    (refl, none.0, none.1)
