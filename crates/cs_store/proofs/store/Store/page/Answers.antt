-- `store::Store::page`: what it ensures.
use Rattle.std.proofs.Common.{true≢false, sym, ◌∙◌, inl, inr, refl, ap, rules}
use Rattle.std.specs.Option.{option_map}
use Rattle.std.proofs.lemmas.Result.{err_from_is_err_and}
use Rattle.cs_rows.proofs.CauseLemmas.{not_own}
use Rattle.cs_store.proofs.store.Store.page.Goals as goal
use Rattle.cs_store.proofs.store.Store.page.Goals.{in-Some, in-None}

pub returns-in_err-listed : goal.returns-in_err-listed
returns-in_err-listed g c =
    let p = err_from_is_err_and c.from_residual.result c.from_residual.ensures.1 in
    let e = rw c.self.view_is at c.in_err-listed.ensures in
    rw (p.1, p.2) (record {
      listed = λ clean. tt;
      declared = λ clean. tt;
      same = λ clean. tt;
      refused = λ clean. inr (e.refused clean);
      shut = e.shut;
      caused = e.caused;
      named = inr e.named;
      reads = λ clean is. absurd (true≢false (sym is ∙ not_own _ e.named));
      rests = e.rests;
      kept = e.kept;
    })

pub returns : goal.returns
returns g c =
    let e = rw c.self.view_is at c.in_ok-listed.ensures in
    elim c.match-self.branch [
      | in-Some w ↦ rw (w.result-is, w.self-inside-is) (record {
        listed = e.listed;
        declared = λ clean. search rules;
        same = e.same;
        refused = λ clean. tt;
        shut = e.shut;
        caused = λ clean. tt;
        named = tt;
        reads = λ clean is. e.reads clean;
        rests = e.rests;
        kept = e.kept;
      })
      | in-None w ↦ rw (w.result-is, w.self-inside-is) (record {
        listed = λ clean. tt;
        declared = λ clean. tt;
        same = λ clean. tt;
        refused = λ clean. inl (refl, sym (e.tells clean) ∙ ap (option_map (λ t. t.1)) w.in-None.is);
        shut = λ clean is. absurd (e.shut clean is);
        caused = λ clean. search rules;
        named = inl refl;
        reads = λ clean is. e.reads clean;
        rests = e.rests;
        kept = e.kept;
      })
    ]
