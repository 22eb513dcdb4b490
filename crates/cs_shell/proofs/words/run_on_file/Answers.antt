-- `words::run_on_file`: the clause `ran`.
use Rattle.std.proofs.Common.{◌≡◌, ap, refl, inl, inr, rules}
use Rattle.cs_shell.proofs.words.run_on_file.Goals as goal

pub returns-in-Ok-clause-ran : goal.returns-in-Ok-clause-ran
returns-in-Ok-clause-ran g c =
    let same_input : c.visit_store.new.visitor.input.now ≡ c.input-1.given.0 = search rules in
    let same_out : c.visit_store.new.visitor.out.now ≡ c.out-1.given.0 = search rules in
    rw (← same_input, ← same_out)
    (inl (record {
      status = c.visit_store.new.visitor.status;
      closed = c.in-Ok.closed;
      answered = c.in-Ok.ensures.done.2;
      visits = c.in-Ok.ensures.visited;
      ends = c.end_visit.ensures.ends;
    }))

pub returns-in-Err-clause-ran : goal.returns-in-Err-clause-ran
returns-in-Err-clause-ran g c =
    let same_input : c.visit_store.new.visitor.input.now ≡ c.in-Err.input-in-Err-1-own.given.0 = search rules in
    let same_out : c.visit_store.new.visitor.out.now ≡ c.in-Err.out-in-Err-1-own.given.0 = search rules in
    rw (← same_input, ← same_out)
    (inr (record {
      error = c.in-Err.error;
      why = c.in-Err.ensures.refused;
      told = rw (← c.from.ensures) c.report.ensures;
      exit_is = refl;
      unread = ap (λ v. v.input.now) c.in-Err.ensures.unvisited;
      unprinted = ap (λ v. v.out.now) c.in-Err.ensures.unvisited;
      kept = c.in-Err.ensures.kept;
    }))
