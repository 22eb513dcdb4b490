-- `checked::pass_distinct`: the clause `distinct`.
use Rattle.std.proofs.Common.{◌≡◌, ◌≢◌, ◌++◌, ℕ, List, AllPairs, length, sym, ap, subst, ◌∙◌, arith}
use Rattle.cs_file_scan.proofs.PassLemmas.{VisitsEntries-then}
use Rattle.cs_file_scan.proofs.checked.pass_distinct.Goals as goal

pub returns-then-passed-clause-distinct : goal.returns-then-passed-clause-distinct
returns-then-passed-clause-distinct g c =
    let passed = rw c.in-Some.is at c.in_ok-passed.ensures in record {
      numbers = passed.numbers;
      visits = passed.visits;
      count_is = passed.count_is;
      apart = passed.apart c.if-passed.true;
    }

pub returns-clause-distinct : goal.returns-clause-distinct
returns-clause-distinct g c =
    let v = g.V.Visit in
    let passed = rw c.in-Some.is at c.in_ok-passed.ensures in
    let others = rw c.in-Some-2.is at c.in_ok-end.ensures in
    let listed = c.in_ok-list_numbers.ensures passed.numbers c.in-Some.passed.end passed.visits.has (sym passed.count_is) in
    let all : c.pass_rest.new.keys.items ≡ passed.numbers ++ others.0 = others.1 ∙ ap (λ (ns : List ℕ). ns ++ others.0) (listed ∙ ap (λ (ns : List ℕ). ns ++ passed.numbers) c.requires.no_key) in record {
      numbers = passed.numbers ++ others.0;
      visits = VisitsEntries-then (v.entry_text c.args.flags.now) (v.written c.args.visitor.now) (v.written c.pass_rising.new.visitor) (v.written c.pass_rest.new.visitor) c.args.file.now c.args.at c.args.flags.now passed.numbers
          c.in-Some.passed.end others.0 c.in-Some-2.end passed.visits others.2;
      count_is = omega (arith, c.len-count.ensures, ap length all);
      apart = subst (λ (ns : List ℕ). AllPairs (λ m n. m ≢ n) ns) all (c.take_distinct.ensures.distinct c.if-not-take_distinct.false);
    }
