-- `quoted::read_quoted`: the invariant of the loop at `byte`, and what it ensures.
use Rattle.std.proofs.Common.{ℕ, List, ◌++◌, ◌∷◌, [], Bor, ap, eq-eqb}
use Rattle.std.proofs.lemmas.Bool.{ne_eqb}
use Rattle.std.proofs.lemmas.List.{nil_from_length}
use Rattle.cs_shell_tokens.proofs.PartLemmas.{more_byte, more_quote, stepped, read_end, read_none, begins_cons, begins_nothing}
use Rattle.cs_shell_tokens.proofs.quoted.read_quoted.Goals as goal
use Rattle.cs_shell_tokens.proofs.quoted.read_quoted.Goals.{then-byte-quote+in-Some-split_first, else-byte-quote, in_default-split_first-via-in-Some-split_first+else-next-quote, in_default-split_first-via-in_default-split_first}

pub loop-byte-preserved : goal.loop-byte-preserved
loop-byte-preserved c =
    elim c.if-byte-quote.branch [
      | then-byte-quote+in-Some-split_first w ↦
          let h = w.if-byte-quote.true in let e = w.if-next-quote.true in
          let s = w.in-Some-split_first.ensures.cases.0 in
          let m = more_quote c.args.quote c.in-Some.byte.now w.in-Some-split_first.next.now c.args.line.now c.loop-byte.rest.now c.in-Some.after.now w.in-Some-split_first.behind.now
          c.loop-byte.text.items c.loop-byte.invariant c.in-Some.ensures.cases.0 s (eq-eqb _ _ h) (eq-eqb _ _ e) in
          stepped c.args.quote c.args.line.now (c.loop-byte.text.items ++ c.in-Some.byte.now ∷ []) c.push.new.self.items w.in-Some-split_first.behind.now c.if-byte-quote.rest.now m c.in_ok-push.ensures.items (ap (λ (r : Bor (List ℕ)). r.now) w.rest-is)
      | else-byte-quote w ↦
          let h = w.if-byte-quote.false in
          let m = more_byte c.args.quote c.in-Some.byte.now c.args.line.now c.loop-byte.rest.now c.in-Some.after.now c.loop-byte.text.items c.loop-byte.invariant c.in-Some.ensures.cases.0 (ne_eqb _ _ h) in
          stepped c.args.quote c.args.line.now (c.loop-byte.text.items ++ c.in-Some.byte.now ∷ []) c.push.new.self.items c.in-Some.after.now c.if-byte-quote.rest.now m c.in_ok-push.ensures.items (ap (λ (r : Bor (List ℕ)). r.now) w.rest-is)
    ]

pub returns-in_default-split_first : goal.returns-in_default-split_first
returns-in_default-split_first c =
    let first = c.if-byte-quote.true in
    elim c.in_default-split_first.branch [
      | in_default-split_first-via-in-Some-split_first+else-next-quote w ↦
          let s = w.in-Some-split_first.ensures.cases.0 in
          let e = w.if-next-quote.false in
          read_end c.args.quote c.in-Some.byte.now c.args.line.now c.loop-byte.rest.now c.in-Some.after.now c.loop-byte.text.items c.loop-byte.invariant c.in-Some.ensures.cases.0 (eq-eqb _ _ first)
          (begins_cons _ w.in-Some-split_first.next.now w.in-Some-split_first.behind.now c.in-Some.after.now s (ne_eqb _ _ e))
      | in_default-split_first-via-in_default-split_first w ↦
          read_end c.args.quote c.in-Some.byte.now c.args.line.now c.loop-byte.rest.now c.in-Some.after.now c.loop-byte.text.items c.loop-byte.invariant c.in-Some.ensures.cases.0 (eq-eqb _ _ first)
          (begins_nothing _ c.in-Some.after.now w.in_default-split_first.ensures.cases)
    ]

pub returns : goal.returns
returns c = read_none c.args.quote c.args.line.now c.loop-byte.rest.now c.loop-byte.text.items c.loop-byte.invariant (nil_from_length c.loop-byte.rest.now c.in_default.ensures.cases)
