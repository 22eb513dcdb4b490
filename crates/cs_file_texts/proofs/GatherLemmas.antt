-- Lemmas on text that is gathered before it is written.
use Rattle.std.proofs.Common.{◌≡◌, ℕ, List, [], ◌++◌, Option, Result, Ok, Err, IsErr, sym, ap, subst, ◌∙◌, append_assoc, append-nil, true≢false}
use Rattle.cs_file_texts.proofs.WriteLemmas.{AppendsFront-after}
use Rattle.std.specs.Io.KnownBytes.{Appends}
use Rattle.std.proofs.KnownBytes.{Appends-nil, Appends-trans}
use Rattle.cs_file_texts.specs.declared.told.Told.{Told}
use Rattle.cs_file_texts.specs.Calls.{Writes}
use Rattle.cs_file_texts.specs.Gathering.{Gathered, Interrupted, Gathers}

-- two texts, and what was written of them
joined : (p q t1 t2 text front1 front2 r : List ℕ) → text ≡ t1 ++ t2 → p ++ t1 ≡ front1 ++ q → q ++ t2 ≡ front2 ++ r → p ++ text ≡ (front1 ++ front2) ++ r
joined p q t1 t2 text front1 front2 r is one two =
    ap (λ l. p ++ l) is ∙ sym (append_assoc p t1 t2) ∙ ap (λ l. l ++ t2) one ∙ append_assoc front1 q t2
    ∙ ap (λ l. front1 ++ l) two ∙ sym (append_assoc front1 front2 r)

-- what is left of a text where nothing was pending
whole : (p text front q : List ℕ) → p ≡ [] → p ++ text ≡ front ++ q → text ≡ front ++ q
whole p text front q none is = sym (ap (λ l. l ++ text) none) ∙ is

module _ {W : Type 0} {contents : W → Option (List ℕ)} where
  -- no text
  pub Gathered-nil : (pending : List ℕ) (out : Told W) → Gathered contents pending pending out out []
  Gathered-nil pending out = record { front = []; split = append-nil pending; appended = Appends-nil (contents out.inner) }

  -- a text, and then another
  pub Gathered-more : {p q r t1 t2 : List ℕ} {old mid new : Told W} (text : List ℕ) → text ≡ t1 ++ t2
      → Gathered contents p q old mid t1 → Gathered contents q r mid new t2 → Gathered contents p r old new text
  Gathered-more {p} {q} {r} {t1} {t2} text is one two = record {
    front = one.front ++ two.front;
    split = joined p q t1 t2 text one.front two.front r is one.split two.split;
    appended = Appends-trans _ _ _ one.front two.front one.appended two.appended;
  }

  -- a text, and then another that is interrupted
  pub Interrupted-after : {p q t1 t2 : List ℕ} {old mid new : Told W} (text rest : List ℕ) → text ≡ t1 ++ (t2 ++ rest)
      → Gathered contents p q old mid t1 → Interrupted contents q mid new t2 → Interrupted contents p old new text
  Interrupted-after {p} {q} {t1} {t2} text rest is one two = record {
    front = one.front ++ two.front;
    rest = two.rest ++ rest;
    split = joined p q t1 (t2 ++ rest) text one.front two.front (two.rest ++ rest) is one.split
        (sym (append_assoc q t2 rest) ∙ ap (λ l. l ++ rest) two.split ∙ append_assoc two.front two.rest rest);
    appended = Appends-trans _ _ _ one.front two.front one.appended two.appended;
  }

  -- a call, and then another whose answer is the answer
  pub Gathers-then : {X E : Type 0} {result : Result X E} {p q r t1 t2 : List ℕ} {old mid new : Told W} (text : List ℕ) → text ≡ t1 ++ t2
      → Gathered contents p q old mid t1 → Gathers contents result q r mid new t2 → Gathers contents result p r old new text
  Gathers-then {result = Ok x} text is one two = record { gathered = Gathered-more text is one two.gathered; flagged = two.flagged }
  Gathers-then {result = Err e} {t1 = t1} {t2 = t2} text is one two = record {
    gathered = Interrupted-after text [] (is ∙ ap (λ l. t1 ++ l) (sym (append-nil t2))) one two.gathered;
    flagged = two.flagged;
  }

  -- a call, and then another that fails
  pub Gathers-stopped : {X Y D E : Type 0} (result : Result X D) {e : E} {p q r : List ℕ} (s : List ℕ) {t1 t2 : List ℕ} {old mid new : Told W} (text rest : List ℕ)
      → IsErr result → text ≡ t1 ++ (t2 ++ rest) → Gathered contents p q old mid t1 → Gathers {X = Y} contents (Err e) q r mid new t2
      → Gathers contents result p s old new text
  Gathers-stopped (Ok x) s text rest stopped is one two = absurd (true≢false (sym stopped))
  Gathers-stopped (Err d) s text rest stopped is one two =
      record { gathered = Interrupted-after text rest is one two.gathered; flagged = two.flagged }

  -- the same text
  pub Gathered-is : {p q t : List ℕ} {old new : Told W} (text : List ℕ) → text ≡ t → Gathered contents p q old new t → Gathered contents p q old new text
  Gathered-is {p = p} {q = q} {old = old} {new = new} text is one = subst (Gathered contents p q old new) (sym is) one

  pub Gathers-is : {X E : Type 0} {result : Result X E} {p q t : List ℕ} {old new : Told W} (text : List ℕ) → text ≡ t → Gathers contents result p q old new t
      → Gathers contents result p q old new text
  Gathers-is {result = result} {p = p} {q = q} {old = old} {new = new} text is one = subst (Gathers contents result p q old new) (sym is) one

  -- all is gathered
  pub Gathers-done : {X E : Type 0} {x : X} {p q t : List ℕ} {old new : Told W} (text : List ℕ) → text ≡ t → Gathered contents p q old new t
      → Gathers {E = E} contents (Ok x) p q old new text
  Gathers-done text is one = Gathers-is text is (record { gathered = one; flagged = tt })

  -- what is written where nothing is pending
  pub Gathers-written : {X E : Type 0} {result : Result X E} {q text : List ℕ} {old new : Told W} → q ≡ []
      → Writes contents result old new text → Gathers contents result q q old new text
  Gathers-written {result = Ok x} {q} {text} is wrote = record {
    gathered = record { front = text; split = rw is (sym (append-nil text)); appended = wrote.wrote };
    flagged = tt;
  }
  Gathers-written {result = Err e} {q} {text} is wrote = let front = wrote.wrote in record {
    gathered = record { front = front.0; rest = front.1; split = rw is front.2; appended = front.3 };
    flagged = wrote.flagged;
  }

  -- a text that is gathered where nothing was pending, and the rest of it written
  pub Writes-flushed : {X E : Type 0} {result : Result X E} {p q t : List ℕ} {old mid new : Told W} (text : List ℕ) → text ≡ t → p ≡ []
      → Gathered contents p q old mid t → Writes contents result mid new q → Writes contents result old new text
  Writes-flushed {result = Ok x} {p = p} {q = q} {t = t} text is none one two = record {
    wrote = subst (Appends _ _) (sym (is ∙ whole p t one.front q none one.split)) (Appends-trans _ _ _ one.front q one.appended two.wrote);
    flagged = tt;
  }
  Writes-flushed {result = Err e} {p = p} {q = q} {t = t} text is none one two = record {
    wrote = AppendsFront-after _ _ _ one.front q [] text (is ∙ whole p t one.front q none one.split ∙ ap (λ l. one.front ++ l) (sym (append-nil q))) one.appended two.wrote;
    flagged = two.flagged;
  }
