-- Parts of a file.
use Rattle.std.proofs.Common.{◌≡◌, ℕ, ◌+◌, ◌≤◌, List, ◌++◌, length, take, drop, refl, sym, ap, ◌∙◌, append_assoc, arith, length-append}
use Rattle.std.proofs.lemmas.List.{length-drop, drop_at, drop-drop}
use Rattle.cs_wire_entries.specs.ReadFaults.{Stands}
use Rattle.cs_wire_entries.proofs.ReadingLemmas.{Stands-take}

-- a text takes as many bytes as it has
pub Stands-length : (file : List ℕ) (a b : ℕ) (s : List ℕ) → Stands file a s b → a ≤ length file → b ≡ a + length s
Stands-length file a b s h le = omega (arith, ap length h.spelled, length-append s (drop b file), length-drop a file, length-drop b file, h.within, le)

-- a part of a text
pub Stands-part : (file : List ℕ) (a c : ℕ) (s t u : List ℕ) → Stands file a (s ++ (t ++ u)) c → a ≤ length file → (b d : ℕ) → b ≡ a + length s → d ≡ b + length t → Stands file b t d
Stands-part file a c s t u h le b d b_is d_is =
    let whole : drop a file ≡ s ++ (t ++ (u ++ drop c file)) = h.spelled ∙ append_assoc s (t ++ u) (drop c file) ∙ ap (λ (x : List ℕ). s ++ x) (append_assoc t u (drop c file)) in
    let from_b : drop b file ≡ t ++ (u ++ drop c file) =
    ap (λ (n : ℕ). drop n file) b_is ∙ sym (drop-drop (length s) a file) ∙ ap (drop (length s)) whole ∙ drop_at s (t ++ (u ++ drop c file)) (length s) refl in
    let from_d : drop d file ≡ u ++ drop c file =
    ap (λ (n : ℕ). drop n file) d_is ∙ sym (drop-drop (length t) b file) ∙ ap (drop (length t)) from_b ∙ drop_at t (u ++ drop c file) (length t) refl in
    record {
      spelled = from_b ∙ ap (λ (x : List ℕ). t ++ x) (sym from_d);
      within =
          let ends = Stands-length file a c (s ++ (t ++ u)) h le in
          omega (arith, ends, h.within, b_is, d_is, length-append s (t ++ u), length-append t u);
    }

-- so many bytes of the file
pub Stands-taken : (file : List ℕ) (start count : ℕ) → start + count ≤ length file → Stands file start (take count (drop start file)) (start + count)
Stands-taken file start count le = Stands-take file start count le
