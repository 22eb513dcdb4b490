-- The tokens of a line, one by one: what the code finds at its front.
use Rattle.std.proofs.Common.{◌≡◌, ℕ, zero, suc, ◌≤◌, List, [], ◌∷◌, length, Option, Some, Result, Ok, Err, refl, sym, ap, ◌∙◌, arith}
use Rattle.cs_shell_tokens.specs.Tokens.{Token}
use Rattle.cs_shell_tokens.specs.Reading.{behind, Next, Taken, Ended, Refused, token_at, next_at, onward, tokens_within, tokens_of, token_of, Gives, Finds}
use Rattle.cs_shell_tokens.specs.declared.token.Found.{Found}
use Rattle.cs_shell_tokens.specs.declared.token.Found.TheVariants as found
use Rattle.std.specs.Prelude.{IfOk}
use Rattle.std.proofs.lemmas.List.{nil_from_length}
use Rattle.cs_shell_tokens.proofs.TokenTakes.{next_shorter}

onward_same : (f g : List ℕ → List (Option Token)) (next : Next) → ((token : Token) (rest : List ℕ) → next ≡ Taken token rest → f rest ≡ g rest) → onward f next ≡ onward g next
onward_same f g (Taken token rest) h = ap (λ l. Some token ∷ l) (h token rest refl)
onward_same f g Ended h = refl
onward_same f g Refused h = refl

next_nil : next_at [] ≡ Ended
unfolding next_at token_at behind
next_nil = refl

-- however many tokens there may be, where there may be as many as the line has bytes
within_same : (m n : ℕ) (line : List ℕ) → length line ≤ m → length line ≤ n → tokens_within m line ≡ tokens_within n line
unfolding tokens_within
within_same zero zero line h e = refl
within_same zero (suc n) line h e = ap (onward (tokens_within n)) (sym next_nil ∙ ap next_at (sym (nil_from_length line (omega arith))))
within_same (suc m) zero line h e = ap (onward (tokens_within m)) (ap next_at (nil_from_length line (omega arith)) ∙ next_nil)
within_same (suc m) (suc n) line h e =
    onward_same (tokens_within m) (tokens_within n) (next_at line) (λ token rest is. within_same m n rest (omega (arith, next_shorter line token rest is)) (omega (arith, next_shorter line token rest is)))

-- the tokens of a line are what it begins with and those of what follows
pub tokens_step : (line : List ℕ) → tokens_of line ≡ onward tokens_of (next_at line)
unfolding tokens_of tokens_within
tokens_step line =
    within_same (length line) (suc (length line)) line (omega arith) (omega arith)
    ∙ onward_same (tokens_within (length line)) tokens_of (next_at line) (λ token rest is. within_same (length line) (length rest) rest (omega (arith, next_shorter line token rest is)) (omega arith))

-- what the code finds
pub finds : (line : List ℕ) (f : Found) → Gives (next_at line) f → Finds line f
finds line (found.Token token rest) e = (tokens_step line ∙ ap (onward tokens_of) e, next_shorter line (token_of token) rest.now e)
finds line found.End e = tokens_step line ∙ ap (onward tokens_of) e
finds line found.Malformed e = tokens_step line ∙ ap (onward tokens_of) e

pub finds_all : {E : Type 0} (line : List ℕ) (r : Result Found E) → IfOk r (Gives (next_at line)) → IfOk r (Finds line)
finds_all line (Ok f) h = finds line f h
finds_all line (Err e) h = tt
