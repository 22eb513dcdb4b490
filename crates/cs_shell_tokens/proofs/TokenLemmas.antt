-- The laws of tokens: what is read is spelled so, and what is spelled so is read.
use Rattle.std.proofs.Common.{◌≡◌, ℕ, List, [], ◌∷◌, ◌++◌, map, Some, None, refl, sym, ap, subst, ◌∙◌, append_assoc}
use Rattle.cs_shell_tokens.specs.Tokens.{is_blank, AreBlanks, Token, AreTokens}
use Rattle.cs_shell_tokens.specs.Reading.{front_of, behind, Next, Taken, Ended, Refused, next_at, onward, tokens_of}
use Rattle.std.proofs.lemmas.List.{append-nil}
use Rattle.cs_shell_tokens.proofs.PartLemmas.{front_behind, front_passes}
use Rattle.cs_shell_tokens.proofs.TokenTakes.{next_taken, next_ended, some_is}
use Rattle.cs_shell_tokens.proofs.TokenSteps.{tokens_step}
use Rattle.cs_shell_tokens.proofs.TokenAgain.{next_again, next_none}

some_head : {A : Type 0} (x y : A) (xs ys : List A) → x ∷ xs ≡ y ∷ ys → x ≡ y
some_head x y xs ys e = cc

rest_same : {A : Type 0} (x y : A) (xs ys : List A) → x ∷ xs ≡ y ∷ ys → xs ≡ ys
rest_same x y xs ys e = cc

blanks_all : (line : List ℕ) → behind is_blank line ≡ [] → AreBlanks line
blanks_all line e = subst AreBlanks (sym (front_behind is_blank line ∙ ap (λ l. front_of is_blank line ++ l) e ∙ append-nil (front_of is_blank line))) (front_passes is_blank line)

taken_nil : (line : List ℕ) (next : Next) → next_at line ≡ next → onward tokens_of next ≡ [] → AreBlanks line
taken_nil line (Taken token rest) is e = cc
taken_nil line Ended is e = blanks_all line (next_ended line is)
taken_nil line Refused is e = cc

-- the first of them, and those that follow
record IsFirst (line : List ℕ) (token : Token) (tokens : List Token) : Type 0 where
  rest : List ℕ
  first : next_at line ≡ Taken token rest
  others : tokens_of rest ≡ map Some tokens

taken_cons : (line : List ℕ) (token : Token) (tokens : List Token) (next : Next) → next_at line ≡ next → onward tokens_of next ≡ Some token ∷ map Some tokens → IsFirst line token tokens
taken_cons line token tokens (Taken found rest) is e = record {
  rest = rest;
  first = is ∙ ap (λ t. Taken t rest) (some_is found token (some_head (Some found) (Some token) (tokens_of rest) (map Some tokens) e));
  others = rest_same (Some found) (Some token) (tokens_of rest) (map Some tokens) e;
}
taken_cons line token tokens Ended is e = cc
taken_cons line token tokens Refused is e = let bad : None ≡ Some token = some_head None (Some token) [] (map Some tokens) e in cc

-- what is read is spelled so
pub tokens_taken : (line : List ℕ) (tokens : List Token) → tokens_of line ≡ map Some tokens → AreTokens line tokens
tokens_taken line [] e = taken_nil line (next_at line) refl (sym (tokens_step line) ∙ e)
tokens_taken line (token ∷ tokens) e =
    let f = taken_cons line token tokens (next_at line) refl (sym (tokens_step line) ∙ e) in
    let t = next_taken line token f.rest f.first in
    (front_of is_blank line, t.bytes, f.rest, front_behind is_blank line ∙ ap (λ l. front_of is_blank line ++ l) t.whole ∙ sym (append_assoc (front_of is_blank line) t.bytes f.rest), front_passes is_blank line, t.spelled, tokens_taken f.rest tokens f.others)

-- what is spelled so is read
pub tokens_again : (line : List ℕ) (tokens : List Token) → AreTokens line tokens → tokens_of line ≡ map Some tokens
tokens_again line [] are = tokens_step line ∙ ap (onward tokens_of) (next_none line are)
tokens_again line (token ∷ tokens) (blanks, bytes, rest, is, are, spelled, more) =
    tokens_step line ∙ ap (onward tokens_of) (next_again line blanks bytes rest token is are spelled) ∙ ap (λ l. Some token ∷ l) (tokens_again rest tokens more)
