-- Lemmas on text that is written in pieces.
use Rattle.std.proofs.Common.{◌≡◌, ℕ, ◌-◌, List, [], ◌++◌, length, take, drop, Option, Result, Ok, Err, sym, ap, ◌∙◌, append_assoc, append-nil, take-append-drop}
use Rattle.std.proofs.lemmas.List.{take_rest}
use Rattle.std.specs.Io.KnownBytes.{Appends}
use Rattle.std.proofs.KnownBytes.{Appends-trans}
use Rattle.cs_file_texts.specs.declared.told.Told.{Told}
use Rattle.cs_file_texts.specs.Told.{known}
use Rattle.cs_file_texts.specs.Calls.{AppendsFront, Writes}

-- what is written and what is left, n bytes on
pub front_more : (bytes front rest : List ℕ) (n : ℕ) → bytes ≡ front ++ rest → bytes ≡ (front ++ take n rest) ++ take (length rest - n) (drop n rest)
front_more bytes front rest n is =
    is ∙ ap (λ l. front ++ l) (sym (take-append-drop n rest) ∙ ap (λ l. take n rest ++ l) (sym (take_rest rest n))) ∙ sym (append_assoc front (take n rest) _)

-- a piece with a prefix that is written, after pieces that are written
pub AppendsFront-after : (old mid new : Option (List ℕ)) (done piece rest text : List ℕ) → text ≡ done ++ (piece ++ rest) → Appends old mid done → AppendsFront mid new piece → AppendsFront old new text
AppendsFront-after old mid new done piece rest text is before front = (
  done ++ front.0,
  front.1 ++ rest,
  is ∙ ap (λ l. done ++ (l ++ rest)) front.2 ∙ ap (λ l. done ++ l) (append_assoc front.0 front.1 rest) ∙ sym (append_assoc done front.0 (front.1 ++ rest)),
  Appends-trans old mid new done front.0 before front.3,
)

-- whatever a call that was to write a text answers, some front of it is written
pub Writes-front : {W X E : Type 0} (contents : W → Option (List ℕ)) (result : Result X E) (old new : Told W) (bytes text : List ℕ) → bytes ≡ text → Writes contents result old new bytes
    → AppendsFront (known contents old) (known contents new) text
Writes-front contents (Ok x) old new bytes text is w = (bytes, [], sym is ∙ sym (append-nil bytes), w.wrote)
Writes-front contents (Err e) old new bytes text is w = let front = w.wrote in (front.0, front.1, sym is ∙ front.2, front.3)
