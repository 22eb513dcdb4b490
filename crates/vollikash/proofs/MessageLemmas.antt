-- A text in a buffer, with a zero byte after it.
use Rattle.std.proofs.Common.{◌≡◌, ℕ, ◌+◌, ◌<◌, List, [], ◌∷◌, ◌++◌, length, drop, get_or, slice_set, refl, sym, ap, ◌∙◌, append_assoc}
use Rattle.std.proofs.lemmas.List.{drop_more}

-- the first element after some is set
set_behind : (front behind : List ℕ) (x v : ℕ) → slice_set (front ++ x ∷ behind) (length front) v ≡ front ++ v ∷ behind
set_behind [] behind x v = refl
set_behind (y ∷ front) behind x v = ap (λ (l : List ℕ). y ∷ l) (set_behind front behind x v)

pub text_ended : (copied text out : List ℕ) → copied ≡ text → length text < length out → slice_set (copied ++ drop (length text) out) (length text) 0 ≡ (text ++ 0 ∷ []) ++ drop (length text + 1) out
text_ended copied text out same lt =
    ap (λ (c : List ℕ). slice_set (c ++ drop (length text) out) (length text) 0) same
    ∙ ap (λ (l : List ℕ). slice_set (text ++ l) (length text) 0) (drop_more out (length text) 0 lt)
    ∙ set_behind text (drop (length text + 1) out) (get_or out (length text) 0) 0
    ∙ sym (append_assoc text (0 ∷ []) (drop (length text + 1) out))
