-- Parts that are read one after another, as a loop does.
use Rattle.std.proofs.Common.{◌≡◌, ℕ, suc, ◌-◌, ◌+◌, ◌≤◌, ◌<◌, List, [], ◌∷◌, ◌++◌, length, take, Result, Ok, Err, refl, sym, ap, ◌∙◌, append_assoc, arith, length-append}
use Rattle.std.specs.Prelude.{OnErr}
use Rattle.std.proofs.lemmas.List.{append-nil, take-take, take_at}
use Rattle.cs_value.specs.declared.refusal.OrNoMemory.{OrNoMemory}
use Rattle.cs_value.specs.declared.refusal.OrNoMemory.TheVariants.{Fault, NoMemory}
use Rattle.cs_calls_parts.specs.declared.fault.Misread.{Misread}
use Rattle.cs_calls_parts.specs.Reading.{◌>>=◌, Fails, parts_at}

-- the parts before, and those that are still read
abbrev pub with_front : {X : Type 0} → List X → Result (List X × List ℕ) Misread → Result (List X × List ℕ) Misread
with_front front read = read >>= λ x. Ok (front ++ x.0, x.1)

regroup : {X : Type 0} (front : List X) (part : X) (read : Result (List X × List ℕ) Misread) → with_front front (read >>= λ x. Ok (part ∷ x.0, x.1)) ≡ with_front (front ++ part ∷ []) read
regroup {X = X} front part (Ok x) = ap (λ (parts : List X). Ok (parts, x.1)) (simp append_assoc)
regroup front part (Err m) = refl

-- one more part is read
pub goes_on : {X : Type 0} (part_of : List ℕ → Result (X × List ℕ) Misread) (front : List X) (count i : ℕ) (bytes : List ℕ) (part : X) (after : List ℕ) (total : Result (List X × List ℕ) Misread) → i < count
    → part_of bytes ≡ Ok (part, after) → with_front front (parts_at part_of (count - i) bytes) ≡ total → with_front (front ++ part ∷ []) (parts_at part_of (count - (i + 1)) after) ≡ total
unfolding parts_at
goes_on part_of front count i bytes part after total lt read so_far =
    let more : count - i ≡ suc (count - (i + 1)) = omega arith in
    let one : with_front front (parts_at part_of (count - i) bytes) ≡ with_front (front ++ part ∷ []) (parts_at part_of (count - (i + 1)) after) = rw (more, read) (regroup front part (parts_at part_of (count - (i + 1)) after)) in
    sym one ∙ so_far

-- a part is not read
pub ends : {X : Type 0} (part_of : List ℕ → Result (X × List ℕ) Misread) (e : OrNoMemory Misread) (front : List X) (count i : ℕ) (bytes : List ℕ) (total : Result (List X × List ℕ) Misread) → i < count
    → Fails e (part_of bytes) → with_front front (parts_at part_of (count - i) bytes) ≡ total → Fails e total
unfolding parts_at
ends part_of NoMemory front count i bytes total lt fails so_far = tt
ends part_of (Fault m) front count i bytes total lt fails so_far =
    let more : count - i ≡ suc (count - (i + 1)) = omega arith in
    let one : with_front front (parts_at part_of (count - i) bytes) ≡ Err m = rw (more, fails) refl in
    sym so_far ∙ one

-- all parts are read
pub is_done : {X : Type 0} (part_of : List ℕ → Result (X × List ℕ) Misread) (front : List X) (count i : ℕ) (bytes : List ℕ) (total : Result (List X × List ℕ) Misread) → count ≤ i
    → with_front front (parts_at part_of (count - i) bytes) ≡ total → total ≡ Ok (front, bytes)
unfolding parts_at
is_done {X = X} part_of front count i bytes total le so_far =
    let none : count - i ≡ 0 = omega arith in
    let one : with_front front (parts_at part_of (count - i) bytes) ≡ Ok (front, bytes) = rw none (ap (λ (parts : List X). Ok (parts, bytes)) (append-nil front)) in
    sym so_far ∙ one

-- what is kept of a text and more is kept of the text
pub front_kept : (old more now new : List ℕ) → now ≡ old ++ more → take (length now) new ≡ now → take (length old) new ≡ old
front_kept old more now new is kept =
    let len : length now ≡ length old + length more = ap length is ∙ length-append old more in
    sym (take-take (length old) (length now) new (omega arith)) ∙ ap (λ (xs : List ℕ). take (length old) xs) (kept ∙ is) ∙ take_at old more (length old) refl

-- what holds anyway holds after an error
pub on_err : {A E : Type 0} (r : Result A E) (P : Type 0) → P → OnErr r P
on_err (Ok x) P p = tt
on_err (Err e) P p = p
