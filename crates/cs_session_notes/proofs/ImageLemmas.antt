-- First images in a map, kept and noted since.
use Rattle.std.proofs.Common.{◌≡◌, ◌≤◌, ℕ, Bool, true, false, List, [], ◌∷◌, ◌++◌, length, map, take, drop, Option, Some, refl, sym, ap, ◌∙◌}
use Rattle.std.specs.Prelude.{is_some, cond, nat_eq}
use Rattle.std.specs.Map.{lookup}
use Rattle.std.specs.Cmp.Lexicographic.{pointwise, nat_list_eq_equiv}
use Rattle.std.proofs.lemmas.List.{take-append-drop, take-append-le, map-append, length-map}
use Rattle.indexmap.specs.IndexMap.{insert_entry}
use Rattle.cs_value.specs.declared.value.OwnedValue.{OwnedValue}
use Rattle.cs_session_notes.specs.FirstImages.{FirstImage, first_at}
use Rattle.cs_session_notes.specs.Images.{first_of, with_first}

abbrev Entries : Type 0
Entries = List (List ℕ × Option (List OwnedValue))

-- a map finds the first row
pub found_first : (key : List ℕ) (entries : Entries) → lookup (pointwise nat_eq key) entries ≡ first_at (map first_of entries) key
found_first key [] = refl
found_first key (e ∷ entries) =
    ap (λ (b : Bool). cond b (Some e.1) (lookup (pointwise nat_eq key) entries)) (nat_list_eq_equiv.symm key e.0)
    ∙ ap (cond (pointwise nat_eq e.0 key) (Some e.1)) (found_first key entries)

pub is_there : (n : ℕ) (entries : Entries) (key : List ℕ)
    → is_some (lookup (pointwise nat_eq key) entries) ≡ is_some (first_at (take n (map first_of entries) ++ drop n (map first_of entries)) key)
is_there n entries key =
    ap (λ (o : Option (Option (List OwnedValue))). is_some o)
    (found_first key entries ∙ ap (λ (l : List FirstImage). first_at l key) (sym (take-append-drop n (map first_of entries))))

-- a key that is not there comes last
insert_new : (key : List ℕ) (row : Option (List OwnedValue)) (entries : Entries) → is_some (lookup (pointwise nat_eq key) entries) ≡ false
    → insert_entry (pointwise nat_eq) entries key row ≡ entries ++ (key, row) ∷ []
insert_new key row [] e = refl
insert_new key row (x ∷ entries) e = at (pointwise nat_eq key x.0) e (insert_new key row entries)
  where
    at : (b : Bool) → is_some (cond b (Some x.1) (lookup (pointwise nat_eq key) entries)) ≡ false
        → (is_some (lookup (pointwise nat_eq key) entries) ≡ false → insert_entry (pointwise nat_eq) entries key row ≡ entries ++ (key, row) ∷ [])
        → cond b ((x.0, row) ∷ entries) (x ∷ insert_entry (pointwise nat_eq) entries key row) ≡ x ∷ entries ++ (key, row) ∷ []
    at true e next = absurd (let apart : true ≡ false = e in cc)
    at false e next = ap (λ (l : Entries). x ∷ l) (next e)

module _ (n : ℕ) (entries : Entries) (key : List ℕ) (row : Option (List OwnedValue)) (more : Entries) (is : more ≡ insert_entry (pointwise nat_eq) entries key row)
    (absent : is_some (first_at (take n (map first_of entries) ++ drop n (map first_of entries)) key) ≡ false) where
  images_then : map first_of more ≡ map first_of entries ++ record { key = key; row = row } ∷ []
  images_then = ap (map first_of) (is ∙ insert_new key row entries (is_there n entries key ∙ absent)) ∙ map-append first_of entries ((key, row) ∷ [])

  pub noted_behind : take n (map first_of more) ++ drop n (map first_of more) ≡ with_first (take n (map first_of entries) ++ drop n (map first_of entries)) key row
  noted_behind =
      rw absent
      (take-append-drop n (map first_of more) ∙ images_then
      ∙ ap (λ (l : List FirstImage). l ++ record { key = key; row = row } ∷ []) (sym (take-append-drop n (map first_of entries))))

  -- and leaves those that are kept
  pub kept_then : n ≤ length entries → take n (map first_of more) ≡ take n (map first_of entries)
  kept_then within = ap (take n) images_then ∙ take-append-le n (map first_of entries) _ (rw (length-map entries first_of) within)
