-- Names at the indices of their tables.
use Rattle.std.proofs.Common.{◌≡◌, ◌≢◌, ◌<◌, ℕ, Bool, true, false, ◌||◌, List, [], ◌∷◌, ◌++◌, length, get_or, map, Option, None, Some, refl, sym, ap, ◌∙◌, subst}
use Rattle.std.specs.Prelude.{nat_eq, is_some, IfSome, IfNone, position}
use Rattle.std.specs.List.{AllByRecursion, list_any}
use Rattle.std.specs.Cmp.Lexicographic.{pointwise, same_text, other_text}
use Rattle.std.proofs.lemmas.List.{get_or-map, length-map, map-append}
use Rattle.std.proofs.lemmas.List.Elements.{recursion_from_All, All-from_recursion}
use Rattle.std.proofs.lemmas.List.Quantifiers.{position-Some}
use Rattle.std.proofs.lemmas.Option.{none-some}
use Rattle.indexmap.specs.IndexSet.{insert_key}
use Rattle.cs_value.specs.State.{SchemaData}
use Rattle.cs_value.proofs.ListLemmas.{AllByRecursion-push}
use Rattle.cs_session_notes.specs.declared.attached.Attached.{Attached}
use Rattle.cs_session_notes.specs.Attaching.{IsNewTable}
use Rattle.cs_session_notes.specs.FirstImages.{NotedImages, AttachedTable}
use Rattle.cs_session_notes.specs.Views.{attached_of, name_in, IsIndexOf, HasNonePending}

-- ---- whether a list has a name

module _ (name : List ℕ) where
  any_mapped : {X : Type 0} (f : X → List ℕ) (xs : List X) → list_any (λ x. pointwise nat_eq name (f x)) xs ≡ list_any (pointwise nat_eq name) (map f xs)
  any_mapped f [] = refl
  any_mapped f (x ∷ xs) = ap (λ (b : Bool). pointwise nat_eq name (f x) || b) (any_mapped f xs)

  -- none of these tables has a name that is not found
  not_any : (tables : List Attached) → list_any (pointwise nat_eq name) (map name_in tables) ≡ false → AllByRecursion (λ t. t.name ≢ name) (map attached_of tables)
  not_any [] e = tt
  not_any (table ∷ tables) e = at (pointwise nat_eq name (name_in table)) refl e (not_any tables)
    where
      at : (b : Bool) → pointwise nat_eq name (name_in table) ≡ b → (b || list_any (pointwise nat_eq name) (map name_in tables)) ≡ false
          → (list_any (pointwise nat_eq name) (map name_in tables) ≡ false → AllByRecursion (λ t. t.name ≢ name) (map attached_of tables))
          → AllByRecursion (λ t. t.name ≢ name) (attached_of table ∷ map attached_of tables)
      at true same e next = absurd (let apart : true ≡ false = e in cc)
      at false same e next = ((λ is. other_text name (name_in table) (sym same) (sym is)), next e)

  -- a name that none of them has is not found
  none_any : (tables : List Attached) → AllByRecursion (λ t. t.name ≢ name) (map attached_of tables) → list_any (pointwise nat_eq name) (map name_in tables) ≡ false
  none_any [] apart = refl
  none_any (table ∷ tables) apart = at (pointwise nat_eq name (name_in table)) refl (none_any tables apart.1)
    where
      at : (b : Bool) → pointwise nat_eq name (name_in table) ≡ b → list_any (pointwise nat_eq name) (map name_in tables) ≡ false → (b || list_any (pointwise nat_eq name) (map name_in tables)) ≡ false
      at true same next = absurd (apart.0 (sym (same_text name (name_in table) (sym same))))
      at false same next = next

-- ---- the index of a name

module _ {K : Type 0} (text : K → List ℕ) (name : List ℕ) (keys : List K) (tables : List Attached) (named : map text keys ≡ map name_in tables) where
  abbrev tests : K → Bool
  tests key = pointwise nat_eq name (text key)

  any_named : list_any tests keys ≡ list_any (pointwise nat_eq name) (map name_in tables)
  any_named = any_mapped name text keys ∙ ap (list_any (pointwise nat_eq name)) named

  -- no table has a name that has no index
  new_where_none : list_any tests keys ≡ false → IsNewTable (map attached_of tables) name
  new_where_none none = All-from_recursion (λ (t : AttachedTable). t.name ≢ name) (map attached_of tables) (not_any name tables (sym any_named ∙ none))

  pub new_from_none : (index : Option ℕ) → is_some index ≡ list_any tests keys → IfNone index (IsNewTable (map attached_of tables) name)
  new_from_none None e = new_where_none (sym e)
  new_from_none (Some i) e = tt

  -- and its index is that of the table that has it
  stands_at : (i : ℕ) (k : K) → i < length keys → tests (get_or keys i k) ≡ true → IsIndexOf tables name i
  stands_at i k within same =
      let long : length keys ≡ length tables = sym (length-map keys text) ∙ ap (λ (l : List (List ℕ)). length l) named ∙ length-map tables name_in in
      let inside : i < length tables = rw (← long) within in (
        inside,
        λ d. sym (get_or-map name_in tables i d (text k) inside) ∙ ap (λ (l : List (List ℕ)). get_or l i (text k)) (sym named) ∙ get_or-map text keys i k (text k) within
            ∙ sym (same_text name (text (get_or keys i k)) (sym same)),
      )

  pub place_where_found : (index : Option ℕ) → index ≡ position tests keys → IfSome index (IsIndexOf tables name)
  place_where_found None e = tt
  place_where_found (Some i) e = at keys refl
    where
      at : (ks : List K) → ks ≡ keys → IsIndexOf tables name i
      at [] none = absurd (none-some i (ap (position tests) none ∙ sym e))
      at (k ∷ ks) is = let found = position-Some tests keys i k (sym e) in stands_at i k found.0 found.1

-- ---- a table after the others

module _ (name : List ℕ) (tables : List Attached) (fresh : IsNewTable (map attached_of tables) name) where
  -- its name comes after the others
  pub names_then : {K : Type 0} (text : K → List ℕ) (keys : List K) → map text keys ≡ map name_in tables → (key : K) → text key ≡ name
      → (new : List K) → new ≡ insert_key (λ a b. pointwise nat_eq (text a) (text b)) keys key → (more mid : List Attached) (value : Attached) → more ≡ mid ++ value ∷ [] → mid ≡ tables → name_in value ≡ name
      → map text new ≡ map name_in more
  names_then text keys named key is new grown more mid value pushed same value_is =
      let none = none_any name tables (recursion_from_All (λ (t : AttachedTable). t.name ≢ name) (map attached_of tables) fresh) in
      let absent : list_any (λ k. pointwise nat_eq (text key) (text k)) keys ≡ false = rw is (any_named text name keys tables named ∙ none) in
      let grew : new ≡ keys ++ key ∷ [] = rw absent at grown in
      ap (map text) grew ∙ map-append text keys (key ∷ []) ∙ cc (named, is, value_is) ∙ sym (ap (map name_in) (pushed ∙ ap (λ (l : List Attached). l ++ value ∷ []) same) ∙ map-append name_in tables (value ∷ []))

-- as the code appends it
pub table_then : (old new : List Attached) (value : Attached) (name : List ℕ) (schema : SchemaData) → new ≡ old ++ value ∷ [] → name_in value ≡ name → value.schema ≡ schema
    → value.firsts ≡ record { kept = []; pending = [] } → map attached_of new ≡ map attached_of old ++ record { name = name; schema = schema; firsts = [] } ∷ []
table_then old new value name schema is named of_schema none =
    ap (map attached_of) is ∙ map-append attached_of old (value ∷ [])
    ∙ ap (λ (t : AttachedTable). map attached_of old ++ t ∷ []) (λ i. record { name = named i; schema = of_schema i; firsts = (none i).kept ++ (none i).pending })

pub settled_then : (old new : List Attached) (value : Attached) → new ≡ old ++ value ∷ [] → value.firsts ≡ record { kept = []; pending = [] } → AllByRecursion HasNonePending old → AllByRecursion HasNonePending new
settled_then old new value is none none_pending = subst (AllByRecursion HasNonePending) (sym is) (AllByRecursion-push HasNonePending old value none_pending (ap (λ (n : NotedImages). n.pending) none))
