-- Lemmas on reading lists of tokens.
use Rattle.std.proofs.Common.{◌≡◌, ℕ, List, [], ◌∷◌, ◌++◌, Option, Some, None, option_map, Bool, true, false, refl, sym, ap, ◌∙◌, append_assoc}
use Rattle.std.proofs.lemmas.List.{append-nil}
use Rattle.std.specs.Prelude.{if◌then◌else◌}
use Rattle.cs_shell_tokens.specs.declared.symbol.Symbol.{Symbol}
use Rattle.cs_shell_tokens.specs.declared.symbol.Symbol.TheVariants as symbol
use Rattle.cs_shell_tokens.specs.Tokens.{Token, Fixed, Name, Value}
use Rattle.cs_shell_grammar.specs.Commands.{AssignmentData}
use Rattle.cs_shell_grammar.specs.StatementReading.{Tokens, onto, going, first_in, turn_of, turn_in, name_of, name_in, value_of_token, value_in, fixed_in, is_fixed}
use Rattle.cs_shell_tokens.specs.Faults.{and_then}
use Rattle.cs_shell_grammar.specs.StatementReading.{list_in, assignment_of_tokens, assignment_in, assignments_in}
use Rattle.cs_shell_tokens.specs.Reading.{same_symbol}
use Rattle.cs_shell_grammar.specs.StatementReading.{symbol_in, form_of, form_in, create_in, insert_in, update_in, delete_in, select_in}

-- ---- loops over items

pub onto-nil : {X : Type 0} (read : Option (List X × Tokens)) → onto [] read ≡ read
onto-nil None = refl
onto-nil (Some r) = refl

pub onto-onto : {X : Type 0} (items more : List X) (read : Option (List X × Tokens)) → onto items (onto more read) ≡ onto (items ++ more) read
onto-onto items more None = refl
onto-onto items more (Some r) = ap (λ xs. Some (xs, r.1)) (sym (append_assoc items more r.0))

-- a reader of items reads one, and what comes after it
abbrev pub Unfolds : {X : Type 0} → (Tokens → Option (List X × Tokens)) → (Tokens → Option (X × Tokens)) → (Tokens → Option (Bool × Tokens)) → Type 0
Unfolds read item turn = (tokens : Tokens) → read tokens ≡ and_then (item tokens) (λ r. and_then (turn r.1) (λ t. onto (r.0 ∷ []) (going t.0 t.1 (read t.1))))

pub loop_starts : {X : Type 0} (read : Tokens → Option (List X × Tokens)) (line : Tokens) → read line ≡ onto [] (going true line (read line))
loop_starts read line = sym (onto-nil (read line))

pub loop_goes : {X : Type 0} (read : Tokens → Option (List X × Tokens)) (item : Tokens → Option (X × Tokens)) (turn : Tokens → Option (Bool × Tokens)) → Unfolds read item turn
    → (line rest t1 t2 : Tokens) (items : List X) (more m : Bool) (x : X)
    → read line ≡ onto items (going more rest (read rest)) → more ≡ true → item rest ≡ Some (x, t1) → turn t1 ≡ Some (m, t2)
    → read line ≡ onto (items ++ x ∷ []) (going m t2 (read t2))
loop_goes read item turn unfolds line rest t1 t2 items more m x so_far is_more is_item is_turn =
    so_far ∙ ap (λ b. onto items (going b rest (read rest))) is_more
    ∙ ap (onto items) (unfolds rest ∙ ap (λ i. and_then i (λ r. and_then (turn r.1) (λ t. onto (r.0 ∷ []) (going t.0 t.1 (read t.1))))) is_item
    ∙ ap (λ u. and_then u (λ t. onto (x ∷ []) (going t.0 t.1 (read t.1)))) is_turn)
    ∙ onto-onto items (x ∷ []) (going m t2 (read t2))

pub loop_ends : {X : Type 0} (read : Tokens → Option (List X × Tokens)) (line rest : Tokens) (items : List X) (more : Bool)
    → read line ≡ onto items (going more rest (read rest)) → more ≡ false → read line ≡ Some (items, rest)
loop_ends read line rest items more so_far is_last =
    so_far ∙ ap (λ b. onto items (going b rest (read rest))) is_last ∙ ap (λ xs. Some (xs, rest)) (append-nil items)

pub no_item : {X : Type 0} (read : Tokens → Option (List X × Tokens)) (item : Tokens → Option (X × Tokens)) (turn : Tokens → Option (Bool × Tokens)) → Unfolds read item turn
    → (line rest : Tokens) (items : List X) (more : Bool)
    → read line ≡ onto items (going more rest (read rest)) → more ≡ true → item rest ≡ None → read line ≡ None
no_item read item turn unfolds line rest items more so_far is_more is_none =
    so_far ∙ ap (λ b. onto items (going b rest (read rest))) is_more
    ∙ ap (onto items) (unfolds rest ∙ ap (λ i. and_then i (λ r. and_then (turn r.1) (λ t. onto (r.0 ∷ []) (going t.0 t.1 (read t.1))))) is_none)

pub no_turn : {X : Type 0} (read : Tokens → Option (List X × Tokens)) (item : Tokens → Option (X × Tokens)) (turn : Tokens → Option (Bool × Tokens)) → Unfolds read item turn
    → (line rest t1 : Tokens) (items : List X) (more : Bool) (x : X)
    → read line ≡ onto items (going more rest (read rest)) → more ≡ true → item rest ≡ Some (x, t1) → turn t1 ≡ None → read line ≡ None
no_turn read item turn unfolds line rest t1 items more x so_far is_more is_item is_none =
    so_far ∙ ap (λ b. onto items (going b rest (read rest))) is_more
    ∙ ap (onto items) (unfolds rest ∙ ap (λ i. and_then i (λ r. and_then (turn r.1) (λ t. onto (r.0 ∷ []) (going t.0 t.1 (read t.1))))) is_item
    ∙ ap (λ u. and_then u (λ t. onto (x ∷ []) (going t.0 t.1 (read t.1)))) is_none)

turned : {X : Type 0} (x : X) (m : Option Bool) (ts : Tokens) (read : Tokens → Option (List X × Tokens)) → and_then m (λ more. onto (x ∷ []) (going more ts (read ts)))
    ≡ and_then {X = Bool × Tokens} (option_map (λ more. (more, ts)) m) (λ t. onto (x ∷ []) (going t.0 t.1 (read t.1)))
turned x None ts read = refl
turned x (Some m) ts read = refl

-- an item, and what comes after it
read_on : {X : Type 0} (between last : Symbol) (o : Option X) (u : Option Token) (ts : Tokens) (read : Tokens → Option (List X × Tokens))
    → and_then o (λ x. and_then (turn_of between last u) (λ more. onto (x ∷ []) (going more ts (read ts))))
    ≡ and_then {X = X × Tokens} (option_map (λ x. (x, u ∷ ts)) o) (λ r. and_then (turn_in between last r.1) (λ t. onto (r.0 ∷ []) (going t.0 t.1 (read t.1))))
unfolding turn_in
read_on between last None u ts read = refl
read_on between last (Some x) u ts read = turned x (turn_of between last u) ts read

-- an item, and nothing after it
read_last : {X : Type 0} (between last : Symbol) (o : Option X) (read : Tokens → Option (List X × Tokens))
    → None ≡ and_then {X = X × Tokens} (option_map (λ x. (x, [])) o) (λ r. and_then (turn_in between last r.1) (λ t. onto (r.0 ∷ []) (going t.0 t.1 (read t.1))))
unfolding turn_in
read_last between last None read = refl
read_last between last (Some x) read = refl

list_unfolds : {X : Type 0} (item : Option Token → Option X) (between last : Symbol) → Unfolds (list_in item between last) (first_in item) (turn_in between last)
unfolding list_in
list_unfolds item between last [] = refl
list_unfolds item between last (t ∷ []) = read_last between last (item t) (list_in item between last)
list_unfolds item between last (t ∷ u ∷ ts) = read_on between last (item t) u ts (list_in item between last)

pub names_unfold : Unfolds (list_in name_of symbol.Comma symbol.Close) name_in (turn_in symbol.Comma symbol.Close)
unfolding name_in
names_unfold = list_unfolds name_of symbol.Comma symbol.Close

pub values_unfold : Unfolds (list_in value_of_token symbol.Comma symbol.Close) value_in (turn_in symbol.Comma symbol.Close)
unfolding value_in
values_unfold = list_unfolds value_of_token symbol.Comma symbol.Close

assigned : (q : Bool) (n : List ℕ) (v : Option Token) (ts : Tokens)
    → and_then {X = Tokens} {Y = AssignmentData × Tokens} (if q then Some (v ∷ ts) else None) (λ t. and_then (value_in t) (λ w. Some (record { column = n; value = w.0 }, w.1)))
    ≡ option_map (λ a. (a, ts)) (if q then option_map (λ x. record { column = n; value = x }) (value_of_token v) else None)
unfolding value_in
assigned false n v ts = refl
assigned true n None ts = refl
assigned true n (Some (Fixed s)) ts = refl
assigned true n (Some (Name m)) ts = refl
assigned true n (Some (Value x)) ts = refl

unassigned : (q : Bool) (n : List ℕ) → and_then {X = Tokens} {Y = AssignmentData × Tokens} (if q then Some [] else None) (λ t. and_then (value_in t) (λ w. Some (record { column = n; value = w.0 }, w.1))) ≡ None
unfolding value_in
unassigned false n = refl
unassigned true n = refl

-- three tokens that are an assignment
pub assignment_is : (t u v : Option Token) (ts : Tokens) → assignment_in (t ∷ u ∷ v ∷ ts) ≡ option_map (λ a. (a, ts)) (assignment_of_tokens t u v)
unfolding assignment_in name_in fixed_in
assignment_is None u v ts = refl
assignment_is (Some (Fixed s)) u v ts = refl
assignment_is (Some (Name n)) u v ts = assigned (is_fixed symbol.Equals u) n v ts
assignment_is (Some (Value x)) u v ts = refl

-- and fewer are none
assignment_in-one : (t : Option Token) → assignment_in (t ∷ []) ≡ None
unfolding assignment_in name_in fixed_in
assignment_in-one None = refl
assignment_in-one (Some (Fixed s)) = refl
assignment_in-one (Some (Name n)) = refl
assignment_in-one (Some (Value x)) = refl

assignment_in-two : (t u : Option Token) → assignment_in (t ∷ u ∷ []) ≡ None
unfolding assignment_in name_in fixed_in
assignment_in-two None u = refl
assignment_in-two (Some (Fixed s)) u = refl
assignment_in-two (Some (Name n)) u = unassigned (is_fixed symbol.Equals u) n
assignment_in-two (Some (Value x)) u = refl

assignment_in-nil : assignment_in [] ≡ None
unfolding assignment_in name_in
assignment_in-nil = refl

item_is : {X : Type 0} (between last : Symbol) (read : Tokens → Option (List X × Tokens)) (a b : Option (X × Tokens)) → a ≡ b
    → and_then b (λ r. and_then (turn_in between last r.1) (λ t. onto (r.0 ∷ []) (going t.0 t.1 (read t.1))))
    ≡ and_then a (λ r. and_then (turn_in between last r.1) (λ t. onto (r.0 ∷ []) (going t.0 t.1 (read t.1))))
item_is between last read a b same = ap (λ o. and_then o (λ r. and_then (turn_in between last r.1) (λ t. onto (r.0 ∷ []) (going t.0 t.1 (read t.1))))) (sym same)

pub assignments_unfold : (between last : Symbol) → Unfolds (assignments_in between last) assignment_in (turn_in between last)
unfolding assignments_in
assignments_unfold between last [] = item_is between last (assignments_in between last) _ _ assignment_in-nil
assignments_unfold between last (t ∷ []) = item_is between last (assignments_in between last) _ _ (assignment_in-one t)
assignments_unfold between last (t ∷ u ∷ []) = item_is between last (assignments_in between last) _ _ (assignment_in-two t u)
assignments_unfold between last (t ∷ u ∷ v ∷ []) =
    read_last between last (assignment_of_tokens t u v) (assignments_in between last) ∙ item_is between last (assignments_in between last) _ _ (assignment_is t u v [])
assignments_unfold between last (t ∷ u ∷ v ∷ w ∷ ts) =
    read_on between last (assignment_of_tokens t u v) w ts (assignments_in between last) ∙ item_is between last (assignments_in between last) _ _ (assignment_is t u v (w ∷ ts))

-- ---- the forms of statements

pub form_is : (tokens ts : Tokens) (first : Symbol) → symbol_in tokens ≡ Some (first, ts) → form_in tokens ≡ form_of first ts
unfolding form_in
form_is tokens ts first is = ap (λ s. and_then s (λ s. form_of s.0 s.1)) is

pub form_of-create : (first : Symbol) (ts : Tokens) → same_symbol first symbol.Create ≡ true → form_of first ts ≡ create_in ts
unfolding form_of
form_of-create first ts is = rw (is) refl

pub form_of-insert : (first : Symbol) (ts : Tokens) → same_symbol first symbol.Create ≡ false → same_symbol first symbol.Insert ≡ true → form_of first ts ≡ insert_in ts
unfolding form_of
form_of-insert first ts not_create is = rw (not_create, is) refl

pub form_of-update : (first : Symbol) (ts : Tokens) → same_symbol first symbol.Create ≡ false → same_symbol first symbol.Insert ≡ false → same_symbol first symbol.Update ≡ true → form_of first ts ≡ update_in ts
unfolding form_of
form_of-update first ts not_create not_insert is = rw (not_create, not_insert, is) refl

pub form_of-delete : (first : Symbol) (ts : Tokens) → same_symbol first symbol.Create ≡ false → same_symbol first symbol.Insert ≡ false → same_symbol first symbol.Update ≡ false → same_symbol first symbol.Delete ≡ true → form_of first ts ≡ delete_in ts
unfolding form_of
form_of-delete first ts not_create not_insert not_update is = rw (not_create, not_insert, not_update, is) refl

pub form_of-select : (first : Symbol) (ts : Tokens) → same_symbol first symbol.Create ≡ false → same_symbol first symbol.Insert ≡ false → same_symbol first symbol.Update ≡ false → same_symbol first symbol.Delete ≡ false → same_symbol first symbol.Select ≡ true → form_of first ts ≡ select_in ts
unfolding form_of
form_of-select first ts not_create not_insert not_update not_delete is = rw (not_create, not_insert, not_update, not_delete, is) refl

pub form_of-none : (first : Symbol) (ts : Tokens) → same_symbol first symbol.Create ≡ false → same_symbol first symbol.Insert ≡ false → same_symbol first symbol.Update ≡ false → same_symbol first symbol.Delete ≡ false → same_symbol first symbol.Select ≡ false → form_of first ts ≡ None
unfolding form_of
form_of-none first ts not_create not_insert not_update not_delete not_select = rw (not_create, not_insert, not_update, not_delete, not_select) refl
