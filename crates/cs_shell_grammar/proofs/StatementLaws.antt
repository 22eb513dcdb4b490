-- What the readers of lists of tokens accept: exactly the tokens of a statement.
use Rattle.std.proofs.Common.{◌⊎◌, inl, inr, ◌≡◌, ◌≢◌, ℕ, List, [], ◌∷◌, ◌++◌, map, Option, Some, None, option_map, Bool, true, false, refl, sym, ap, subst, ◌∙◌, get_or}
use Rattle.std.specs.Prelude.{if◌then◌else◌}
use Rattle.std.proofs.lemmas.Bool.{eqb-true}
use Rattle.cs_value.specs.declared.value.OwnedValue.{OwnedValue}
use Rattle.cs_shell_tokens.specs.declared.symbol.Symbol.{Symbol}
use Rattle.cs_shell_tokens.specs.declared.symbol.Symbol.TheVariants as symbol
use Rattle.cs_shell_tokens.specs.Tokens.{Token, Fixed, Name, Value}
use Rattle.cs_shell_grammar.specs.Commands.{AssignmentData, joined, assignment}
use Rattle.cs_shell_grammar.specs.StatementReading.{Tokens, onto, going, turn_of, name_of, name_in, value_of_token, value_in, fixed_in, is_fixed}
use Rattle.cs_shell_tokens.specs.Faults.{and_then}
use Rattle.cs_shell_tokens.specs.Reading.{symbol_place, same_symbol}
use Rattle.cs_shell_grammar.specs.StatementReading.{list_in, assignment_of_tokens, assignments_in}

-- ---- tokens that are read, and what they are

abbrev symbols : List Symbol
symbols = symbol.Create ∷ symbol.Table ∷ symbol.Primary ∷ symbol.Key ∷ symbol.Insert ∷ symbol.Into ∷ symbol.Values ∷ symbol.Update ∷ symbol.Set ∷ symbol.Where ∷ symbol.And ∷ symbol.Delete ∷ symbol.From ∷ symbol.Select ∷ symbol.Not ∷ symbol.Open ∷ symbol.Close ∷ symbol.Comma ∷ symbol.Semicolon ∷ symbol.Equals ∷ symbol.Star ∷ []

abbrev symbol_at : ℕ → Symbol
symbol_at n = get_or symbols n symbol.Create

at_place : (s : Symbol) → symbol_at (symbol_place s) ≡ s
at_place symbol.Create = refl
at_place symbol.Table = refl
at_place symbol.Primary = refl
at_place symbol.Key = refl
at_place symbol.Insert = refl
at_place symbol.Into = refl
at_place symbol.Values = refl
at_place symbol.Update = refl
at_place symbol.Set = refl
at_place symbol.Where = refl
at_place symbol.And = refl
at_place symbol.Delete = refl
at_place symbol.From = refl
at_place symbol.Select = refl
at_place symbol.Not = refl
at_place symbol.Open = refl
at_place symbol.Close = refl
at_place symbol.Comma = refl
at_place symbol.Semicolon = refl
at_place symbol.Equals = refl
at_place symbol.Star = refl

pub same_is : (a b : Symbol) → same_symbol a b ≡ true → a ≡ b
same_is a b h = sym (at_place a) ∙ ap symbol_at (eqb-true (symbol_place a) (symbol_place b) h) ∙ at_place b

pub is_fixed-is : (s : Symbol) (t : Option Token) → is_fixed s t ≡ true → t ≡ Some (Fixed s)
is_fixed-is s (Some (Fixed found)) h = ap (λ f. Some (Fixed f)) (same_is found s h)
is_fixed-is s (Some (Name n)) h = absurd (cc)
is_fixed-is s (Some (Value v)) h = absurd (cc)
is_fixed-is s None h = absurd (cc)

-- the rest after a reader that accepts
pub then_some : {X Y : Type 0} (o : Option X) (next : X → Option Y) (y : Y) → and_then o next ≡ Some y → (x : X) × (o ≡ Some x) × (next x ≡ Some y)
then_some None next y h = absurd (cc)
then_some (Some x) next y h = (x, refl, h)

pub some_pair : {X Y : Type 0} (a b : X × Y) → Some a ≡ Some b → (a.0 ≡ b.0) × (a.1 ≡ b.1)
some_pair a b h = let e : a ≡ b = cc in (ap (λ r. r.0) e, ap (λ r. r.1) e)

pub taken : (q : Bool) (ts ts' : Tokens) → (if q then Some ts else None) ≡ Some ts' → (q ≡ true) × (ts ≡ ts')
taken true ts ts' h = (refl, cc)
taken false ts ts' h = absurd (cc)

pub fixed_taken : (s : Symbol) (ts ts' : Tokens) → fixed_in s ts ≡ Some ts' → ts ≡ Some (Fixed s) ∷ ts'
unfolding fixed_in
fixed_taken s [] ts' h = absurd (cc)
fixed_taken s (t ∷ ts) ts' h = let k = taken (is_fixed s t) ts ts' h in ap (λ t. t ∷ ts) (is_fixed-is s t k.0) ∙ ap (λ ts. Some (Fixed s) ∷ ts) k.1

pub name_taken : (ts ts' : Tokens) (n : List ℕ) → name_in ts ≡ Some (n, ts') → ts ≡ Some (Name n) ∷ ts'
unfolding name_in
name_taken [] ts' n h = absurd (cc)
name_taken (None ∷ ts) ts' n h = absurd (cc)
name_taken (Some (Fixed s) ∷ ts) ts' n h = absurd (cc)
name_taken (Some (Name m) ∷ ts) ts' n h = let k = some_pair (m, ts) (n, ts') h in ap (λ m. Some (Name m) ∷ ts) k.0 ∙ ap (λ ts. Some (Name n) ∷ ts) k.1
name_taken (Some (Value v) ∷ ts) ts' n h = absurd (cc)

pub value_taken : (ts ts' : Tokens) (v : OwnedValue) → value_in ts ≡ Some (v, ts') → ts ≡ Some (Value v) ∷ ts'
unfolding value_in
value_taken [] ts' v h = absurd (cc)
value_taken (None ∷ ts) ts' v h = absurd (cc)
value_taken (Some (Fixed s) ∷ ts) ts' v h = absurd (cc)
value_taken (Some (Name m) ∷ ts) ts' v h = absurd (cc)
value_taken (Some (Value w) ∷ ts) ts' v h = let k = some_pair (w, ts) (v, ts') h in ap (λ m. Some (Value m) ∷ ts) k.0 ∙ ap (λ ts. Some (Value v) ∷ ts) k.1

-- where a test chooses between two readers, one of them accepts
pub if_some : {X : Type 0} (p : Bool) (x y : Option X) (c : X) → (if p then x else y) ≡ Some c → ((p ≡ true) × (x ≡ Some c)) ⊎ ((p ≡ false) × (y ≡ Some c))
if_some true x y c h = inl (refl, h)
if_some false x y c h = inr (refl, h)

-- ---- loops

pub some_of : {X : Type 0} (items : List X) (rest : Tokens) (read : Option (List X × Tokens)) (xs : List X) → onto items read ≡ Some (xs, rest) → (ys : List X) × (read ≡ Some (ys, rest)) × (items ++ ys ≡ xs)
some_of items rest None xs h = absurd (cc)
some_of items rest (Some r) xs h = let k = some_pair (items ++ r.0, r.1) (xs, rest) h in (r.0, ap (λ t. Some (r.0, t)) k.1, k.0)

-- the tokens of a list, what ends it, and the rest
abbrev pub IsList : {X : Type 0} → (X → List Token) → Symbol → Symbol → Tokens → List X → Tokens → Type 0
IsList tok b l ts xs rest = (xs ≢ []) × (ts ≡ map Some (joined (Fixed b) (map tok xs)) ++ Some (Fixed l) ∷ rest)

pub map_some-append : (xs ys : List Token) (rest : Tokens) → map Some (xs ++ ys) ++ rest ≡ map Some xs ++ (map Some ys ++ rest)
map_some-append [] ys rest = refl
map_some-append (x ∷ xs) ys rest = ap (λ ts. Some x ∷ ts) (map_some-append xs ys rest)

list_last : {X : Type 0} (tok : X → List Token) (b l : Symbol) (x : X) (ts : Tokens) → IsList tok b l (map Some (tok x) ++ Some (Fixed l) ∷ ts) (x ∷ []) ts
unfolding joined
list_last tok b l x ts = (λ h. cc, refl)

list_more : {X : Type 0} (tok : X → List Token) (b l : Symbol) (x : X) (ts : Tokens) (ys : List X) (rest : Tokens) → IsList tok b l ts ys rest → IsList tok b l (map Some (tok x) ++ Some (Fixed b) ∷ ts) (x ∷ ys) rest
unfolding joined
list_more tok b l x ts [] rest h = absurd (h.0 refl)
list_more tok b l x ts (y ∷ ys) rest h = (λ h. cc, ap (λ ts. map Some (tok x) ++ Some (Fixed b) ∷ ts) h.1 ∙ sym (map_some-append (tok x) (Fixed b ∷ joined (Fixed b) (map tok (y ∷ ys))) (Some (Fixed l) ∷ rest)))

turn_is : (b l : Symbol) (u : Option Token) (p q : Bool) → is_fixed b u ≡ p → is_fixed l u ≡ q → (m : Bool) → (if p then Some true else if q then Some false else None) ≡ Some m → u ≡ Some (Fixed (if m then b else l))
turn_is b l u true q hp hq true h = is_fixed-is b u hp
turn_is b l u true q hp hq false h = absurd (cc)
turn_is b l u false true hp hq false h = is_fixed-is l u hq
turn_is b l u false true hp hq true h = absurd (cc)
turn_is b l u false false hp hq m h = absurd (cc)

list_on : {X : Type 0} (tok : X → List Token) (b l : Symbol) (x : X) (u : Option Token) (ts : Tokens) (xs : List X) (rest : Tokens) (read : Option (List X × Tokens))
    → ((ys : List X) → read ≡ Some (ys, rest) → IsList tok b l ts ys rest) → (m : Bool) → u ≡ Some (Fixed (if m then b else l))
    → onto (x ∷ []) (going m ts read) ≡ Some (xs, rest) → IsList tok b l (map Some (tok x) ++ u ∷ ts) xs rest
list_on tok b l x u ts xs rest read ih true is h =
    let k = some_of (x ∷ []) rest read xs h in
    subst (λ xs. IsList tok b l (map Some (tok x) ++ u ∷ ts) xs rest) k.2 (subst (λ v. IsList tok b l (map Some (tok x) ++ v ∷ ts) (x ∷ k.0) rest) (sym is) (list_more tok b l x ts k.0 rest (ih k.0 k.1)))
list_on tok b l x u ts xs rest read ih false is h =
    let k = some_pair (x ∷ [], ts) (xs, rest) h in let e = k.0 in let f = k.1 in
    subst (λ xs. IsList tok b l (map Some (tok x) ++ u ∷ ts) xs rest) e (subst (λ r. IsList tok b l (map Some (tok x) ++ u ∷ ts) (x ∷ []) r) f (subst (λ v. IsList tok b l (map Some (tok x) ++ v ∷ ts) (x ∷ []) ts) (sym is) (list_last tok b l x ts)))

pub list_taken : {X : Type 0} (item : Option Token → Option X) (tok : X → Token) → ((t : Option Token) (x : X) → item t ≡ Some x → t ≡ Some (tok x)) → (b l : Symbol) (ts : Tokens) (xs : List X) (rest : Tokens)
    → list_in item b l ts ≡ Some (xs, rest) → IsList (λ x. tok x ∷ []) b l ts xs rest
unfolding list_in
list_taken item tok item_is b l [] xs rest h = absurd (cc)
list_taken item tok item_is b l (t ∷ []) xs rest h = absurd (cc)
list_taken {X = X} item tok item_is b l (t ∷ u ∷ ts) xs rest h =
    let i = then_some (item t) (λ x. and_then (turn_of b l u) (λ more. onto (x ∷ []) (going more ts (list_in item b l ts)))) (xs, rest) h in
    let j = then_some (turn_of b l u) (λ more. onto (i.0 ∷ []) (going more ts (list_in item b l ts))) (xs, rest) i.2 in
    subst (λ t. IsList (λ x. tok x ∷ []) b l (t ∷ u ∷ ts) xs rest) (sym (item_is t i.0 i.1))
    (list_on (λ x. tok x ∷ []) b l i.0 u ts xs rest (list_in item b l ts) (λ ys k. list_taken item tok item_is b l ts ys rest k) j.0 (turn_is b l u _ _ refl refl j.0 j.1) j.2)

pub name_is : (t : Option Token) (n : List ℕ) → name_of t ≡ Some n → t ≡ Some (Name n)
name_is None n h = absurd (cc)
name_is (Some (Fixed s)) n h = absurd (cc)
name_is (Some (Name m)) n h = cc
name_is (Some (Value v)) n h = absurd (cc)

pub value_is : (t : Option Token) (v : OwnedValue) → value_of_token t ≡ Some v → t ≡ Some (Value v)
value_is None v h = absurd (cc)
value_is (Some (Fixed s)) v h = absurd (cc)
value_is (Some (Name m)) v h = absurd (cc)
value_is (Some (Value w)) v h = cc

assigned_is : (q : Bool) (n : List ℕ) (o : Option OwnedValue) (a : AssignmentData) → (if q then option_map (λ x. record { column = n; value = x }) o else None) ≡ Some a → (q ≡ true) × (n ≡ a.column) × (o ≡ Some a.value)
assigned_is false n o a h = absurd (cc)
assigned_is true n None a h = absurd (cc)
assigned_is true n (Some v) a h = (refl, cc, cc)

assignment_taken : (t u v : Option Token) (ts : Tokens) (a : AssignmentData) → assignment_of_tokens t u v ≡ Some a → map Some (assignment a) ++ ts ≡ t ∷ u ∷ v ∷ ts
assignment_taken t u v ts a h =
    let i = then_some (name_of t) (λ n. if is_fixed symbol.Equals u then option_map (λ x. record { column = n; value = x }) (value_of_token v) else None) a h in
    let j = assigned_is (is_fixed symbol.Equals u) i.0 (value_of_token v) a i.2 in
    let e : t ≡ Some (Name a.column) = name_is t i.0 i.1 ∙ ap (λ n. Some (Name n)) j.1 in
    let f : u ≡ Some (Fixed symbol.Equals) = is_fixed-is symbol.Equals u j.0 in
    let g : v ≡ Some (Value a.value) = value_is v a.value j.2 in
    cc

pub assignments_taken : (b l : Symbol) (ts : Tokens) (xs : List AssignmentData) (rest : Tokens) → assignments_in b l ts ≡ Some (xs, rest) → IsList assignment b l ts xs rest
unfolding assignments_in
assignments_taken b l [] xs rest h = absurd (cc)
assignments_taken b l (t ∷ []) xs rest h = absurd (cc)
assignments_taken b l (t ∷ u ∷ []) xs rest h = absurd (cc)
assignments_taken b l (t ∷ u ∷ v ∷ []) xs rest h = absurd (cc)
assignments_taken b l (t ∷ u ∷ v ∷ w ∷ ts) xs rest h =
    let i = then_some (assignment_of_tokens t u v) (λ x. and_then (turn_of b l w) (λ more. onto (x ∷ []) (going more ts (assignments_in b l ts)))) (xs, rest) h in
    let j = then_some (turn_of b l w) (λ more. onto (i.0 ∷ []) (going more ts (assignments_in b l ts))) (xs, rest) i.2 in
    subst (λ ts. IsList assignment b l ts xs rest) (assignment_taken t u v (w ∷ ts) i.0 i.1)
    (list_on assignment b l i.0 w ts xs rest (assignments_in b l ts) (λ ys k. assignments_taken b l ts ys rest k) j.0 (turn_is b l w _ _ refl refl j.0 j.1) j.2)

-- and what is a list is read as it

pub list_again : {X : Type 0} (item : Option Token → Option X) (tok : X → Token) → ((x : X) → item (Some (tok x)) ≡ Some x) → (b l : Symbol) → turn_of b l (Some (Fixed b)) ≡ Some true → turn_of b l (Some (Fixed l)) ≡ Some false
    → (xs : List X) (rest : Tokens) → xs ≢ [] → list_in item b l (map Some (joined (Fixed b) (map (λ x. tok x ∷ []) xs)) ++ Some (Fixed l) ∷ rest) ≡ Some (xs, rest)
unfolding list_in joined
list_again item tok again b l on off [] rest some = absurd (some refl)
list_again item tok again b l on off (x ∷ []) rest some = rw (again x, off) refl
list_again item tok again b l on off (x ∷ y ∷ xs) rest some =
    rw (again x, on, list_again item tok again b l on off (y ∷ xs) rest (λ h. cc)) refl

pub assignments_again : (b l : Symbol) → turn_of b l (Some (Fixed b)) ≡ Some true → turn_of b l (Some (Fixed l)) ≡ Some false
    → (xs : List AssignmentData) (rest : Tokens) → xs ≢ [] → assignments_in b l (map Some (joined (Fixed b) (map assignment xs)) ++ Some (Fixed l) ∷ rest) ≡ Some (xs, rest)
unfolding assignments_in joined
assignments_again b l on off [] rest some = absurd (some refl)
assignments_again b l on off (x ∷ []) rest some = rw off refl
assignments_again b l on off (x ∷ y ∷ xs) rest some = rw (on, assignments_again b l on off (y ∷ xs) rest (λ h. cc)) refl

pub name_again : (n : List ℕ) → name_of (Some (Name n)) ≡ Some n
name_again n = refl

pub value_again : (v : OwnedValue) → value_of_token (Some (Value v)) ≡ Some v
value_again v = refl
