-- The forms of statements: what is read as one is spelled as it, and what is spelled as one is read as it.
use Rattle.std.proofs.Common.{inl, inr, ◌≡◌, ◌≢◌, ℕ, List, [], ◌∷◌, ◌++◌, length, suc, map, Some, None, true, refl, sym, ap, subst, ◌∙◌, append_assoc}
use Rattle.cs_shell_tokens.specs.declared.symbol.Symbol.{Symbol}
use Rattle.cs_shell_tokens.specs.declared.symbol.Symbol.TheVariants as symbol
use Rattle.cs_shell_tokens.specs.Tokens.{Token, Fixed, Name, Value}
use Rattle.cs_shell_grammar.specs.Commands.{columns_tokens, CommandData, Create, Insert, Update, Delete, Select, IsStatement, joined, assignment, where_tokens}
use Rattle.cs_shell_grammar.specs.StatementReading.{Tokens, ColumnData, name_of, name_in, value_of_token, fixed_in}
use Rattle.cs_shell_tokens.specs.Reading.{same_symbol}
use Rattle.cs_shell_grammar.specs.StatementReading.{names_in, values_in, assignments_in, columns_in, names_and_rules_of}
use Rattle.cs_shell_grammar.specs.StatementReading.{symbol_in, form_of, form_in, create_in, insert_in, update_in, delete_in, select_in, end_in, statement_in}
use Rattle.cs_shell_grammar.proofs.StatementLaws.{some_pair, then_some, if_some, fixed_taken, name_taken, same_is, name_is, value_is, value_again, name_again, map_some-append, list_taken, assignments_taken, list_again, assignments_again}
use Rattle.cs_shell_grammar.proofs.ColumnLemmas.{tokens_of_columns, columns_taken, columns_again, names_with, rules_with}

map_some-join : (xs ys : List Token) → map Some (xs ++ ys) ≡ map Some xs ++ map Some ys
map_some-join [] ys = refl
map_some-join (x ∷ xs) ys = ap (λ ts. Some x ∷ ts) (map_some-join xs ys)

-- the tokens are a statement's that begins with this keyword
abbrev pub Takes : Symbol → Tokens → CommandData → Tokens → Type 0
Takes first ts c rest = (tokens : List Token) × (Some (Fixed first) ∷ ts ≡ map Some tokens ++ rest) × IsStatement tokens c

-- ---- what is read is spelled so

abbrev insert_tokens : List ℕ → List Token → List Token
insert_tokens n items = Fixed symbol.Insert ∷ Fixed symbol.Into ∷ Name n ∷ Fixed symbol.Values ∷ Fixed symbol.Open ∷ items ++ Fixed symbol.Close ∷ Fixed symbol.Semicolon ∷ []

insert_spelled : (ts a b d e v f rest : Tokens) (n : List ℕ) (items : List Token) → ts ≡ Some (Fixed symbol.Into) ∷ a → a ≡ Some (Name n) ∷ b → b ≡ Some (Fixed symbol.Values) ∷ d → d ≡ Some (Fixed symbol.Open) ∷ e
    → e ≡ map Some items ++ Some (Fixed symbol.Close) ∷ v → v ≡ Some (Fixed symbol.Semicolon) ∷ f → f ≡ rest → Some (Fixed symbol.Insert) ∷ ts ≡ map Some (insert_tokens n items) ++ rest
insert_spelled ts a b d e v f rest n items is_ts is_a is_b is_d is_e is_v is_f =
    ap (λ ts. Some (Fixed symbol.Insert) ∷ ts) (is_ts ∙ ap (λ a. Some (Fixed symbol.Into) ∷ a) (is_a ∙ ap (λ b. Some (Name n) ∷ b) (is_b ∙ ap (λ d. Some (Fixed symbol.Values) ∷ d) (is_d
    ∙ ap (λ e. Some (Fixed symbol.Open) ∷ e) (is_e ∙ ap (λ v. map Some items ++ Some (Fixed symbol.Close) ∷ v) (is_v ∙ ap (λ f. Some (Fixed symbol.Semicolon) ∷ f) is_f)
    ∙ sym (map_some-append items (Fixed symbol.Close ∷ Fixed symbol.Semicolon ∷ []) rest))))))

insert_taken : (ts rest : Tokens) (c : CommandData) → insert_in ts ≡ Some (c, rest) → Takes symbol.Insert ts c rest
unfolding insert_in
insert_taken ts rest c h =
    let a = then_some (fixed_in symbol.Into ts) _ _ h in
    let n = then_some (name_in a.0) _ _ a.2 in
    let d = then_some (fixed_in symbol.Values n.0.1) _ _ n.2 in
    let e = then_some (fixed_in symbol.Open d.0) _ _ d.2 in
    let v = then_some (values_in e.0) _ _ e.2 in
    let f = then_some (fixed_in symbol.Semicolon v.0.1) _ _ v.2 in
    let k = some_pair (Insert n.0.0 v.0.0, f.0) (c, rest) f.2 in
    let j = list_taken value_of_token Value value_is symbol.Comma symbol.Close e.0 v.0.0 v.0.1 v.1 in
    let items = joined (Fixed symbol.Comma) (map (λ value. Value value ∷ []) v.0.0) in (
      insert_tokens n.0.0 items,
      insert_spelled ts a.0 n.0.1 d.0 e.0 v.0.1 f.0 rest n.0.0 items (fixed_taken symbol.Into ts a.0 a.1) (name_taken a.0 n.0.1 n.0.0 n.1) (fixed_taken symbol.Values n.0.1 d.0 d.1) (fixed_taken symbol.Open d.0 e.0 e.1) j.1
          (fixed_taken symbol.Semicolon v.0.1 f.0 f.1) k.1,
      subst (λ c. IsStatement (insert_tokens n.0.0 items) c) k.0 (j.0, refl),
    )

select_taken : (ts rest : Tokens) (c : CommandData) → select_in ts ≡ Some (c, rest) → Takes symbol.Select ts c rest
unfolding select_in
select_taken ts rest c h =
    let a = then_some (fixed_in symbol.Star ts) _ _ h in
    let d = then_some (fixed_in symbol.From a.0) _ _ a.2 in
    let n = then_some (name_in d.0) _ _ d.2 in
    let f = then_some (fixed_in symbol.Semicolon n.0.1) _ _ n.2 in
    let k = some_pair (Select n.0.0, f.0) (c, rest) f.2 in (
      Fixed symbol.Select ∷ Fixed symbol.Star ∷ Fixed symbol.From ∷ Name n.0.0 ∷ Fixed symbol.Semicolon ∷ [],
      cc (fixed_taken symbol.Star ts a.0 a.1, fixed_taken symbol.From a.0 d.0 d.1, name_taken d.0 n.0.1 n.0.0 n.1, fixed_taken symbol.Semicolon n.0.1 f.0 f.1, k.1),
      subst (λ c. IsStatement (Fixed symbol.Select ∷ Fixed symbol.Star ∷ Fixed symbol.From ∷ Name n.0.0 ∷ Fixed symbol.Semicolon ∷ []) c) k.0 refl,
    )

delete_taken : (ts rest : Tokens) (c : CommandData) → delete_in ts ≡ Some (c, rest) → Takes symbol.Delete ts c rest
unfolding delete_in
delete_taken ts rest c h =
    let a = then_some (fixed_in symbol.From ts) _ _ h in
    let n = then_some (name_in a.0) _ _ a.2 in
    let d = then_some (fixed_in symbol.Where n.0.1) _ _ n.2 in
    let v = then_some (assignments_in symbol.And symbol.Semicolon d.0) _ _ d.2 in
    let k = some_pair (Delete n.0.0 v.0.0, v.0.1) (c, rest) v.2 in
    let j = assignments_taken symbol.And symbol.Semicolon d.0 v.0.0 v.0.1 v.1 in (
      Fixed symbol.Delete ∷ Fixed symbol.From ∷ Name n.0.0 ∷ where_tokens v.0.0,
      cc (
        fixed_taken symbol.From ts a.0 a.1,
        name_taken a.0 n.0.1 n.0.0 n.1,
        fixed_taken symbol.Where n.0.1 d.0 d.1,
        j.1,
        k.1,
        map_some-append (joined (Fixed symbol.And) (map assignment v.0.0)) (Fixed symbol.Semicolon ∷ []) rest,
      ),
      subst (λ c. IsStatement (Fixed symbol.Delete ∷ Fixed symbol.From ∷ Name n.0.0 ∷ where_tokens v.0.0) c) k.0 (j.0, refl),
    )

update_taken : (ts rest : Tokens) (c : CommandData) → update_in ts ≡ Some (c, rest) → Takes symbol.Update ts c rest
unfolding update_in
update_taken ts rest c h =
    let n = then_some (name_in ts) _ _ h in
    let a = then_some (fixed_in symbol.Set n.0.1) _ _ n.2 in
    let s = then_some (assignments_in symbol.Comma symbol.Where a.0) _ _ a.2 in
    let v = then_some (assignments_in symbol.And symbol.Semicolon s.0.1) _ _ s.2 in
    let k = some_pair (Update n.0.0 s.0.0 v.0.0, v.0.1) (c, rest) v.2 in
    let i = assignments_taken symbol.Comma symbol.Where a.0 s.0.0 s.0.1 s.1 in
    let j = assignments_taken symbol.And symbol.Semicolon s.0.1 v.0.0 v.0.1 v.1 in (
      Fixed symbol.Update ∷ Name n.0.0 ∷ Fixed symbol.Set ∷ joined (Fixed symbol.Comma) (map assignment s.0.0) ++ where_tokens v.0.0,
      cc (
        name_taken ts n.0.1 n.0.0 n.1,
        fixed_taken symbol.Set n.0.1 a.0 a.1,
        i.1,
        j.1,
        k.1,
        map_some-append (joined (Fixed symbol.Comma) (map assignment s.0.0)) (where_tokens v.0.0) rest,
        map_some-append (joined (Fixed symbol.And) (map assignment v.0.0)) (Fixed symbol.Semicolon ∷ []) rest,
      ),
      subst (λ c. IsStatement (Fixed symbol.Update ∷ Name n.0.0 ∷ Fixed symbol.Set ∷ joined (Fixed symbol.Comma) (map assignment s.0.0) ++ where_tokens v.0.0) c) k.0 (i.0, j.0, refl),
    )

abbrev closing : List Token
closing = Fixed symbol.Close ∷ Fixed symbol.Close ∷ Fixed symbol.Semicolon ∷ []

abbrev create_tokens : List ℕ → List Token → List Token → List Token
create_tokens n columns keys = Fixed symbol.Create ∷ Fixed symbol.Table ∷ Name n ∷ Fixed symbol.Open ∷ columns ++ Fixed symbol.Primary ∷ Fixed symbol.Key ∷ Fixed symbol.Open ∷ keys ++ closing

abbrev key_tokens : List Token → List Token
key_tokens keys = Fixed symbol.Primary ∷ Fixed symbol.Key ∷ Fixed symbol.Open ∷ keys

keys_spelled : (v d e y f g rest : Tokens) (keys : List Token) → v ≡ Some (Fixed symbol.Key) ∷ d → d ≡ Some (Fixed symbol.Open) ∷ e → e ≡ map Some keys ++ Some (Fixed symbol.Close) ∷ y
    → y ≡ Some (Fixed symbol.Close) ∷ f → f ≡ Some (Fixed symbol.Semicolon) ∷ g → g ≡ rest → Some (Fixed symbol.Primary) ∷ v ≡ map Some (key_tokens keys ++ closing) ++ rest
keys_spelled v d e y f g rest keys is_v is_d is_e is_y is_f is_g =
    ap (λ v. Some (Fixed symbol.Primary) ∷ v) (is_v ∙ ap (λ d. Some (Fixed symbol.Key) ∷ d) (is_d ∙ ap (λ e. Some (Fixed symbol.Open) ∷ e) (is_e
    ∙ ap (λ y. map Some keys ++ Some (Fixed symbol.Close) ∷ y) (is_y ∙ ap (λ f. Some (Fixed symbol.Close) ∷ f) (is_f ∙ ap (λ g. Some (Fixed symbol.Semicolon) ∷ g) is_g))
    ∙ sym (map_some-append keys closing rest))))

create_spelled : (ts a b v w rest : Tokens) (n : List ℕ) (columns keys : List Token) → ts ≡ Some (Fixed symbol.Table) ∷ a → a ≡ Some (Name n) ∷ b → b ≡ Some (Fixed symbol.Open) ∷ v
    → v ≡ map Some columns ++ w → w ≡ map Some (key_tokens keys ++ closing) ++ rest → Some (Fixed symbol.Create) ∷ ts ≡ map Some (create_tokens n columns keys) ++ rest
create_spelled ts a b v w rest n columns keys is_ts is_a is_b is_v is_w =
    ap (λ ts. Some (Fixed symbol.Create) ∷ ts) (is_ts ∙ ap (λ a. Some (Fixed symbol.Table) ∷ a) (is_a ∙ ap (λ b. Some (Name n) ∷ b) (is_b ∙ ap (λ v. Some (Fixed symbol.Open) ∷ v) (is_v
    ∙ ap (λ w. map Some columns ++ w) is_w ∙ sym (map_some-append columns (key_tokens keys ++ closing) rest)
    ∙ ap (λ tokens. map Some tokens ++ rest) (sym (append_assoc columns (key_tokens keys) closing))))))

some_names : (cs : List ColumnData) → cs ≢ [] → map (λ c. c.name) cs ≢ []
some_names [] some = absurd (some refl)
some_names (c ∷ cs) some = λ none. cc

same_lengths : (cs : List ColumnData) → length (map (λ c. c.refuses) cs) ≡ length (map (λ c. c.name) cs)
same_lengths [] = refl
same_lengths (c ∷ cs) = ap suc (same_lengths cs)

create_taken : (ts rest : Tokens) (c : CommandData) → create_in ts ≡ Some (c, rest) → Takes symbol.Create ts c rest
unfolding create_in
create_taken ts rest c h =
    let a = then_some (fixed_in symbol.Table ts) _ _ h in
    let n = then_some (name_in a.0) _ _ a.2 in
    let b = then_some (fixed_in symbol.Open n.0.1) _ _ n.2 in
    let v = then_some (columns_in b.0) _ _ b.2 in
    let d = then_some (fixed_in symbol.Key v.0.1) _ _ v.2 in
    let e = then_some (fixed_in symbol.Open d.0) _ _ d.2 in
    let y = then_some (names_in e.0) _ _ e.2 in
    let f = then_some (fixed_in symbol.Close y.0.1) _ _ y.2 in
    let g = then_some (fixed_in symbol.Semicolon f.0) _ _ f.2 in
    let k = some_pair (Create n.0.0 (names_and_rules_of v.0.0).0 (names_and_rules_of v.0.0).1 y.0.0, g.0) (c, rest) g.2 in
    let i = columns_taken b.0 v.0.0 v.0.1 v.1 in
    let j = list_taken name_of Name name_is symbol.Comma symbol.Close e.0 y.0.0 y.0.1 y.1 in
    let keys = joined (Fixed symbol.Comma) (map (λ key. Name key ∷ []) y.0.0) in (
      create_tokens n.0.0 (tokens_of_columns v.0.0) keys,
      create_spelled ts a.0 n.0.1 b.0 (Some (Fixed symbol.Primary) ∷ v.0.1) rest n.0.0 (tokens_of_columns v.0.0) keys (fixed_taken symbol.Table ts a.0 a.1) (name_taken a.0 n.0.1 n.0.0 n.1) (fixed_taken symbol.Open n.0.1 b.0 b.1) i.1
          (keys_spelled v.0.1 d.0 e.0 y.0.1 f.0 g.0 rest keys (fixed_taken symbol.Key v.0.1 d.0 d.1) (fixed_taken symbol.Open d.0 e.0 e.1) j.1 (fixed_taken symbol.Close y.0.1 f.0 f.1) (fixed_taken symbol.Semicolon f.0 g.0 g.1) k.1),
      subst (λ c. IsStatement (create_tokens n.0.0 (tokens_of_columns v.0.0) keys) c) k.0 (some_names v.0.0 i.0, j.0, same_lengths v.0.0, refl),
    )

takes_as : (first s : Symbol) (ts : Tokens) (c : CommandData) (rest : Tokens) → same_symbol first s ≡ true → Takes s ts c rest → Takes first ts c rest
takes_as first s ts c rest h t = subst (λ s. Takes s ts c rest) (sym (same_is first s h)) t

form_taken : (first : Symbol) (ts rest : Tokens) (c : CommandData) → form_of first ts ≡ Some (c, rest) → Takes first ts c rest
unfolding form_of
form_taken first ts rest c h =
    elim (if_some (same_symbol first symbol.Create) _ _ (c, rest) h) [
      | inl k ↦ takes_as first symbol.Create ts c rest k.0 (create_taken ts rest c k.1)
      | inr k ↦ elim (if_some (same_symbol first symbol.Insert) _ _ (c, rest) k.1) [
        | inl k ↦ takes_as first symbol.Insert ts c rest k.0 (insert_taken ts rest c k.1)
        | inr k ↦ elim (if_some (same_symbol first symbol.Update) _ _ (c, rest) k.1) [
          | inl k ↦ takes_as first symbol.Update ts c rest k.0 (update_taken ts rest c k.1)
          | inr k ↦ elim (if_some (same_symbol first symbol.Delete) _ _ (c, rest) k.1) [
            | inl k ↦ takes_as first symbol.Delete ts c rest k.0 (delete_taken ts rest c k.1)
            | inr k ↦ elim (if_some (same_symbol first symbol.Select) _ _ (c, rest) k.1) [
              | inl k ↦ takes_as first symbol.Select ts c rest k.0 (select_taken ts rest c k.1)
              | inr k ↦ absurd (let j = k.1 in cc)
            ]
          ]
        ]
      ]
    ]

symbol_taken : (ts ts' : Tokens) (s : Symbol) → symbol_in ts ≡ Some (s, ts') → ts ≡ Some (Fixed s) ∷ ts'
unfolding symbol_in
symbol_taken [] ts' s h = absurd (cc)
symbol_taken (None ∷ ts) ts' s h = absurd (cc)
symbol_taken (Some (Fixed r) ∷ ts) ts' s h = let k = some_pair (r, ts) (s, ts') h in ap (λ m. Some (Fixed m) ∷ ts) k.0 ∙ ap (λ ts. Some (Fixed s) ∷ ts) k.1
symbol_taken (Some (Name m) ∷ ts) ts' s h = absurd (cc)
symbol_taken (Some (Value w) ∷ ts) ts' s h = absurd (cc)

ended : (ts : Tokens) (u : Unit {0}) → end_in ts ≡ Some u → ts ≡ []
unfolding end_in
ended [] u h = refl
ended (t ∷ ts) u h = absurd (cc)

append_nothing : (ts : Tokens) → ts ++ [] ≡ ts
append_nothing [] = refl
append_nothing (t ∷ ts) = ap (λ ts. t ∷ ts) (append_nothing ts)

-- what is read as a statement is one
pub statement_taken : (ts : Tokens) (c : CommandData) → statement_in ts ≡ Some c → (tokens : List Token) × (ts ≡ map Some tokens) × IsStatement tokens c
unfolding statement_in form_in
statement_taken ts c h =
    let a = then_some (form_in ts) _ c h in
    let e = then_some (end_in a.0.1) _ c a.2 in
    let s = then_some (symbol_in ts) _ a.0 a.1 in
    let same : a.0.0 ≡ c = let k = e.2 in cc in
    let t = form_taken s.0.0 s.0.1 a.0.1 a.0.0 s.2 in
    (t.0, symbol_taken ts s.0.1 s.0.0 s.1 ∙ t.1 ∙ ap (λ r. map Some t.0 ++ r) (ended a.0.1 e.0 e.1) ∙ append_nothing (map Some t.0), subst (λ c. IsStatement t.0 c) same t.2)

-- ---- and what is spelled so is read

pub statement_again : (tokens : List Token) (c : CommandData) → IsStatement tokens c → statement_in (map Some tokens) ≡ Some c
unfolding statement_in form_in form_of symbol_in create_in insert_in update_in delete_in select_in fixed_in name_in end_in
statement_again tokens (Create name columns refuses keys) h =
    let keys_are = joined (Fixed symbol.Comma) (map (λ key. Name key ∷ []) keys) in
    rw (
      h.3,
      append_assoc (columns_tokens columns refuses) (key_tokens keys_are) closing,
      map_some-join (columns_tokens columns refuses) (key_tokens keys_are ++ closing),
      columns_again columns refuses _ h.0 h.2,
      names_with columns refuses h.2,
      rules_with columns refuses h.2,
      map_some-join keys_are closing,
      list_again name_of Name name_again symbol.Comma symbol.Close refl refl keys _ h.1,
    ) refl
statement_again tokens (Insert table values) h =
    rw (
      h.1,
      map_some-join (joined (Fixed symbol.Comma) (map (λ value. Value value ∷ []) values)) (Fixed symbol.Close ∷ Fixed symbol.Semicolon ∷ []),
      list_again value_of_token Value value_again symbol.Comma symbol.Close refl refl values _ h.0,
    ) refl
statement_again tokens (Update table sets conditions) h =
    rw (
      h.2,
      map_some-join (joined (Fixed symbol.Comma) (map assignment sets)) (where_tokens conditions),
      assignments_again symbol.Comma symbol.Where refl refl sets _ h.0,
      map_some-join (joined (Fixed symbol.And) (map assignment conditions)) (Fixed symbol.Semicolon ∷ []),
      assignments_again symbol.And symbol.Semicolon refl refl conditions _ h.1,
    ) refl
statement_again tokens (Delete table conditions) h =
    rw (h.1, map_some-join (joined (Fixed symbol.And) (map assignment conditions)) (Fixed symbol.Semicolon ∷ []), assignments_again symbol.And symbol.Semicolon refl refl conditions _ h.0) refl
statement_again tokens (Select table) h = rw h refl
statement_again tokens _ h = absurd h
