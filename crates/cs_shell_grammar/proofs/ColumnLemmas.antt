-- The columns of a new table: what is read as them is spelled as them, and what is spelled as them is read as them.
use Rattle.std.proofs.Common.{◌≡◌, ◌≢◌, ◌<◌, ◌≤◌, inl, inr, ℕ, zero, suc, List, [], ◌∷◌, ◌++◌, length, map, length-append, string_bytes, Option, Some, None, option_map, Bool, true, false, refl, sym, ap, ◌∙◌, arith}
use Rattle.std.proofs.lemmas.List.{append-nil}
use Rattle.cs_value.specs.declared.value.OwnedValue.TheVariants.{Int, Text, Blob, Null}
use Rattle.cs_shell_tokens.specs.declared.symbol.Symbol.TheVariants as symbol
use Rattle.cs_shell_grammar.specs.declared.statement.NewColumn.{NewColumn}
use Rattle.cs_shell_tokens.specs.Tokens.{Token, Fixed, Name, Value}
use Rattle.cs_shell_grammar.specs.Commands.{rule_tokens, columns_tokens}
use Rattle.cs_shell_grammar.specs.StatementReading.{Tokens, onto, name_of, name_in, fixed_in, is_fixed, is_null, null_in, rule_in}
use Rattle.cs_shell_tokens.specs.Faults.{and_then}
use Rattle.cs_shell_grammar.specs.StatementReading.{ColumnData, column_with, column_of, names_and_rules_of, column_in, columns_within, columns_behind, columns_in}
use Rattle.cs_shell_grammar.proofs.StatementLaws.{some_of, some_pair, then_some, if_some, taken, fixed_taken, name_taken, is_fixed-is, name_is, map_some-append}
use Rattle.cs_shell_grammar.proofs.StatementLemmas.{onto-nil, onto-onto}

-- ---- one column

-- what a mapped reader accepts comes from what the reader accepts
mapped_some : {X Y : Type 0} (f : X → Y) (o : Option X) (y : Y) → option_map f o ≡ Some y → (x : X) × (o ≡ Some x) × (f x ≡ y)
mapped_some f None y h = absurd (cc)
mapped_some f (Some x) y h = (x, refl, cc)

-- a token that is NULL
is_null-is : (t : Option Token) → is_null t ≡ true → t ≡ Some (Value Null)
is_null-is None h = absurd (cc)
is_null-is (Some (Fixed s)) h = absurd (cc)
is_null-is (Some (Name n)) h = absurd (cc)
is_null-is (Some (Value Null)) h = refl
is_null-is (Some (Value (Int i))) h = absurd (cc)
is_null-is (Some (Value (Text t))) h = absurd (cc)
is_null-is (Some (Value (Blob b))) h = absurd (cc)

-- what is read as NULL is that token, and the rest
null_taken : (ts ts' : Tokens) → null_in ts ≡ Some ts' → ts ≡ Some (Value Null) ∷ ts'
unfolding null_in
null_taken [] ts' h = absurd (cc)
null_taken (t ∷ ts) ts' h = let k = taken (is_null t) ts ts' h in ap (λ t. t ∷ ts) (is_null-is t k.0) ∙ ap (λ ts. Some (Value Null) ∷ ts) k.1

-- what is read after a name is a comma, or NOT NULL and a comma
rule_taken : (ts ts' : Tokens) (refuses : Bool) → rule_in ts ≡ Some (refuses, ts') → ts ≡ map Some (rule_tokens refuses) ++ ts'
unfolding rule_in
rule_taken [] ts' refuses h = absurd (cc)
rule_taken (t ∷ ts) ts' refuses h =
    elim (if_some (is_fixed symbol.Comma t) (Some (false, ts)) _ (refuses, ts') h) [
      | inl k ↦
          let e = some_pair (false, ts) (refuses, ts') k.1 in
          ap (λ t. t ∷ ts) (is_fixed-is symbol.Comma t k.0) ∙ ap (λ ts. Some (Fixed symbol.Comma) ∷ ts) e.1 ∙ ap (λ refuses. map Some (rule_tokens refuses) ++ ts') e.0
      | inr k ↦ elim (if_some (is_fixed symbol.Not t) _ None (refuses, ts') k.1) [
        | inl k ↦
            let n = then_some (null_in ts) _ (refuses, ts') k.1 in
            let m = mapped_some (λ ts. (true, ts)) (fixed_in symbol.Comma n.0) (refuses, ts') n.2 in
            ap (λ t. t ∷ ts) (is_fixed-is symbol.Not t k.0) ∙ ap (λ ts. Some (Fixed symbol.Not) ∷ ts) (null_taken ts n.0 n.1)
            ∙ ap (λ ts. Some (Fixed symbol.Not) ∷ Some (Value Null) ∷ ts) (fixed_taken symbol.Comma n.0 m.0 m.1)
            ∙ ap (λ r. map Some (rule_tokens r.0) ++ r.1) m.2
        | inr k ↦ absurd (let j = k.1 in cc)
      ]
    ]

-- the tokens of a column, or PRIMARY
abbrev column_tokens : Option ColumnData → List Token
column_tokens None = Fixed symbol.Primary ∷ []
column_tokens (Some c) = Name c.name ∷ rule_tokens c.refuses

-- what is read as a column is its tokens, and what is read as none is PRIMARY
column_taken : (ts ts' : Tokens) (o : Option ColumnData) → column_in ts ≡ Some (o, ts') → ts ≡ map Some (column_tokens o) ++ ts'
unfolding column_in
column_taken [] ts' o h = absurd (cc)
column_taken (t ∷ ts) ts' o h =
    elim (if_some (is_fixed symbol.Primary t) (Some (None, ts)) _ (o, ts') h) [
      | inl k ↦
          let e = some_pair (None, ts) (o, ts') k.1 in
          ap (λ t. t ∷ ts) (is_fixed-is symbol.Primary t k.0) ∙ ap (λ ts. Some (Fixed symbol.Primary) ∷ ts) e.1 ∙ ap (λ o. map Some (column_tokens o) ++ ts') e.0
      | inr k ↦
          let n = then_some (name_of t) _ (o, ts') k.1 in
          let m = mapped_some (λ r. (Some (column_with n.0 r.0), r.1)) (rule_in ts) (o, ts') n.2 in
          ap (λ t. t ∷ ts) (name_is t n.0 n.1) ∙ ap (λ ts. Some (Name n.0) ∷ ts) (rule_taken ts m.0.1 m.0.0 m.1)
          ∙ ap (λ r. map Some (column_tokens r.0) ++ r.1) m.2
    ]

-- they are one token at least
column_long : (o : Option ColumnData) → 0 < length (map Some (column_tokens o))
column_long None = omega arith
column_long (Some c) = omega arith

-- so there are fewer tokens after it
column_shorter : (ts ts' : Tokens) (o : Option ColumnData) → column_in ts ≡ Some (o, ts') → length ts' < length ts
column_shorter ts ts' o h = omega (arith, ap length (column_taken ts ts' o h), length-append (map Some (column_tokens o)) ts', column_long o)

-- and what is a column is read as it
column_again : (name : List ℕ) (refuses : Bool) (rest : Tokens) → column_in (Some (Name name) ∷ (map Some (rule_tokens refuses) ++ rest)) ≡ Some (Some (column_with name refuses), rest)
unfolding column_in rule_in null_in fixed_in
column_again name true rest = refl
column_again name false rest = refl

-- and what is a rule is read as it
rule_again : (refuses : Bool) (rest : Tokens) → rule_in (map Some (rule_tokens refuses) ++ rest) ≡ Some (refuses, rest)
unfolding rule_in null_in fixed_in
rule_again true rest = refl
rule_again false rest = refl

-- ---- further columns

-- what comes after a column is read the same way if the later columns are
alike_behind : (n m : ℕ) (ts : Tokens) (read : Option (Option ColumnData × Tokens)) → column_in ts ≡ read
    → ((o : Option ColumnData) (rest : Tokens) → length rest < length ts → columns_within o n rest ≡ columns_within o m rest)
    → and_then read (λ r. columns_within r.0 n r.1) ≡ and_then read (λ r. columns_within r.0 m r.1)
alike_behind n m ts None is same = refl
alike_behind n m ts (Some r) is same = same r.0 r.1 (column_shorter ts r.1 r.0 is)

-- no token is no column
no_column_at_end : column_in [] ≡ None
unfolding column_in
no_column_at_end = refl

-- so no column comes after the last token
none_at_end : (c : ColumnData) (n : ℕ) → columns_within (Some c) n [] ≡ None
unfolding columns_within
none_at_end c zero = refl
none_at_end c (suc n) = ap (λ r. onto (c ∷ []) (and_then r (λ r. columns_within r.0 n r.1))) no_column_at_end

-- no more columns are read than there are tokens
enough : (n m : ℕ) (o : Option ColumnData) (ts : Tokens) → length ts ≤ n → length ts ≤ m → columns_within o n ts ≡ columns_within o m ts
unfolding columns_within
enough n m None ts p q = refl
enough n m (Some c) [] p q = none_at_end c n ∙ sym (none_at_end c m)
enough zero m (Some c) (t ∷ ts) p q = absurd (omega (arith, p))
enough (suc n) zero (Some c) (t ∷ ts) p q = absurd (omega (arith, q))
enough (suc n) (suc m) (Some c) (t ∷ ts) p q =
    ap (onto (c ∷ [])) (alike_behind n m (t ∷ ts) (column_in (t ∷ ts)) refl (λ o rest lt. enough n m o rest (omega (arith, lt, p)) (omega (arith, lt, q))))

-- what comes after a column is read whole, if as many may be read as there are tokens
all_behind : (n : ℕ) (ts : Tokens) (read : Option (Option ColumnData × Tokens)) → column_in ts ≡ read → length ts ≤ suc n
    → and_then read (λ r. columns_within r.0 n r.1) ≡ and_then read (λ r. columns_behind r.0 r.1)
all_behind n ts None is le = refl
all_behind n ts (Some r) is le = let lt = column_shorter ts r.1 r.0 is in enough n (length r.1) r.0 r.1 (omega (arith, lt, le)) (omega arith)

-- after a column one more is read, or PRIMARY
columns_unfold : (c : ColumnData) (ts : Tokens) → columns_behind (Some c) ts ≡ onto (c ∷ []) (and_then (column_in ts) (λ r. columns_behind r.0 r.1))
unfolding columns_within
columns_unfold c [] = none_at_end c zero ∙ sym (ap (λ r. onto (c ∷ []) (and_then r (λ r. columns_behind r.0 r.1))) no_column_at_end)
columns_unfold c (t ∷ ts) = ap (onto (c ∷ [])) (all_behind (length ts) (t ∷ ts) (column_in (t ∷ ts)) refl (omega arith))

-- ---- the loop over columns

-- the first column
pub columns_start : (line t1 t2 : Tokens) (name : List ℕ) (refuses : Bool) → name_in line ≡ Some (name, t1) → rule_in t1 ≡ Some (refuses, t2)
    → columns_in line ≡ onto [] (columns_behind (Some (column_with name refuses)) t2)
unfolding columns_in
columns_start line t1 t2 name refuses is_name is_rule = rw (is_name, is_rule) (sym (onto-nil (columns_behind (Some (column_with name refuses)) t2)))

-- one more column is read, or PRIMARY
pub columns_go : (items : List ColumnData) (c : ColumnData) (rest t2 : Tokens) (o : Option ColumnData) (so_far : Option (List ColumnData × Tokens))
    → so_far ≡ onto items (columns_behind (Some c) rest) → column_in rest ≡ Some (o, t2) → so_far ≡ onto (items ++ c ∷ []) (columns_behind o t2)
columns_go items c rest t2 o so_far is is_column =
    is ∙ ap (onto items) (columns_unfold c rest ∙ ap (λ r. onto (c ∷ []) (and_then r (λ r. columns_behind r.0 r.1))) is_column)
    ∙ onto-onto items (c ∷ []) (columns_behind o t2)

-- where neither is read, there are no columns
pub no_column : (items : List ColumnData) (c : ColumnData) (rest : Tokens) (so_far : Option (List ColumnData × Tokens))
    → so_far ≡ onto items (columns_behind (Some c) rest) → column_in rest ≡ None → so_far ≡ None
no_column items c rest so_far is is_none =
    is ∙ ap (onto items) (columns_unfold c rest ∙ ap (λ r. onto (c ∷ []) (and_then r (λ r. columns_behind r.0 r.1))) is_none)

-- after PRIMARY there is the rest
pub columns_end : (items : List ColumnData) (rest : Tokens) (so_far : Option (List ColumnData × Tokens)) → so_far ≡ onto items (columns_behind None rest) → so_far ≡ Some (items, rest)
unfolding columns_within
columns_end items rest so_far is = is ∙ ap (λ xs. Some (xs, rest)) (append-nil items)

-- ---- what is read as columns is spelled so

abbrev pub tokens_of_columns : List ColumnData → List Token
tokens_of_columns cs = columns_tokens (map (λ c. c.name) cs) (map (λ c. c.refuses) cs)

-- the tokens after a column are those of further ones and PRIMARY, and after PRIMARY there is the rest
abbrev AreBehind : Option ColumnData → Tokens → List ColumnData → Tokens → Type 0
AreBehind None ts cs rest = ([] ≡ cs) × (ts ≡ rest)
AreBehind (Some c) ts cs rest = (more : List ColumnData) × (c ∷ more ≡ cs) × (ts ≡ map Some (tokens_of_columns more) ++ Some (Fixed symbol.Primary) ∷ rest)

-- the tokens of a column, and the later ones, are those of columns and PRIMARY
behind_spelled : (o : Option ColumnData) (ts : Tokens) (cs : List ColumnData) (rest : Tokens) → AreBehind o ts cs rest
    → map Some (column_tokens o) ++ ts ≡ map Some (tokens_of_columns cs) ++ Some (Fixed symbol.Primary) ∷ rest
behind_spelled None ts cs rest (none, is) = ap (λ ts. Some (Fixed symbol.Primary) ∷ ts) is ∙ ap (λ cs. map Some (tokens_of_columns cs) ++ Some (Fixed symbol.Primary) ∷ rest) none
behind_spelled (Some c) ts cs rest (more, are, is) =
    ap (λ ts. Some (Name c.name) ∷ (map Some (rule_tokens c.refuses) ++ ts)) is
    ∙ ap (λ ts. Some (Name c.name) ∷ ts) (sym (map_some-append (rule_tokens c.refuses) (tokens_of_columns more) (Some (Fixed symbol.Primary) ∷ rest)))
    ∙ ap (λ cs. map Some (tokens_of_columns cs) ++ Some (Fixed symbol.Primary) ∷ rest) are

-- what is read after a column is spelled so
within_taken : (o : Option ColumnData) (n : ℕ) (ts : Tokens) (cs : List ColumnData) (rest : Tokens) → columns_within o n ts ≡ Some (cs, rest) → AreBehind o ts cs rest
unfolding columns_within
within_taken None n ts cs rest h = some_pair ([], ts) (cs, rest) h
within_taken (Some c) zero ts cs rest h = absurd (cc)
within_taken (Some c) (suc n) ts cs rest h =
    let k = some_of (c ∷ []) rest (and_then (column_in ts) (λ r. columns_within r.0 n r.1)) cs h in
    let r = then_some (column_in ts) _ (k.0, rest) k.1 in
    (k.0, k.2, column_taken ts r.0.1 r.0.0 r.1 ∙ behind_spelled r.0.0 r.0.1 k.0 rest (within_taken r.0.0 n r.0.1 k.0 rest r.2))

-- what is read as columns is one at least, and is spelled so
pub columns_taken : (ts : Tokens) (cs : List ColumnData) (rest : Tokens) → columns_in ts ≡ Some (cs, rest) → (cs ≢ []) × (ts ≡ map Some (tokens_of_columns cs) ++ Some (Fixed symbol.Primary) ∷ rest)
unfolding columns_in
columns_taken ts cs rest h =
    let n = then_some (name_in ts) _ (cs, rest) h in
    let r = then_some (rule_in n.0.1) _ (cs, rest) n.2 in
    let first = Some (column_with n.0.0 r.0.0) in
    let are = within_taken first (length r.0.1) r.0.1 cs rest r.2 in (
      λ e. let some = are.1 in cc,
      name_taken ts n.0.1 n.0.0 n.1 ∙ ap (λ ts. Some (Name n.0.0) ∷ ts) (rule_taken n.0.1 r.0.1 r.0.0 r.1) ∙ behind_spelled first r.0.1 cs rest are,
    )

-- ---- and what is spelled so is read as columns

-- columns, of their names and rules
abbrev pub columns_with : List (List ℕ) → List Bool → List ColumnData
columns_with (name ∷ names) (refuses ∷ rules) = column_with name refuses ∷ columns_with names rules
columns_with [] rules = []
columns_with (name ∷ names) [] = []

-- their names, and their rules
pub names_with : (names : List (List ℕ)) (rules : List Bool) → length rules ≡ length names → map (λ c. c.name) (columns_with names rules) ≡ names
names_with [] rules same = refl
names_with (name ∷ names) [] same = absurd (omega (arith, same))
names_with (name ∷ names) (refuses ∷ rules) same = ap (λ names. name ∷ names) (names_with names rules (omega (arith, same)))

pub rules_with : (names : List (List ℕ)) (rules : List Bool) → length rules ≡ length names → map (λ c. c.refuses) (columns_with names rules) ≡ rules
rules_with [] [] same = refl
rules_with [] (refuses ∷ rules) same = absurd (omega (arith, same))
rules_with (name ∷ names) [] same = absurd (omega (arith, same))
rules_with (name ∷ names) (refuses ∷ rules) same = ap (λ rules. refuses ∷ rules) (rules_with names rules (omega (arith, same)))

-- PRIMARY ends columns
primary_again : (rest : Tokens) → column_in (Some (Fixed symbol.Primary) ∷ rest) ≡ Some (None, rest)
unfolding column_in
primary_again rest = refl

-- and after it nothing is read
none_again : (rest : Tokens) → columns_behind None rest ≡ Some ([], rest)
unfolding columns_within
none_again rest = refl

-- columns after one are read as they are
behind_again : (c : ColumnData) (names : List (List ℕ)) (rules : List Bool) (rest : Tokens) → length rules ≡ length names
    → columns_behind (Some c) (map Some (columns_tokens names rules) ++ Some (Fixed symbol.Primary) ∷ rest) ≡ Some (c ∷ columns_with names rules, rest)
behind_again c [] rules rest same =
    columns_unfold c _ ∙ ap (λ r. onto (c ∷ []) (and_then r (λ r. columns_behind r.0 r.1))) (primary_again rest) ∙ ap (onto (c ∷ [])) (none_again rest)
behind_again c (name ∷ names) [] rest same = absurd (omega (arith, same))
behind_again c (name ∷ names) (refuses ∷ rules) rest same =
    columns_unfold c _
    ∙ ap (λ r. onto (c ∷ []) (and_then r (λ r. columns_behind r.0 r.1)))
    (ap (λ ts. column_in (Some (Name name) ∷ ts)) (map_some-append (rule_tokens refuses) (columns_tokens names rules) (Some (Fixed symbol.Primary) ∷ rest)) ∙ column_again name refuses _)
    ∙ ap (onto (c ∷ [])) (behind_again (column_with name refuses) names rules rest (omega (arith, same)))

-- a name is read first
name_first : (name : List ℕ) (ts : Tokens) → name_in (Some (Name name) ∷ ts) ≡ Some (name, ts)
unfolding name_in
name_first name ts = refl

-- columns are read as they are
pub columns_again : (names : List (List ℕ)) (rules : List Bool) (rest : Tokens) → names ≢ [] → length rules ≡ length names
    → columns_in (map Some (columns_tokens names rules) ++ Some (Fixed symbol.Primary) ∷ rest) ≡ Some (columns_with names rules, rest)
columns_again [] rules rest some same = absurd (some refl)
columns_again (name ∷ names) [] rest some same = absurd (omega (arith, same))
columns_again (name ∷ names) (refuses ∷ rules) rest some same =
    columns_start _ _ _ name refuses (name_first name _)
    (ap rule_in (map_some-append (rule_tokens refuses) (columns_tokens names rules) (Some (Fixed symbol.Primary) ∷ rest)) ∙ rule_again refuses _)
    ∙ onto-nil _ ∙ behind_again (column_with name refuses) names rules rest (omega (arith, same))

-- ---- the names of columns, and their rules

-- the names of columns are those of what they are read as, and so are their rules
names_apart : (cs : List NewColumn) → map (λ c. c.name) (map column_of cs) ≡ map (λ c. string_bytes c.name) cs
names_apart [] = refl
names_apart (c ∷ cs) = ap (λ names. string_bytes c.name ∷ names) (names_apart cs)

rules_apart : (cs : List NewColumn) → map (λ c. c.refuses) (map column_of cs) ≡ map (λ c. c.refuses) cs
rules_apart [] = refl
rules_apart (c ∷ cs) = ap (λ rules. c.refuses ∷ rules) (rules_apart cs)

-- the names and the rules of all columns are those of the ones that were seen
pub names_and_rules_are : (columns seen : List NewColumn) (names : List (List ℕ)) (rules : List Bool) → seen ≡ columns → names ≡ map (λ c. string_bytes c.name) seen → rules ≡ map (λ c. c.refuses) seen
    → Some (names_and_rules_of (map column_of columns)) ≡ Some (names, rules)
names_and_rules_are columns seen names rules all names_is rules_is =
    ap (λ cs. Some (names_and_rules_of (map column_of cs))) (sym all)
    ∙ ap (λ ns. Some (ns, map (λ c. c.refuses) (map column_of seen))) (names_apart seen ∙ sym names_is)
    ∙ ap (λ rs. Some (names, rs)) (rules_apart seen ∙ sym rules_is)
