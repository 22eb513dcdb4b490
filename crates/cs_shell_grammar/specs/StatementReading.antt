-- Statements as functions on lists of tokens, which the code computes: what contracts of this crate's own functions
-- say.
use Rattle.std.specs.Prelude.{ℕ, zero, suc, List, [], ◌∷◌, ◌++◌, length, map, Option, None, Some, option_map, string_bytes}
use Rattle.std.specs.Prelude.{Bool, true, false, if◌then◌else◌}
use Rattle.cs_value.specs.declared.value.OwnedValue.{OwnedValue}
use Rattle.cs_value.specs.declared.value.OwnedValue.TheVariants.{Null}
use Rattle.cs_shell_tokens.specs.declared.symbol.Symbol.{Symbol}
use Rattle.cs_shell_tokens.specs.declared.symbol.Symbol.TheVariants as symbol
use Rattle.cs_shell_grammar.specs.declared.statement.NewColumn.{NewColumn}
use Rattle.cs_shell_tokens.specs.Tokens.{Token, Fixed, Name, Value}
use Rattle.cs_shell_grammar.specs.Commands.{CommandData, AssignmentData, Create, Insert, Update, Delete, Select}
use Rattle.cs_shell_tokens.specs.Faults.{and_then}
use Rattle.cs_shell_tokens.specs.Reading.{same_symbol}

-- ---- statements, read token by token

abbrev pub is_fixed : Symbol → Option Token → Bool
is_fixed symbol (Some (Fixed found)) = same_symbol found symbol
is_fixed symbol (Some (Name name)) = false
is_fixed symbol (Some (Value value)) = false
is_fixed symbol None = false

abbrev pub name_of : Option Token → Option (List ℕ)
name_of (Some (Fixed found)) = None
name_of (Some (Name name)) = Some name
name_of (Some (Value value)) = None
name_of None = None

abbrev pub value_of_token : Option Token → Option OwnedValue
value_of_token (Some (Fixed found)) = None
value_of_token (Some (Name name)) = None
value_of_token (Some (Value value)) = Some value
value_of_token None = None

-- whether the token is between items, or ends them
abbrev pub turn_of : Symbol → Symbol → Option Token → Option Bool
turn_of between last token =
    if is_fixed between token then Some true else if is_fixed last token then Some false else None

-- a list of tokens, from which those that are read are taken
abbrev pub Tokens : Type 0
Tokens = List (Option Token)

-- what the first token is, and the later tokens
abbrev pub first_in : {X : Type 0} → (Option Token → Option X) → Tokens → Option (X × Tokens)
first_in item [] = None
first_in item (t ∷ ts) = option_map (λ x. (x, ts)) (item t)

unfoldable pub fixed_in : Symbol → Tokens → Option Tokens
fixed_in symbol [] = None
fixed_in symbol (t ∷ ts) = if is_fixed symbol t then Some ts else None

unfoldable pub name_in : Tokens → Option (List ℕ × Tokens)
name_in tokens = first_in name_of tokens

unfoldable pub value_in : Tokens → Option (OwnedValue × Tokens)
value_in tokens = first_in value_of_token tokens

unfoldable pub turn_in : Symbol → Symbol → Tokens → Option (Bool × Tokens)
turn_in between last tokens = first_in (turn_of between last) tokens

unfoldable pub end_in : Tokens → Option (Unit {0})
end_in [] = Some tt
end_in (t ∷ ts) = None

-- with these items in front
abbrev pub onto : {X : Type 0} → List X → Option (List X × Tokens) → Option (List X × Tokens)
onto items read = option_map (λ r. (items ++ r.0, r.1)) read

-- more items, or none
abbrev pub going : {X : Type 0} → Bool → Tokens → Option (List X × Tokens) → Option (List X × Tokens)
going true tokens more = more
going false tokens more = Some ([], tokens)

-- items of one token, with a symbol between each two, and the one that ends them
unfoldable pub list_in : {X : Type 0} → (Option Token → Option X) → Symbol → Symbol → Tokens → Option (List X × Tokens)
list_in item between last [] = None
list_in item between last (t ∷ []) = None
list_in item between last (t ∷ u ∷ ts) = and_then (item t)
    (λ x. and_then (turn_of between last u) (λ more. onto (x ∷ []) (going more ts (list_in item between last ts))))

abbrev pub names_in : Tokens → Option (List (List ℕ) × Tokens)
names_in tokens = list_in name_of symbol.Comma symbol.Close tokens

abbrev pub values_in : Tokens → Option (List OwnedValue × Tokens)
values_in tokens = list_in value_of_token symbol.Comma symbol.Close tokens

unfoldable pub assignment_in : Tokens → Option (AssignmentData × Tokens)
assignment_in tokens = and_then (name_in tokens) (λ n. and_then (fixed_in symbol.Equals n.1)
    (λ t. and_then (value_in t) (λ v. Some (record { column = n.0; value = v.0 }, v.1))))

-- an assignment's tokens
abbrev pub assignment_of_tokens : Option Token → Option Token → Option Token → Option AssignmentData
assignment_of_tokens t u v = and_then (name_of t) (λ n. if is_fixed symbol.Equals u
    then option_map (λ x. record { column = n; value = x }) (value_of_token v) else None)

unfoldable pub assignments_in : Symbol → Symbol → Tokens → Option (List AssignmentData × Tokens)
assignments_in between last [] = None
assignments_in between last (t ∷ []) = None
assignments_in between last (t ∷ u ∷ []) = None
assignments_in between last (t ∷ u ∷ v ∷ []) = None
assignments_in between last (t ∷ u ∷ v ∷ w ∷ ts) = and_then (assignment_of_tokens t u v)
    (λ x. and_then (turn_of between last w) (λ more. onto (x ∷ []) (going more ts (assignments_in between last ts))))

-- a column of a new table, and whether it refuses NULL
pub record ColumnData : Type 0 where
  pub name : List ℕ
  pub refuses : Bool

abbrev pub column_with : List ℕ → Bool → ColumnData
column_with name refuses = record { name = name; refuses = refuses }

abbrev pub column_of : NewColumn → ColumnData
column_of c = column_with (string_bytes c.name) c.refuses

-- NULL
abbrev pub is_null : Option Token → Bool
is_null (Some (Value Null)) = true
is_null (Some token) = false
is_null None = false

unfoldable pub null_in : Tokens → Option Tokens
null_in [] = None
null_in (t ∷ ts) = if is_null t then Some ts else None

-- a comma, or NOT NULL and a comma: whether NULL is refused
unfoldable pub rule_in : Tokens → Option (Bool × Tokens)
rule_in [] = None
rule_in (t ∷ ts) = if is_fixed symbol.Comma t then Some (false, ts)
    else if is_fixed symbol.Not t then and_then (null_in ts) (λ ts. option_map (λ ts. (true, ts)) (fixed_in symbol.Comma ts))
    else None

-- a column and what comes after it, or PRIMARY
unfoldable pub column_in : Tokens → Option (Option ColumnData × Tokens)
column_in [] = None
column_in (t ∷ ts) = if is_fixed symbol.Primary t then Some (None, ts)
    else and_then (name_of t) (λ n. option_map (λ r. (Some (column_with n r.0), r.1)) (rule_in ts))

-- the columns up to PRIMARY, at most as many as that, after one that was read; none at PRIMARY
unfoldable pub columns_within : Option ColumnData → ℕ → Tokens → Option (List ColumnData × Tokens)
columns_within None n tokens = Some ([], tokens)
columns_within (Some column) zero tokens = None
columns_within (Some column) (suc n) tokens =
    onto (column ∷ []) (and_then (column_in tokens) (λ r. columns_within r.0 n r.1))

abbrev pub columns_behind : Option ColumnData → Tokens → Option (List ColumnData × Tokens)
columns_behind column tokens = columns_within column (length tokens) tokens

-- columns, and PRIMARY
unfoldable pub columns_in : Tokens → Option (List ColumnData × Tokens)
columns_in tokens = and_then (name_in tokens) (λ n. and_then (rule_in n.1)
    (λ r. columns_behind (Some (column_with n.0 r.0)) r.1))

-- the names of columns, and whether each refuses NULL
abbrev pub names_and_rules_of : List ColumnData → List (List ℕ) × List Bool
names_and_rules_of columns = (map (λ c. c.name) columns, map (λ c. c.refuses) columns)

unfoldable pub create_in : Tokens → Option (CommandData × Tokens)
create_in tokens = and_then (fixed_in symbol.Table tokens) (λ t. and_then (name_in t)
    (λ n. and_then (fixed_in symbol.Open n.1) (λ t. and_then (columns_in t)
    (λ c. and_then (fixed_in symbol.Key c.1) (λ t. and_then (fixed_in symbol.Open t) (λ t. and_then (names_in t)
    (λ k. and_then (fixed_in symbol.Close k.1) (λ t. and_then (fixed_in symbol.Semicolon t)
    (λ t. Some (Create n.0 (names_and_rules_of c.0).0 (names_and_rules_of c.0).1 k.0, t))))))))))

unfoldable pub insert_in : Tokens → Option (CommandData × Tokens)
insert_in tokens = and_then (fixed_in symbol.Into tokens) (λ t. and_then (name_in t)
    (λ n. and_then (fixed_in symbol.Values n.1) (λ t. and_then (fixed_in symbol.Open t) (λ t. and_then (values_in t)
    (λ v. and_then (fixed_in symbol.Semicolon v.1) (λ t. Some (Insert n.0 v.0, t)))))))

unfoldable pub update_in : Tokens → Option (CommandData × Tokens)
update_in tokens = and_then (name_in tokens) (λ n. and_then (fixed_in symbol.Set n.1)
    (λ t. and_then (assignments_in symbol.Comma symbol.Where t)
    (λ s. and_then (assignments_in symbol.And symbol.Semicolon s.1) (λ c. Some (Update n.0 s.0 c.0, c.1)))))

unfoldable pub delete_in : Tokens → Option (CommandData × Tokens)
delete_in tokens = and_then (fixed_in symbol.From tokens) (λ t. and_then (name_in t)
    (λ n. and_then (fixed_in symbol.Where n.1)
    (λ t. and_then (assignments_in symbol.And symbol.Semicolon t) (λ c. Some (Delete n.0 c.0, c.1)))))

unfoldable pub select_in : Tokens → Option (CommandData × Tokens)
select_in tokens = and_then (fixed_in symbol.Star tokens) (λ t. and_then (fixed_in symbol.From t)
    (λ t. and_then (name_in t) (λ n. and_then (fixed_in symbol.Semicolon n.1) (λ t. Some (Select n.0, t)))))

abbrev pub symbol_of : Option Token → Option Symbol
symbol_of (Some (Fixed found)) = Some found
symbol_of (Some (Name name)) = None
symbol_of (Some (Value value)) = None
symbol_of None = None

unfoldable pub symbol_in : Tokens → Option (Symbol × Tokens)
symbol_in tokens = first_in symbol_of tokens

-- a statement, by the keyword before these tokens
unfoldable pub form_of : Symbol → Tokens → Option (CommandData × Tokens)
form_of first tokens =
    if same_symbol first symbol.Create then create_in tokens
    else if same_symbol first symbol.Insert then insert_in tokens
    else if same_symbol first symbol.Update then update_in tokens
    else if same_symbol first symbol.Delete then delete_in tokens
    else if same_symbol first symbol.Select then select_in tokens
    else None

unfoldable pub form_in : Tokens → Option (CommandData × Tokens)
form_in tokens = and_then (symbol_in tokens) (λ s. form_of s.0 s.1)

unfoldable pub statement_in : Tokens → Option CommandData
statement_in tokens = and_then (form_in tokens) (λ c. and_then (end_in c.1) (λ _. Some c.0))
