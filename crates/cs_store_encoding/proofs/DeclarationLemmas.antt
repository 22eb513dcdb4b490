-- The bytes of declarations: what begins with a column, and that no two schemas have the same.
use Rattle.std.proofs.Common.{◌≡◌, ◌≢◌, ℕ, ◌+◌, ◌<◌, ◌≤◌, ◌⊎◌, inl, inr, List, [], ◌∷◌, ◌++◌, length, get_or, take, drop, refl, sym, ap, subst, ◌∙◌, append_assoc, arith, length-append, Result, Ok, Err}
use Rattle.std.specs.Prelude.{IfOk, IfErr}
use Rattle.std.specs.Str.{IsUtf8}
use Rattle.std.specs.List.{AllByRecursion}
use Rattle.std.proofs.lemmas.List.{append-nil, take_more, length-take-le}
use Rattle.cs_value.specs.declared.TheConstants.{MAX_CONTENT_LEN}
use Rattle.cs_value.specs.State.{SchemaData, IsSchema, IsColumnName}
use Rattle.cs_value.specs.Varint.{varint}
use Rattle.cs_value.specs.Spelling.{counted}
use Rattle.cs_value.proofs.ListLemmas.{AllByRecursion-push, same_from_append}
use Rattle.cs_value.proofs.Spellings.{varint_spellings}
use Rattle.cs_rows.specs.declared.fault.StoreError.{StoreError}
use Rattle.cs_rows.specs.declared.fault.StoreError.TheVariants.{DamagedStore, NoMemory}
use Rattle.cs_store_encoding.specs.Declaration.{column_codes, columns_bytes, declaration_bytes, IsDeclaration, ColumnsData, schema_of_columns, BeginsWithColumn, AreColumns}
use Rattle.cs_store_encoding.proofs.CodeLemmas.{codes_again, columns_of, columns_length, made_again}

-- bytes that begin with two counted texts begin with one
pub counted_same : (s t x y : List ℕ) → length s ≤ MAX_CONTENT_LEN → length t ≤ MAX_CONTENT_LEN → counted s ++ x ≡ counted t ++ y → (s ≡ t) × (x ≡ y)
unfolding counted
counted_same s t x y short_s short_t e =
    let both = varint_spellings (length s) (length t) (s ++ x) (t ++ y) short_s short_t (sym (append_assoc (varint (length s)) s x) ∙ e ∙ append_assoc (varint (length t)) t y) in
    same_from_append s t x y both.0 both.1

-- counted bytes begin with their count
pub counted_count : (text rest : List ℕ) → counted text ++ rest ≡ varint (length text) ++ (text ++ rest)
unfolding counted
counted_count text rest = append_assoc (varint (length text)) text rest

-- counted bytes are cut off where the count is more than what follows it
pub counted_cut : (bytes left : List ℕ) (count : ℕ) → count ≤ MAX_CONTENT_LEN → bytes ≡ varint count ++ left → length left < count → (text rest : List ℕ) → length text ≤ MAX_CONTENT_LEN → bytes ≢ counted text ++ rest
unfolding counted
counted_cut bytes left count small begins cut text rest short e =
    let both = varint_spellings count (length text) left (text ++ rest) small short (sym begins ∙ e ∙ append_assoc (varint (length text)) text rest) in
    absurd (omega (arith, both.0, ap (λ (x : List ℕ). length x) both.1, length-append text rest))

-- a text that can be used as a name
abbrev IsShortText : List ℕ → Type 0
IsShortText name = IsUtf8 name × (length name ≤ MAX_CONTENT_LEN)

-- bytes that begin with two columns begin with one
column_same : (f g : ℕ) (n m x y : List ℕ) → length n ≤ MAX_CONTENT_LEN → length m ≤ MAX_CONTENT_LEN → f ∷ counted n ++ x ≡ g ∷ counted m ++ y → (f ≡ g) × (n ≡ m) × (x ≡ y)
column_same f g n m x y short_n short_m e =
    let head : f ≡ g = cc in
    let rest : counted n ++ x ≡ counted m ++ y = cc in
    let both = counted_same n m x y short_n short_m rest in
    (head, both.0, both.1)

-- no column begins where its name would be no text
pub no_column : (bytes name rest : List ℕ) → 1 ≤ length bytes → length name ≤ MAX_CONTENT_LEN → drop 1 bytes ≡ counted name ++ rest → ¬ (IsUtf8 name) → ¬ (BeginsWithColumn bytes)
no_column [] name rest some short e no_text h = absurd (omega arith)
no_column (b ∷ bytes) name rest some short e no_text h =
    let both = column_same b h.code name h.name rest h.rest short h.short (ap (λ (l : List ℕ). b ∷ l) (sym e) ∙ h.spelled) in
    no_text (subst IsUtf8 (sym both.1) h.text)

-- and bytes that begin with two lists of as many columns begin with one
pub columns_same : (fs gs : List ℕ) (ns ms : List (List ℕ)) (x y : List ℕ) → length fs ≡ length ns → length gs ≡ length ms → length ns ≡ length ms → AllByRecursion IsShortText ns → AllByRecursion IsShortText ms
    → columns_bytes fs ns ++ x ≡ columns_bytes gs ms ++ y → (fs ≡ gs) × (ns ≡ ms) × (x ≡ y)
columns_same [] [] [] [] x y a b len short_n short_m e = (refl, refl, e)
columns_same [] gs (n ∷ ns) ms x y a b len short_n short_m e = absurd (omega arith)
columns_same (f ∷ fs) gs [] ms x y a b len short_n short_m e = absurd (omega arith)
columns_same [] gs [] (m ∷ ms) x y a b len short_n short_m e = absurd (omega arith)
columns_same [] (g ∷ gs) [] [] x y a b len short_n short_m e = absurd (omega arith)
columns_same (f ∷ fs) gs (n ∷ ns) [] x y a b len short_n short_m e = absurd (omega arith)
columns_same (f ∷ fs) [] (n ∷ ns) (m ∷ ms) x y a b len short_n short_m e = absurd (omega arith)
columns_same (f ∷ fs) (g ∷ gs) (n ∷ ns) (m ∷ ms) x y a b len short_n short_m e =
    let first = column_same f g n m (columns_bytes fs ns ++ x) (columns_bytes gs ms ++ y) short_n.0.1 short_m.0.1 (ap (λ (l : List ℕ). f ∷ l) (sym (append_assoc (counted n) (columns_bytes fs ns) x)) ∙ e ∙ ap (λ (l : List ℕ). g ∷ l) (append_assoc (counted m) (columns_bytes gs ms) y)) in
    let others = columns_same fs gs ns ms x y (omega arith) (omega arith) (omega arith) short_n.1 short_m.1 first.2 in
    (cc (first.0, others.0), cc (first.1, others.1), others.2)

-- after fewer columns than there are, the next one begins
pub next_column : (fs gs : List ℕ) (ns ms : List (List ℕ)) (left : List ℕ) → length fs ≡ length ns → length gs ≡ length ms → length ns < length ms → AllByRecursion IsShortText ns → AllByRecursion IsShortText ms
    → columns_bytes fs ns ++ left ≡ columns_bytes gs ms → BeginsWithColumn left
next_column [] gs (n ∷ ns) ms left a b lt short_n short_m e = absurd (omega arith)
next_column (f ∷ fs) gs [] ms left a b lt short_n short_m e = absurd (omega arith)
next_column fs gs ns [] left a b lt short_n short_m e = absurd (omega arith)
next_column fs [] ns (m ∷ ms) left a b lt short_n short_m e = absurd (omega arith)
next_column [] (g ∷ gs) [] (m ∷ ms) left a b lt short_n short_m e = record { code = g; name = m; rest = columns_bytes gs ms; text = short_m.0.0; short = short_m.0.1; spelled = e }
next_column (f ∷ fs) (g ∷ gs) (n ∷ ns) (m ∷ ms) left a b lt short_n short_m e =
    let first = column_same f g n m (columns_bytes fs ns ++ left) (columns_bytes gs ms) short_n.0.1 short_m.0.1 (ap (λ (l : List ℕ). f ∷ l) (sym (append_assoc (counted n) (columns_bytes fs ns) left)) ∙ e) in
    next_column fs gs ns ms left (omega arith) (omega arith) (omega arith) short_n.1 short_m.1 first.2

-- one more column
pub columns_bytes-push : (fs : List ℕ) (ns : List (List ℕ)) (f : ℕ) (n : List ℕ) → length fs ≡ length ns → columns_bytes (fs ++ f ∷ []) (ns ++ n ∷ []) ≡ columns_bytes fs ns ++ f ∷ counted n
columns_bytes-push [] [] f n e = ap (λ (l : List ℕ). f ∷ l) (append-nil (counted n))
columns_bytes-push [] (m ∷ ns) f n e = absurd (omega arith)
columns_bytes-push (g ∷ fs) [] f n e = absurd (omega arith)
columns_bytes-push (g ∷ fs) (m ∷ ns) f n e = ap (λ (l : List ℕ). g ∷ l) (ap (λ (l : List ℕ). counted m ++ l) (columns_bytes-push fs ns f n (omega arith)) ∙ sym (append_assoc (counted m) (columns_bytes fs ns) (f ∷ counted n)))

-- the first columns, and one more
pub columns_bytes-more : (codes : List ℕ) (names : List (List ℕ)) (i code : ℕ) (name : List ℕ) → i < length codes → i < length names → code ≡ get_or codes i 0 → get_or names i [] ≡ name
    → columns_bytes (take (i + 1) codes) (take (i + 1) names) ≡ columns_bytes (take i codes) (take i names) ++ code ∷ counted name
columns_bytes-more codes names i code name in_codes in_names code_is name_is =
    let same : length (take i codes) ≡ length (take i names) = omega (arith, length-take-le i codes, length-take-le i names) in
    rw (take_more codes i 0 in_codes, take_more names i [] in_names, ← code_is, name_is) (columns_bytes-push (take i codes) (take i names) code name same)

-- names of columns are short texts
pub short_names : (names : List (List ℕ)) → AllByRecursion IsColumnName names → AllByRecursion IsShortText names
short_names [] h = tt
short_names (n ∷ names) h = ((h.0.text, h.0.short), short_names names h.1)

pub schema_columns : (schema : SchemaData) → IsSchema schema → AreColumns (length schema.columns) (columns_of schema)
schema_columns schema h = record { names = refl; bytes = columns_length schema h; short = short_names schema.columns h.named }

-- two lists of columns that bytes are are one
pub same_columns : (count : ℕ) (c d : ColumnsData) → AreColumns count c → AreColumns count d → columns_bytes c.bytes c.names ≡ columns_bytes d.bytes d.names → c ≡ d
same_columns count c d are_c are_d e =
    let both = columns_same c.bytes d.bytes c.names d.names [] [] (are_c.bytes ∙ sym are_c.names) (are_d.bytes ∙ sym are_d.names) (are_c.names ∙ sym are_d.names) are_c.short are_d.short (ap (λ (l : List ℕ). l ++ []) e) in
    λ i. record { names = both.1 i; bytes = both.0 i }

-- the columns that were read, and the bytes after them
pub record ColumnsSoFar (bytes : List ℕ) (i : ℕ) (codes : List ℕ) (names : List (List ℕ)) (rest : List ℕ) : Type 0 where
  pub are_columns : AreColumns i (record { names = names; bytes = codes })
  pub begins : bytes ≡ columns_bytes codes names ++ rest

module _ (bytes : List ℕ) (i : ℕ) (codes : List ℕ) (names : List (List ℕ)) (rest : List ℕ) (so : ColumnsSoFar bytes i codes names rest) where
  pub ColumnsSoFar-more : (code : ℕ) (name behind : List ℕ) → IsUtf8 name → length name ≤ MAX_CONTENT_LEN → rest ≡ code ∷ counted name ++ behind → ColumnsSoFar bytes (i + 1) (codes ++ code ∷ []) (names ++ name ∷ []) behind
  ColumnsSoFar-more code name behind text short e = record {
    are_columns = record {
      names = omega (arith, length-append names (name ∷ []), so.are_columns.names);
      bytes = omega (arith, length-append codes (code ∷ []), so.are_columns.bytes);
      short = AllByRecursion-push IsShortText names name so.are_columns.short (text, short);
    };
    begins =
        so.begins ∙ ap (λ (l : List ℕ). columns_bytes codes names ++ l) e ∙ sym (append_assoc (columns_bytes codes names) (code ∷ counted name) behind)
        ∙ ap (λ (l : List ℕ). l ++ behind) (sym (columns_bytes-push codes names code name (so.are_columns.bytes ∙ sym so.are_columns.names)));
  }

  -- where a column is left, bytes of so many columns have it
  pub has_column : (count : ℕ) (c : ColumnsData) → i < count → AreColumns count c → bytes ≡ columns_bytes c.bytes c.names → BeginsWithColumn rest
  has_column count c lt are e =
      next_column codes c.bytes names c.names rest (so.are_columns.bytes ∙ sym so.are_columns.names) (are.bytes ∙ sym are.names) (omega (arith, so.are_columns.names, are.names)) so.are_columns.short are.short (sym so.begins ∙ e)

  -- where none is left, no byte is left either
  pub no_rest : (count : ℕ) (c : ColumnsData) → i ≡ count → AreColumns count c → bytes ≡ columns_bytes c.bytes c.names → rest ≡ []
  no_rest count c done are e =
      let all = columns_same codes c.bytes names c.names rest [] (so.are_columns.bytes ∙ sym so.are_columns.names) (are.bytes ∙ sym are.names) (so.are_columns.names ∙ done ∙ sym are.names) so.are_columns.short are.short (sym so.begins ∙ e ∙ sym (append-nil (columns_bytes c.bytes c.names))) in
      all.2

-- what follows the count of a declaration is its columns
pub declared_columns : (bytes left : List ℕ) (count : ℕ) (s : SchemaData) → count ≤ MAX_CONTENT_LEN → bytes ≡ varint count ++ left → IsSchema s → bytes ≡ declaration_bytes s
    → AreColumns count (columns_of s) × (left ≡ columns_bytes (column_codes s.flags s.refuses) s.columns)
unfolding declaration_bytes
declared_columns bytes left count s small begins is e =
    let both = varint_spellings count (length s.columns) left (columns_bytes (column_codes s.flags s.refuses) s.columns) small (omega (arith, is.as_many, is.flags.few)) (sym begins ∙ e) in
    (subst (λ (n : ℕ). AreColumns n (columns_of s)) (sym both.0) (schema_columns s is), both.1)

-- a declaration begins with its count
pub declared_count : (bytes : List ℕ) (s : SchemaData) → IsSchema s → bytes ≡ declaration_bytes s
    → (length s.columns ≤ MAX_CONTENT_LEN) × (bytes ≡ varint (length s.columns) ++ columns_bytes (column_codes s.flags s.refuses) s.columns)
unfolding declaration_bytes
declared_count bytes s is e = (omega (arith, is.as_many, is.flags.few), e)

-- columns that were read of the bytes of a declaration make its schema
pub declared_made : (count : ℕ) (c : ColumnsData) (s : SchemaData) → AreColumns count c → AreColumns count (columns_of s) → columns_bytes c.bytes c.names ≡ columns_bytes (column_codes s.flags s.refuses) s.columns → IsSchema s
    → IsSchema (schema_of_columns c)
declared_made count c s are_c are_s e is =
    subst IsSchema (sym (made_again s is) ∙ ap schema_of_columns (sym (same_columns count c (columns_of s) are_c are_s e))) is

-- and a count and as many columns are a declaration, where they make a schema
pub declaration_is : (bytes rest : List ℕ) (count : ℕ) (c : ColumnsData) → bytes ≡ varint count ++ rest → AreColumns count c → rest ≡ columns_bytes c.bytes c.names → IsSchema (schema_of_columns c)
    → bytes ≡ declaration_bytes (schema_of_columns c)
unfolding declaration_bytes
declaration_is bytes rest count c begins are e is =
    begins ∙ ap (λ (l : List ℕ). varint count ++ l) e ∙ ap (λ (n : ℕ). varint n ++ columns_bytes c.bytes c.names) (sym are.names)
    ∙ ap (λ (codes : List ℕ). varint (length c.names) ++ columns_bytes codes c.names) (sym (codes_again c.bytes is.bits))

-- schemas whose declarations are equal are equal
pub declarations_apart : (s t : SchemaData) → IsSchema s → IsSchema t → declaration_bytes s ≡ declaration_bytes t → s ≡ t
unfolding declaration_bytes
declarations_apart s t is_s is_t e =
    let r = declared_columns (declaration_bytes s) (columns_bytes (column_codes s.flags s.refuses) s.columns) (length s.columns) t (omega (arith, is_s.as_many, is_s.flags.few)) refl is_t e in
    sym (made_again s is_s) ∙ ap schema_of_columns (same_columns (length s.columns) (columns_of s) (columns_of t) (schema_columns s is_s) r.0 r.1) ∙ made_again t is_t

-- what a check of these columns answers is the schema that is declared
pub found_declared : (bytes : List ℕ) (t : SchemaData) (result : Result SchemaData StoreError) → IfOk result (λ s. s ≡ t) → IfOk result IsSchema → (IsSchema t → bytes ≡ declaration_bytes t)
    → IfOk result (λ s. IsSchema s × (bytes ≡ declaration_bytes s))
found_declared bytes t (Ok s) same is e = (is, e (subst IsSchema same is) ∙ ap declaration_bytes (sym same))
found_declared bytes t (Err _) same is e = tt

-- and where it refuses columns that a declaration would make a schema of, the bytes are none
pub refused_declared : (bytes : List ℕ) (result : Result SchemaData StoreError) (Made : Type 0) → (IsDeclaration bytes → Made) → IfErr result (λ e. ((e ≡ DamagedStore) × (Made → ⊥)) ⊎ (e ≡ NoMemory))
    → IfErr result (λ e. ((e ≡ DamagedStore) × (IsDeclaration bytes → ⊥)) ⊎ (e ≡ NoMemory))
refused_declared bytes (Ok s) Made makes h = tt
refused_declared bytes (Err e) Made makes (inl damaged) = inl (damaged.0, λ declared. damaged.1 (makes declared))
refused_declared bytes (Err e) Made makes (inr memory) = inr memory
