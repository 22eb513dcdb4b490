-- The rows of the table of records: what the rules of the schema say of each and of two, and their values.
use Rattle.std.proofs.Common.{bytes_eq, ◌≡◌, ◌≢◌, inl, inr, ℕ, suc, ℤ, Bool, true, false, not, ◌&&◌, ◌<ℤ◌, List, [], ◌∷◌, drop, filter, find, option_map, Option, Some, None, refl, sym, ap, subst, ◌∙◌, arith}
use Rattle.std.specs.List.{AllByRecursion, AllPairs}
use Rattle.std.specs.List.Sorted.{IsPermutation}
use Rattle.std.specs.Cmp.Lexicographic.{same_text, texts_ties}
use Rattle.std.specs.Ordering.{int_cmp, is_eq, is_ne, MatchOrdering}
use Rattle.std.specs.declared.cmp.Ordering.{Ordering}
use Rattle.std.specs.declared.cmp.Ordering.TheVariants.{Less, Equal, Greater}
use Rattle.std.proofs.lemmas.Bool.{and_parts, and_from, cases_Bool}
use Rattle.std.proofs.lemmas.Cmp.{nat_list_eq_equiv, int_ranked}
use Rattle.sqlite_value.specs.declared.value.Value.{Value}
use Rattle.sqlite_value.specs.declared.value.Value.TheVariants.{Null, Int, Real, Text, Blob}
use Rattle.sqlite_value.specs.declared.keys.Collation.TheVariants.{Binary}
use Rattle.sqlite_value.specs.Order.{Row, column}
use Rattle.sqlite_value.specs.Keys.{first_key, plain}
use Rattle.sqlite_value.proofs.OrderLemmas.{value_cmp-Text, value_cmp-Blob, value_cmp-Int}
use Rattle.sqlite_sql.specs.declared.ops.BinaryOp.TheVariants.{Compare}
use Rattle.sqlite_sql.specs.declared.ops.CompareOp.TheVariants.{Eq, Ne}
use Rattle.sqlite_sql.specs.Ops.{binary, is_true, is_null, from_truth}
use Rattle.sqlite_trees.specs.Tree.{rowid, IsAscending}
use Rattle.std.proofs.lemmas.List.Elements.{recursion_from_All}
use Rattle.std.proofs.lemmas.List.Sorted.{Contains-permutation, IsPermutation-sym}
use Rattle.sqlite_trees.proofs.ListLemmas.{ascending-get_or, all-permutation, all-filter, ascending-filter, along_permutation}
use Rattle.sqlite_schema.specs.declared.schema.Kind.TheVariants as kind
use Rattle.sqlite_schema.specs.declared.schema.Constraint.{Constraint}
use Rattle.sqlite_schema.specs.declared.schema.Constraint.TheVariants.{Datatype, NotNull}
use Rattle.sqlite_schema.specs.Rules.{passes, is_of, are_typed, are_present, clashes, agree, differ}
use Rattle.sqlite_rules.specs.Lists.{Has}
use Rattle.sqlite_rules.proofs.ListLemmas.{all_has, all_from, some_from, has_found, has_got, has_contained, contains_had}
use Rattle.sqlite_rules.proofs.RuleLemmas.{keeps_at}
use Rattle.sqlite_catalog.proofs.ListFacts.{find_within}
use Rattle.sqlite_catalog.proofs.AlterLemmas.{keys_are_unique}
use Rattle.sqlite.specs.Effect.{Database}
use Rattle.cs_store_sql.specs.Records.{records_table, records_tree, record_rows, content, is_under, records_of, records_in, HoldsRecords}

-- ---- bytes that are the same

-- the test of bytes finds one list
pub same_is : (s t : List ℕ) → bytes_eq s t ≡ true → s ≡ t
same_is s t h = same_text s t (sym h)

pub same_itself : (s : List ℕ) → bytes_eq s s ≡ true
same_itself = nat_list_eq_equiv.refl

-- a truth value is what it was made of
pub truth_is : (b : Bool) → is_true (from_truth (Some b)) ≡ b
truth_is true = refl
truth_is false = refl

-- SQL's = on two texts, and on two blobs, is the test of their bytes
pub equal_texts : (s t : List ℕ) → is_true (binary (Compare Eq Binary) (Text s) (Text t)) ≡ bytes_eq s t
unfolding binary
equal_texts s t = truth_is _ ∙ (ap is_eq (value_cmp-Text s t) ∙ sym (texts_ties s t))

pub equal_blobs : (s t : List ℕ) → is_true (binary (Compare Eq Binary) (Blob s) (Blob t)) ≡ bytes_eq s t
unfolding binary
equal_blobs s t = truth_is _ ∙ (ap is_eq (value_cmp-Blob s t) ∙ sym (texts_ties s t))

-- where SQL's <> is not true of two numbers, they are one
pub no_other : (m n : ℤ) → is_true (binary (Compare Ne Binary) (Int m) (Int n)) ≡ false → m ≡ n
unfolding binary
no_other m n h = tied (int_cmp m n) (int_ranked m n _ refl) (sym (ap is_ne (value_cmp-Int m n)) ∙ sym (truth_is _) ∙ h)
  where
    tied : (o : Ordering) → MatchOrdering o (m <ℤ n) (m ≡ n) (n <ℤ m) → is_ne o ≡ false → m ≡ n
    tied Less h e = absurd cc
    tied Equal h e = h
    tied Greater h e = absurd cc

-- ---- the form of a row

-- a row as the table holds it: a number, and a record
pub record IsRecordRow (row : Row) : Type 0 where
  pub number : ℤ
  pub tab : List ℕ
  pub key : List ℕ
  pub value : List ℕ
  pub is : row ≡ Int number ∷ Text tab ∷ Blob key ∷ Blob value ∷ []

-- a value of a type that is not NULL is of that constructor
text_is : (v : Value) → is_of kind.Text v ≡ true → is_null v ≡ false → (t : List ℕ) × (v ≡ Text t)
text_is Null typed present = absurd cc
text_is (Int n) typed present = absurd cc
text_is (Real x) typed present = absurd cc
text_is (Text t) typed present = (t, refl)
text_is (Blob b) typed present = absurd cc

blob_is : (v : Value) → is_of kind.Blob v ≡ true → is_null v ≡ false → (b : List ℕ) × (v ≡ Blob b)
blob_is Null typed present = absurd cc
blob_is (Int n) typed present = absurd cc
blob_is (Real x) typed present = absurd cc
blob_is (Text t) typed present = absurd cc
blob_is (Blob b) typed present = (b, refl)

-- tests that fail
never : false ≡ true → ⊥
never e = cc

not_false : (b : Bool) → not b ≡ true → b ≡ false
not_false true h = absurd cc
not_false false h = refl

-- rows of four values that are the same
same_values : (a b c d x y z w : Value) → a ≡ x → b ≡ y → c ≡ z → d ≡ w → ◌≡◌ {A = Row} (a ∷ b ∷ c ∷ d ∷ []) (x ∷ y ∷ z ∷ w ∷ [])
same_values a b c d x y z w p q r s = cc

-- the types and NOT NULL give the three values, and the number is given
row_is : (row : Row) (n : ℤ) → are_typed None 0 (records_table 0).columns (drop 1 row) ≡ true → are_present None 0 (records_table 0).columns row ≡ true → rowid row ≡ Int n → IsRecordRow row
row_is [] n typed present number = absurd cc
row_is (a ∷ []) n typed present number = absurd cc
row_is (a ∷ b ∷ []) n typed present number = absurd (never (and_parts _ false present).1)
row_is (a ∷ b ∷ c ∷ []) n typed present number = absurd (never (and_parts (not (is_null c)) false (and_parts _ _ present).1).1)
row_is (a ∷ b ∷ c ∷ d ∷ e ∷ more) n typed present number = absurd (never (and_parts (is_of kind.Blob d) false (and_parts _ _ (and_parts _ _ typed).1).1).1)
row_is (a ∷ b ∷ c ∷ d ∷ []) n typed present number =
    let t = and_parts _ _ typed in
    let p = and_parts _ _ present in
    let t2 = and_parts _ _ t.1 in
    let p2 = and_parts _ _ p.1 in
    let text = text_is b t.0 (not_false _ p.0) in
    let key = blob_is c t2.0 (not_false _ p2.0) in
    let value = blob_is d (and_parts _ _ t2.1).0 (not_false _ (and_parts _ _ p2.1).0) in
    record { number = n; tab = text.0; key = key.0; value = value.0; is = same_values a b c d _ _ _ _ number text.1 key.1 value.1 }

-- ---- the rules of the schema

-- the table is one of the schema
pub is_listed : (db : Database) → HoldsRecords db → Has db.schema.tables (records_table (records_tree db.schema))
is_listed db h = has_got db.schema.tables h.declares.index _ h.declares.table

-- each row passes each rule
passes_rule : (db : Database) (rule : Constraint) (row : Row) → HoldsRecords db → Has (record_rows db) row
    → passes rule db.schema db.trees (records_table (records_tree db.schema)) row ≡ true
passes_rule db rule row h has = keeps_at rule db.schema db.trees (records_table (records_tree db.schema)) row (h.sound.obeys.rules rule) (is_listed db h) has

-- each row has the form of a record
pub record_row : (db : Database) (row : Row) → HoldsRecords db → Has (record_rows db) row → IsRecordRow row
record_row db row h has =
    let number = all_has (λ r. (n : ℤ) × (rowid r ≡ Int n)) (record_rows db) row h.numbered.each has in
    row_is row number.0 (and_parts _ _ (passes_rule db Datatype row h has)).0 (passes_rule db NotNull row h has) number.1

-- ---- two rows

-- two rows have the same name and the same key
pub record HaveOneKey (a b : Row) : Type 0 where
  pub tab : content (column a 1) ≡ content (column b 1)
  pub key : content (column a 2) ≡ content (column b 2)

-- what holds of each element and each later one, by index and by recursion
pub ascending_from_pairs : {X : Type 0} (R : X → X → Type 0) (xs : List X) → AllPairs R xs → IsAscending R xs
ascending_from_pairs R [] h = tt
ascending_from_pairs R (x ∷ xs) h =
    (recursion_from_All (R x) xs (λ k d low. h 0 (suc k) d (omega arith) (omega arith)), ascending_from_pairs R xs (λ i j d below low. h (suc i) (suc j) d (omega arith) (omega arith)))

pub pairs_from_ascending : {X : Type 0} (R : X → X → Type 0) (xs : List X) → IsAscending R xs → AllPairs R xs
pairs_from_ascending R xs up i j d below low = ascending-get_or R xs i j d up below low

-- what follows of two members follows along the list
pub ascending_of_members : {X : Type 0} (R S : X → X → Type 0) (xs : List X) → ((a b : X) → Has xs a → Has xs b → R a b → S a b) → IsAscending R xs → IsAscending S xs
ascending_of_members R S [] so up = tt
ascending_of_members R S (x ∷ xs) so up =
    (all_from (S x) xs (λ y has. so x y (inl refl) (inr has) (all_has (R x) xs y up.0 has)), ascending_of_members R S xs (λ a b p q. so a b (inr p) (inr q)) up.1)

-- elements that differ along the list in what two of them share are one
pub one_member : {X : Type 0} (Same : X → X → Type 0) → ((a b : X) → Same a b → Same b a) → (xs : List X) → IsAscending (λ a b. ¬ Same a b) xs → (a b : X) → Has xs a → Has xs b → Same a b → a ≡ b
one_member Same back [] apart a b p q same = absurd p
one_member Same back (x ∷ xs) apart a b (inl p) (inl q) same = p ∙ sym q
one_member Same back (x ∷ xs) apart a b (inl p) (inr q) same = absurd (all_has (λ y. ¬ Same x y) xs b apart.0 q (subst (λ z. Same z b) p same))
one_member Same back (x ∷ xs) apart a b (inr p) (inl q) same = absurd (all_has (λ y. ¬ Same x y) xs a apart.0 p (back a x (subst (Same a) q same)))
one_member Same back (x ∷ xs) apart a b (inr p) (inr q) same = one_member Same back xs apart.1 a b p q same

-- two rows of one number are one
pub one_number : (db : Database) (a b : Row) → HoldsRecords db → Has (record_rows db) a → Has (record_rows db) b → rowid a ≡ rowid b → a ≡ b
one_number db a b h = one_member (λ r s. rowid r ≡ rowid s) (λ r s. sym) (record_rows db) (ascending_from_pairs (λ r s. rowid r ≢ rowid s) (record_rows db) h.numbered.once) a b

-- SQL finds one key of two rows that have it
agrees : (a b : Row) (x : IsRecordRow a) (y : IsRecordRow b) → HaveOneKey a b → agree plain (1 ∷ 2 ∷ []) a (1 ∷ 2 ∷ []) b ≡ true
unfolding first_key
agrees a b x y same =
    let tab : x.tab ≡ y.tab = rw (x.is, y.is) at same.tab in
    let key : x.key ≡ y.key = rw (x.is, y.is) at same.key in
    let texts : is_true (binary (Compare Eq Binary) (column a 1) (column b 1)) ≡ true = rw (x.is, y.is) (equal_texts x.tab y.tab ∙ subst (λ t. bytes_eq x.tab t ≡ true) tab (same_itself x.tab)) in
    let blobs : is_true (binary (Compare Eq Binary) (column a 2) (column b 2)) ≡ true = rw (x.is, y.is) (equal_blobs x.key y.key ∙ subst (λ t. bytes_eq x.key t ≡ true) key (same_itself x.key)) in
    and_from _ _ texts (and_from _ _ blobs refl)

-- the rule Unique leaves no row that clashes with another
unclashed : (db : Database) (row : Row) → HoldsRecords db → Has (record_rows db) row → clashes plain (1 ∷ 2 ∷ []) (record_rows db) row ≡ false
unclashed db row h has = keys_are_unique db.schema db.trees (records_table (records_tree db.schema)) 0 (1 ∷ 2 ∷ []) row h.sound (is_listed db h) refl has

-- two rows with the same name and key are one
pub one_record : (db : Database) (a b : Row) → HoldsRecords db → Has (record_rows db) a → Has (record_rows db) b → HaveOneKey a b → a ≡ b
one_record db a b h p q same =
    let x = record_row db a h p in
    let y = record_row db b h q in
    let alike : differ (rowid a) (rowid b) ≡ false = elim (cases_Bool (differ (rowid a) (rowid b))) [
      | inl apart ↦ absurd (
          let clash = some_from (λ other. agree plain (1 ∷ 2 ∷ []) other (1 ∷ 2 ∷ []) b && differ (rowid other) (rowid b)) (record_rows db) a p (and_from _ _ (agrees a b x y same) apart) in
          let none = unclashed db b h q in
          cc
          )
      | inr alike ↦ alike
    ] in
    let number : x.number ≡ y.number = no_other x.number y.number (rw (x.is, y.is) at alike) in
    one_number db a b h p q (ap rowid x.is ∙ ap Int number ∙ sym (ap rowid y.is))

-- ---- rows of records, in any order

-- rows of records; no two have both the name and the key
pub record AreRecords (rows : List Row) : Type 0 where
  pub each : AllByRecursion IsRecordRow rows
  pub apart : IsAscending (λ a b. ¬ HaveOneKey a b) rows

-- the other way round
one_key_back : (a b : Row) → HaveOneKey a b → HaveOneKey b a
one_key_back a b same = record { tab = sym same.tab; key = sym same.key }

-- the rows of a database that holds records are
pub are_records : (db : Database) → HoldsRecords db → AreRecords (record_rows db)
are_records db h = record {
  each = all_from IsRecordRow (record_rows db) (λ row has. record_row db row h has);
  apart = ascending_of_members (λ a b. rowid a ≢ rowid b) (λ a b. ¬ HaveOneKey a b) (record_rows db) (λ a b p q other same. other (ap rowid (one_record db a b h p q same)))
      (ascending_from_pairs (λ a b. rowid a ≢ rowid b) (record_rows db) h.numbered.once);
}

-- what holds of any two elements, in either order, holds along each permutation
pub ascending-permutation : {X : Type 0} (D : X → X → Type 0) → ((a b : X) → D a b → D b a) → (xs ys : List X) → IsPermutation xs ys → IsAscending D xs → IsAscending D ys
ascending-permutation D back xs ys same up =
    (along_permutation (λ us vs. ((x : _) → AllByRecursion (D x) us → AllByRecursion (D x) vs) × (IsAscending D us → IsAscending D vs))
    (λ us. (λ x h. h, λ h. h))
    (λ x us vs h. (λ z all. (all.0, h.0 z all.1), λ rises. (h.0 x rises.0, h.1 rises.1)))
    (λ x y us. (λ z all. (all.1.0, (all.0, all.1.1)), λ rises. ((back x y rises.0.0, rises.1.0), (rises.0.1, rises.1.1))))
    (λ us vs ws p q. (λ z h. q.0 z (p.0 z h), λ h. q.1 (p.1 h)))
    xs ys same).1 up

-- an order of a list has the members of the list
pub has_permuted : {X : Type 0} (xs ys : List X) (x : X) → IsPermutation xs ys → Has xs x → Has ys x
has_permuted xs ys x same has = has_contained ys x (Contains-permutation xs ys x same (contains_had xs x has))

-- an order of rows of records, and those that pass a test, are rows of records
pub records_permuted : (xs ys : List Row) → IsPermutation xs ys → AreRecords xs → AreRecords ys
records_permuted xs ys same h = record {
  each = all-permutation IsRecordRow xs ys same h.each;
  apart = ascending-permutation (λ a b. ¬ HaveOneKey a b) (λ a b other one. other (one_key_back b a one)) xs ys same h.apart;
}

pub records_filtered : (p : Row → Bool) (rows : List Row) → AreRecords rows → AreRecords (filter p rows)
records_filtered p rows h = record { each = all-filter IsRecordRow p rows h.each; apart = ascending-filter (λ a b. ¬ HaveOneKey a b) p rows h.apart }

-- of rows of records, two with the same name and key are one
pub one_of_records : (rows : List Row) (a b : Row) → AreRecords rows → Has rows a → Has rows b → HaveOneKey a b → a ≡ b
one_of_records rows a b h = one_member HaveOneKey one_key_back rows h.apart a b

-- ---- the value under a name and a key

-- the row has this name and this key
pub under_is : (tab key : List ℕ) (row : Row) → is_under tab key row ≡ true → (content (column row 1) ≡ tab) × (content (column row 2) ≡ key)
under_is tab key row h = let parts = and_parts _ _ h in (same_is _ tab parts.0, same_is _ key parts.1)

pub under_from : (tab key : List ℕ) (row : Row) → content (column row 1) ≡ tab → content (column row 2) ≡ key → is_under tab key row ≡ true
under_from tab key row p q =
    and_from _ _ (subst (λ t. bytes_eq t tab ≡ true) (sym p) (same_itself tab)) (subst (λ k. bytes_eq k key ≡ true) (sym q) (same_itself key))

-- the value under a name and a key: no row has them, or one has, with this value
abbrev pub IsUnder : List Row → List ℕ → List ℕ → Option (List ℕ) → Type 0
IsUnder rows tab key None = (row : Row) → Has rows row → is_under tab key row ≡ false
IsUnder rows tab key (Some value) = (row : Row) × Has rows row × (is_under tab key row ≡ true) × (content (column row 3) ≡ value)

-- where a search finds nothing, no member passes
not_found : {X : Type 0} (p : X → Bool) (xs : List X) (x : X) → find p xs ≡ None → Has xs x → p x ≡ false
not_found p [] x none has = absurd has
not_found p (y ∷ xs) x none has = elim (cases_Bool (p y)) [
  | inl passes ↦ absurd (let some = rw passes at none in cc)
  | inr fails ↦ elim has [ inl same ↦ ap p same ∙ fails | inr later ↦ not_found p xs x (rw fails at none) later ]
]

-- what rows hold is in them
pub records_under : (rows : List Row) (tab key : List ℕ) → IsUnder rows tab key (records_of rows tab key)
unfolding records_of
records_under rows tab key = of_found (find (is_under tab key) rows) refl
  where
    of_found : (o : Option Row) → find (is_under tab key) rows ≡ o → IsUnder rows tab key (option_map (λ row. content (column row 3)) o)
    of_found None none = λ row has. not_found (is_under tab key) rows row none has
    of_found (Some row) some = let found = has_found (is_under tab key) rows row some in (row, found.0, found.1, refl)

-- a name and a key have one value or none
one_under : (rows : List Row) (tab key : List ℕ) (a b : Option (List ℕ)) → AreRecords rows → IsUnder rows tab key a → IsUnder rows tab key b → a ≡ b
one_under rows tab key None None h p q = refl
one_under rows tab key None (Some v) h p q = absurd (let none = p q.0 q.1 in let some = q.2 in cc)
one_under rows tab key (Some v) None h p q = absurd (let none = q p.0 p.1 in let some = p.2 in cc)
one_under rows tab key (Some v) (Some w) h p q =
    let x = under_is tab key p.0 p.2 in
    let y = under_is tab key q.0 q.2 in
    let same : p.0 ≡ q.0 = one_of_records rows p.0 q.0 h p.1 q.1 (record { tab = x.0 ∙ sym y.0; key = x.1 ∙ sym y.1 }) in
    ap Some (sym p.3 ∙ ap (λ row. content (column row 3)) same ∙ q.3)

-- and what is in them is what they hold
pub records_is : (rows : List Row) (tab key : List ℕ) (o : Option (List ℕ)) → AreRecords rows → IsUnder rows tab key o → records_of rows tab key ≡ o
records_is rows tab key o h under = one_under rows tab key _ o h (records_under rows tab key) under

-- what is in rows is in each order of them
under_permuted : (xs ys : List Row) (tab key : List ℕ) (o : Option (List ℕ)) → IsPermutation xs ys → IsUnder xs tab key o → IsUnder ys tab key o
under_permuted xs ys tab key None same h = λ row has. h row (has_permuted ys xs row (IsPermutation-sym xs ys same) has)
under_permuted xs ys tab key (Some value) same h = (h.0, has_permuted xs ys h.0 same h.1, h.2, h.3)

-- a permutation of the rows holds the same
pub records_of-permutation : (xs ys : List Row) (tab key : List ℕ) → AreRecords xs → IsPermutation xs ys → records_of ys tab key ≡ records_of xs tab key
records_of-permutation xs ys tab key h same =
    records_is ys tab key _ (records_permuted xs ys same h) (under_permuted xs ys tab key _ same (records_under xs tab key))

-- a test that all rows with the name and the key pass changes nothing there
pub records_of-filter : (p : Row → Bool) (rows : List Row) (tab key : List ℕ) → ((row : Row) → Has rows row → p row ≡ false → is_under tab key row ≡ false)
    → records_of (filter p rows) tab key ≡ records_of rows tab key
unfolding records_of
records_of-filter p rows tab key so = ap (option_map (λ row. content (column row 3))) (find_within (is_under tab key) p rows so)

-- a database that holds records holds what is in its rows
pub records_in_is : (db : Database) (tab key : List ℕ) (o : Option (List ℕ)) → HoldsRecords db → IsUnder (record_rows db) tab key o → records_in db tab key ≡ o
records_in_is db tab key o h under = records_is (record_rows db) tab key o (are_records db h) under
