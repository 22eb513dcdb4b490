-- What the query for all rows shows: where the numbers rise and each record passes, the rows of the table pass.
use Rattle.std.proofs.Common.{◌≡◌, ◌≢◌, ℕ, ℤ, ◌<ℤ◌, ◌≤ℤ◌, true, false, List, [], ◌∷◌, ◌++◌, map, append_assoc, Option, Some, None, Ok, IfSome, inl, inr, refl, sym, ap, subst, ◌∙◌, arith}
use Rattle.std.specs.List.{AllByRecursion}
use Rattle.std.specs.List.Sorted.{IsPermutation}
use Rattle.std.specs.Ordering.{is_lt, MatchOrdering}
use Rattle.std.specs.declared.cmp.Ordering.{Ordering}
use Rattle.std.specs.declared.cmp.Ordering.TheVariants.{Less, Equal, Greater}
use Rattle.std.proofs.lemmas.Int.{ints}
use Rattle.std.proofs.lemmas.Cmp.{int_ranked, tied_itself}
use Rattle.std.proofs.lemmas.List.Sorted.{IsPermutation-sym}
use Rattle.sqlite_value.specs.declared.value.Value.TheVariants.{Int}
use Rattle.sqlite_value.specs.Order.{Row, column, value_cmp}
use Rattle.sqlite_value.proofs.OrderLemmas.{value_cmp-Int, value_cmp_total, then-Equal}
use Rattle.sqlite_trees.specs.Tree.{rowid, IsAscending}
use Rattle.sqlite_trees.proofs.ListLemmas.{filter_all, all_of, all-map, all-append, all_from_map, all-permutation, ascending-map, ascending_from_map, ascending_weaker}
use Rattle.sqlite_rules.specs.Lists.{Has}
use Rattle.sqlite_rules.proofs.ListLemmas.{all_has, has_either, has_right}
use Rattle.sqlite_catalog.proofs.ListFacts.{ascending_push}
use Rattle.sqlite.specs.State.{State, Shown, Begins}
use Rattle.sqlite.specs.Effect.{Database}
use Rattle.sqlite.specs.Listing.{understood}
use Rattle.sqlite.proofs.StateLemmas.{unchanged}
use Rattle.sqlite.proofs.Callers.{command_of, begins_shown, EndsIn}
use Rattle.sqlite_schema.specs.declared.schema.Schema.{Schema}
use Rattle.sqlite_schema.specs.declared.command.Command.TheVariants.{Select}
use Rattle.sqlite_resolve.specs.declared.compiled.Compiled.{Compiled}
use Rattle.cs_store_sql.specs.Records.{RecordData, record_of, records_tree, record_rows, DeclaresRecords, AreNumbered, HasNumberAbove, Pass}
use Rattle.cs_store_sql.specs.Statements.{scan_text, scan_query, alone, IsSelect}
use Rattle.cs_store_sql.proofs.RowLemmas.{ascending_from_pairs, pairs_from_ascending, ascending-permutation, ascending_of_members}
use Rattle.cs_store_sql.proofs.OrderLemmas.{below_from, ascending_both}
use Rattle.cs_store_sql.proofs.AnswerLemmas.{passes_where, sorts, ShowsChosen, shows_chosen}
use Rattle.cs_store_sql.proofs.QueryTexts.{commands}

-- ---- numbers

-- what SQL's order of two numbers says of them
ranked_numbers : (m n : ℤ) → MatchOrdering (value_cmp (Int m) (Int n)) (m <ℤ n) (m ≡ n) (n <ℤ m)
ranked_numbers m n = int_ranked m n _ (value_cmp-Int m n)

-- a number below another is below it in that order
below_numbers : (m n : ℤ) → m <ℤ n → value_cmp (Int m) (Int n) ≡ Less
below_numbers m n h = of_order (value_cmp (Int m) (Int n)) (ranked_numbers m n)
  where
    of_order : (o : Ordering) → MatchOrdering o (m <ℤ n) (m ≡ n) (n <ℤ m) → o ≡ Less
    of_order Less is = refl
    of_order Equal is = absurd (omega (arith, ints, is, h))
    of_order Greater is = absurd (omega (arith, ints, is, h))

-- numbers that the order puts below another are below it, and those that tie are one
numbers_below : (m n : ℤ) → value_cmp (Int m) (Int n) ≡ Less → m <ℤ n
numbers_below m n h = subst (λ o. MatchOrdering o (m <ℤ n) (m ≡ n) (n <ℤ m)) h (ranked_numbers m n)

tied_numbers : (m n : ℤ) → value_cmp (Int m) (Int n) ≡ Equal → m ≡ n
tied_numbers m n h = subst (λ o. MatchOrdering o (m <ℤ n) (m ≡ n) (n <ℤ m)) h (ranked_numbers m n)

-- ---- the rows that were read so far

-- each row shows a number first, and the numbers rise
pub record AreRisingNumbers (rows : List Row) : Type 0 where
  pub each : AllByRecursion (λ row. (n : ℤ) × (column row 0 ≡ Int n)) rows
  pub rising : IsAscending (λ a b. value_cmp (column a 0) (column b 0) ≡ Less) rows

-- their numbers rise up to this one
pub record RiseUpTo (rows : List Row) (last : ℤ) : Type 0 where
  pub numbers : AreRisingNumbers rows
  pub below : (row : Row) → Has rows row → (n : ℤ) × (column row 0 ≡ Int n) × (n ≤ℤ last)
  pub reached : (row : Row) × Has rows row × (column row 0 ≡ Int last)

-- no row was read, or the last number is this
abbrev pub RiseTo : List Row → Option ℤ → Type 0
RiseTo rows None = rows ≡ []
RiseTo rows (Some last) = RiseUpTo rows last

-- one more number, above the last
rise_after : (rows : List Row) (last number : ℤ) (row : Row) → RiseUpTo rows last → column row 0 ≡ Int number → last <ℤ number → RiseUpTo (rows ++ row ∷ []) number
rise_after rows last number row h is above = record {
  numbers = record {
    each = all-append (λ r. (n : ℤ) × (column r 0 ≡ Int n)) rows (row ∷ []) h.numbers.each ((number, is), tt);
    rising = ascending_push (λ a b. value_cmp (column a 0) (column b 0) ≡ Less) rows row h.numbers.rising (λ other has.
        let it = h.below other has in
        rw (it.1, is) (below_numbers it.0 number (let low = it.2 in omega (arith, ints, low, above))));
  };
  below = λ other has. elim (has_either rows (row ∷ []) other has) [
    | inl before ↦ (let it = h.below other before in (it.0, it.1, (let low = it.2 in omega (arith, ints, low, above))))
    | inr here ↦ elim here [ inl same ↦ (number, ap (λ r. column r 0) same ∙ is, omega (arith, ints)) | inr none ↦ absurd none ]
  ];
  reached = (row, has_right rows (row ∷ []) row (inl refl), is);
}

-- the first number
rise_from : (number : ℤ) (row : Row) → column row 0 ≡ Int number → RiseUpTo (row ∷ []) number
rise_from number row is = record {
  numbers = record { each = ((number, is), tt); rising = (tt, tt) };
  below = λ other here. elim here [ inl same ↦ (number, ap (λ r. column r 0) same ∙ is, omega (arith, ints)) | inr none ↦ absurd none ];
  reached = (row, inl refl, is);
}

-- one more number, whether one was read before or not
rise_on : (rows : List Row) (last : Option ℤ) (number : ℤ) (row : Row) → RiseTo rows last → column row 0 ≡ Int number → IfSome last (λ before. before <ℤ number)
    → RiseTo (rows ++ row ∷ []) (Some number)
rise_on rows None number row none is above = subst (λ l. RiseUpTo (l ++ row ∷ []) number) (sym none) (rise_from number row is)
rise_on rows (Some last) number row h is above = rise_after rows last number row h is above

-- an element before another is below it
before_is_below : {X : Type 0} (R : X → X → Type 0) (xs ys : List X) (x y : X) → IsAscending R (xs ++ y ∷ ys) → Has xs x → R x y
before_is_below R [] ys x y up has = absurd has
before_is_below R (z ∷ xs) ys x y up (inl same) = subst (λ w. R w y) (sym same) (all_has (R z) (xs ++ y ∷ ys) y up.0 (has_right xs (y ∷ ys) y (inl refl)))
before_is_below R (z ∷ xs) ys x y up (inr later) = before_is_below R xs ys x y up.1 later

-- a number that is not above the last ends the rise
rise_ends : (rows more : List Row) (last : Option ℤ) (number : ℤ) (row : Row) → RiseTo rows last → column row 0 ≡ Int number → (IfSome last (λ before. before <ℤ number) → ⊥)
    → AreRisingNumbers (rows ++ row ∷ more) → ⊥
rise_ends rows more None number row none is low h = low tt
rise_ends rows more (Some last) number row h is low numbers =
    let top = h.reached in
    let less : value_cmp (Int last) (Int number) ≡ Less =
    rw (top.2, is) at (before_is_below (λ a b. value_cmp (column a 0) (column b 0) ≡ Less) rows more top.0 row numbers.rising top.1) in
    low (numbers_below last number less)

-- ---- the rows that passed so far

-- a row that is shown, and whether its record passes
abbrev IsGood : (RecordData → Type 0) → Row → Type 0
IsGood Passes row = Passes (record_of row)

module _ (Passes : RecordData → Type 0) where
  -- their numbers rise to the last, and the record of each passes
  pub record PassUpTo (rows : List Row) (last : Option ℤ) : Type 0 where
    pub rise : RiseTo rows last
    pub each : AllByRecursion (IsGood Passes) rows

  -- no row is shown yet
  pub pass_none : PassUpTo [] None
  pass_none = record { rise = refl; each = tt }

  -- one more row passes
  pub pass_on : (rows : List Row) (last : Option ℤ) (number : ℤ) (row : Row) → PassUpTo rows last → HasNumberAbove last row number → Passes (record_of row) → PassUpTo (rows ++ row ∷ []) (Some number)
  pass_on rows last number row so is good = record {
    rise = rise_on rows last number row so.rise is.0 is.1;
    each = all-append (IsGood Passes) rows (row ∷ []) so.each (good, tt);
  }

  -- rows up to one are those before it, that one, and others
  parted : (rows more : List Row) (row : Row) → (rows ++ row ∷ []) ++ more ≡ rows ++ row ∷ more
  parted rows more row = append_assoc rows (row ∷ []) more

  -- a row without a number above the last ends the rise
  pub fails_number : (rows more : List Row) (last : Option ℤ) (row : Row) → PassUpTo rows last → ((number : ℤ) → ¬ HasNumberAbove last row number) → AreRisingNumbers ((rows ++ row ∷ []) ++ more) → ⊥
  fails_number rows more last row so none numbers =
      let all = subst AreRisingNumbers (parted rows more row) numbers in
      let own = all_has (λ r. (n : ℤ) × (column r 0 ≡ Int n)) (rows ++ row ∷ more) row all.each (has_right rows (row ∷ more) row (inl refl)) in
      rise_ends rows more last own.0 row so.rise own.1 (λ above. none own.0 (own.1, above)) all

  -- and one whose record does not pass is among them
  pub fails_test : (rows more : List Row) (row : Row) → ¬ Passes (record_of row) → AllByRecursion (IsGood Passes) ((rows ++ row ∷ []) ++ more) → ⊥
  fails_test rows more row bad all = bad (all_has (IsGood Passes) (rows ++ row ∷ more) row (subst (AllByRecursion (IsGood Passes)) (parted rows more row) all) (has_right rows (row ∷ more) row (inl refl)))

-- ---- the query for all rows

-- what the query shows of a row, and what it sorts by
abbrev scanned_of : Row → Row
scanned_of row = column row 0 ∷ column row 1 ∷ column row 2 ∷ column row 3 ∷ []

scan_sorts : (tree : ℕ) (a b : Row) → sorts (scan_query tree) [] a b ≡ value_cmp (rowid a) (rowid b)
scan_sorts tree a b = then-Equal (value_cmp (rowid a) (rowid b))

module _ (old new : State) (rows : List Row) (has : DeclaresRecords old.now.schema) (shown : Shown scan_text [] old new rows) where
  abbrev tree : ℕ
  tree = records_tree old.now.schema

  -- the query shows each row of the table, with its number
  all_shown : ShowsChosen (scan_query tree) (record_rows old.now) [] rows
  all_shown = shows_chosen scan_text tree _ _ _ _ [] old new rows has.statements.scans shown

  all_chosen : IsPermutation (record_rows old.now) all_shown.chosen
  all_chosen = subst (λ l. IsPermutation l all_shown.chosen) (filter_all (passes_where (scan_query tree) []) (record_rows old.now) (all_of _ (λ row. refl) (record_rows old.now))) all_shown.same

  -- where the numbers rise, each row has one, and no two the same
  numbered : AreRisingNumbers rows → AreNumbered (record_rows old.now)
  numbered h =
      let all = record_rows old.now in
      let s = all_shown in
      let rising : AreRisingNumbers (map scanned_of s.chosen) = subst AreRisingNumbers s.is h in
      let back = IsPermutation-sym all s.chosen all_chosen in
      let apart : IsAscending (λ a b. rowid a ≢ rowid b) s.chosen =
      ascending_weaker (λ a b. value_cmp (rowid a) (rowid b) ≡ Less) (λ a b. rowid a ≢ rowid b)
      (λ a b less same. let equal : value_cmp (rowid a) (rowid b) ≡ Equal = subst (λ v. value_cmp (rowid a) v ≡ Equal) same (tied_itself value_cmp_total (rowid a)) in cc)
      s.chosen (ascending_from_map (λ a b. value_cmp (column a 0) (column b 0) ≡ Less) scanned_of s.chosen rising.rising) in
      record {
        each = all-permutation (λ row. (n : ℤ) × (rowid row ≡ Int n)) s.chosen all back (all_from_map (λ row. (n : ℤ) × (column row 0 ≡ Int n)) scanned_of s.chosen rising.each);
        once = pairs_from_ascending (λ a b. rowid a ≢ rowid b) all (ascending-permutation (λ a b. rowid a ≢ rowid b) (λ a b other same. other (sym same)) s.chosen all back apart);
      }

  -- and where each row has one, and no two the same, they rise
  rising_if_numbered : AreNumbered (record_rows old.now) → AreRisingNumbers rows
  rising_if_numbered h =
      let all = record_rows old.now in
      let s = all_shown in
      let each : AllByRecursion (λ row. (n : ℤ) × (rowid row ≡ Int n)) s.chosen = all-permutation (λ row. (n : ℤ) × (rowid row ≡ Int n)) all s.chosen all_chosen h.each in
      let apart : IsAscending (λ a b. rowid a ≢ rowid b) s.chosen =
      ascending-permutation (λ a b. rowid a ≢ rowid b) (λ a b other same. other (sym same)) all s.chosen all_chosen (ascending_from_pairs (λ a b. rowid a ≢ rowid b) all h.once) in
      let up : IsAscending (λ a b. value_cmp (rowid a) (rowid b) ≡ Less) s.chosen =
      ascending_of_members (λ a b. (is_lt (sorts (scan_query tree) [] b a) ≡ false) × (rowid a ≢ rowid b)) (λ a b. value_cmp (rowid a) (rowid b) ≡ Less) s.chosen
      (λ a b p q both.
      let m = all_has (λ row. (n : ℤ) × (rowid row ≡ Int n)) s.chosen a each p in
      let n = all_has (λ row. (n : ℤ) × (rowid row ≡ Int n)) s.chosen b each q in
      below_from value_cmp value_cmp_total (rowid a) (rowid b) (subst (λ o. is_lt o ≡ false) (scan_sorts tree b a) both.0)
      (λ tied. both.1 (m.1 ∙ ap Int (tied_numbers m.0 n.0 (rw (m.1, n.1) at tied)) ∙ sym n.1)))
      (ascending_both (λ a b. is_lt (sorts (scan_query tree) [] b a) ≡ false) (λ a b. rowid a ≢ rowid b) s.chosen s.rising apart) in
      subst AreRisingNumbers (sym s.is) (record {
        each = all-map (λ row. (n : ℤ) × (column row 0 ≡ Int n)) scanned_of s.chosen each;
        rising = ascending-map (λ a b. value_cmp (column a 0) (column b 0) ≡ Less) scanned_of s.chosen up;
      })

  module _ (Passes : RecordData → Type 0) where
    -- where the numbers rise and each record that is shown passes, the rows of the table pass
    pub all_passed : AreRisingNumbers rows → AllByRecursion (IsGood Passes) rows → Pass Passes (record_rows old.now)
    all_passed rising each =
        let s = all_shown in
        let back = IsPermutation-sym (record_rows old.now) s.chosen all_chosen in
        record {
          numbered = numbered rising;
          each = all-permutation (IsGood Passes) s.chosen (record_rows old.now) back (all_from_map (IsGood Passes) scanned_of s.chosen (subst (AllByRecursion (IsGood Passes)) s.is each));
        }

    -- and where they pass, the numbers rise and each record that is shown passes
    pub passed_shown : Pass Passes (record_rows old.now) → AreRisingNumbers rows × AllByRecursion (IsGood Passes) rows
    passed_shown h =
        let s = all_shown in
        let chosen = all-permutation (IsGood Passes) (record_rows old.now) s.chosen all_chosen h.each in
        (rising_if_numbered h.numbered, subst (AllByRecursion (IsGood Passes)) (sym s.is) (all-map (IsGood Passes) scanned_of s.chosen chosen))

-- ---- a scan that ends

-- the numbers rise where they rise to a last one
rising_of : (rows : List Row) (last : Option ℤ) → RiseTo rows last → AreRisingNumbers rows
rising_of rows None none = subst AreRisingNumbers (sym none) (record { each = tt; rising = tt })
rising_of rows (Some last) up = up.numbers

-- the text runs no recursion, so the first rows are those of an answer
scan_ends : (schema : Schema) (tree : ℕ) (c : Compiled) (db : Database) (params : Row) → IsSelect schema scan_text 0 (scan_query tree) → understood schema scan_text ≡ Ok c → EndsIn c.command db params
scan_ends schema tree c db params asks is =
    let command : c.command ≡ Select (alone (scan_query tree)) asks.2.0 = ap command_of (sym is) ∙ commands schema scan_text asks.0 asks.1 ∙ asks.2.1 in
    subst (λ k. EndsIn k db params) (sym command) tt

module _ (Passes : RecordData → Type 0) (mid new : State) (given : List Row) (last : Option ℤ) (has : DeclaresRecords mid.now.schema) (so : PassUpTo Passes given last) where
  -- all rows were shown, and passed
  pub scan_passed : Shown scan_text [] mid new given → Pass Passes (record_rows mid.now)
  scan_passed shown = all_passed mid new given has shown Passes (rising_of given last so.rise) so.each

  -- the answer begins with a row that ends it
  module _ (row : Row) (begins : Begins scan_text [] mid (given ++ row ∷ [])) (is_open : mid.is_open ≡ true) where
    whole : (tail : List Row) × Shown scan_text [] mid mid ((given ++ row ∷ []) ++ tail)
    whole = begins_shown scan_text [] mid mid (given ++ row ∷ []) begins (unchanged mid is_open) (λ c db it source. scan_ends mid.now.schema (records_tree mid.now.schema) c db _ has.statements.scans it.is)

    pub scan_unnumbered : ((number : ℤ) → ¬ HasNumberAbove last row number) → Pass Passes (record_rows mid.now) → ⊥
    scan_unnumbered none pass =
        fails_number Passes given whole.0 last row so none (passed_shown mid mid ((given ++ row ∷ []) ++ whole.0) has whole.1 Passes pass).0

    pub scan_failed : ¬ Passes (record_of row) → Pass Passes (record_rows mid.now) → ⊥
    scan_failed bad pass =
        fails_test Passes given whole.0 row bad (passed_shown mid mid ((given ++ row ∷ []) ++ whole.0) has whole.1 Passes pass).1
