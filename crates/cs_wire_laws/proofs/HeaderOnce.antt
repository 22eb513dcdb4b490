-- There is one outcome at most where a table is to begin: the header of a new table, or one fault.
use Rattle.std.proofs.Common.{◌≡◌, ◌≢◌, ℕ, ◌+◌, ◌<◌, ◌≤◌, List, [], ◌∷◌, ◌++◌, length, refl, sym, ap, ◌∙◌, arith, length-append, inl, inr}
use Rattle.std.specs.Prelude.{◌⊎◌, Any, IsUtf8}
use Rattle.std.proofs.lemmas.List.Elements.{All-from_recursion}
use Rattle.std.specs.List.{AllByRecursion}
use Rattle.cs_value.specs.declared.TheConstants.{MAX_CONTENT_LEN}
use Rattle.cs_value.specs.declared.fault.FieldFaultKind.{FieldFaultKind}
use Rattle.cs_value.specs.Table.{IsName, IsFlags}
use Rattle.cs_value.specs.Varint.{varint}
use Rattle.cs_value.specs.FieldFaults.{VarintFails}
use Rattle.cs_value.proofs.ListLemmas.{same_from_append, AllByRecursion-append_right}
use Rattle.cs_value.proofs.Spellings.{varint_spellings}
use Rattle.cs_wire_entries.specs.declared.fault.ReadFaultKind.TheVariants.{Truncated, NotTable, Patchset, ColumnCount, NoKey, BadName, DuplicateTable}
use Rattle.cs_wire_entries.specs.Changeset.{GroupData, HeaderData, IsHeader, IsNewName, header_bytes}
use Rattle.cs_wire_entries.specs.ReadFaults.{kind_of, IsColumnCount}
use Rattle.cs_wire_entries.proofs.ReadingLemmas.{flags_some, flags_bytes-append, header_bytes-append}
use Rattle.cs_wire_laws.proofs.VarintFaults.{varint_or_fails, varint_fails_once}
use Rattle.cs_wire_laws.proofs.Outcomes.{Outcome, Passes, Fails, Once}

abbrev pub NoZero : List ℕ → Type 0
NoZero bytes = AllByRecursion (λ b. b ≢ 0) bytes

-- the first zero byte ends a name
pub split_zero : (m n x y : List ℕ) → NoZero m → NoZero n → m ++ 0 ∷ x ≡ n ++ 0 ∷ y → (m ≡ n) × (x ≡ y)
split_zero [] [] x y h k e = (refl, cc)
split_zero [] (q ∷ n) x y h k e = absurd (k.0 (cc))
split_zero (p ∷ m) [] x y h k e = absurd (h.0 (cc))
split_zero (p ∷ m) (q ∷ n) x y h k e =
    let others = split_zero m n x y h.1 k.1 (cc) in
    (cc (others.0), others.1)

no_end : (bytes name rest : List ℕ) → NoZero bytes → bytes ≡ name ++ 0 ∷ rest → ⊥
no_end bytes name rest none e = (AllByRecursion-append_right (λ (b : ℕ). b ≢ 0) name (0 ∷ rest) (rw e at none)).0 refl

all_zero : (flags : List ℕ) → AllByRecursion (λ flag. flag ≡ 0) flags → Any (λ flag. 0 < flag) flags → ⊥
all_zero flags zeros some = let zero_there = All-from_recursion (λ flag. flag ≡ 0) flags zeros some.0 some.1 some.2 in omega (arith, some.3, some.4, zero_there)

module _ (groups : List GroupData) (from : ℕ) where
  -- after the name that begins there
  abbrev pub Named : List ℕ → ℕ → Outcome → Type 0
  Named name at o =
      (((name ≡ []) ⊎ (IsUtf8 name → ⊥)) × (o ≡ Fails BadName at))
      ⊎ (IsName name × (((IsNewName groups name → ⊥) × (o ≡ Fails DuplicateTable from)) ⊎ (IsNewName groups name × (o ≡ Passes))))

  -- after the flags
  pub record NameEnds (bytes : List ℕ) (at : ℕ) (o : Outcome) : Type 0 where
    pub name : List ℕ
    pub rest : List ℕ
    pub spelled : bytes ≡ name ++ 0 ∷ rest
    pub no_zero : NoZero name
    pub after : Named name at o

  abbrev pub Flagged : List ℕ → ℕ → Outcome → Type 0
  Flagged bytes at o = (NoZero bytes × (o ≡ Fails Truncated (at + length bytes))) ⊎ NameEnds bytes at o

  -- after the count
  pub record HasFlags (bytes : List ℕ) (count at : ℕ) (o : Outcome) : Type 0 where
    pub flags : List ℕ
    pub rest : List ℕ
    pub spelled : bytes ≡ flags ++ rest
    pub count_is : length flags ≡ count
    pub after : (AllByRecursion (λ flag. flag ≡ 0) flags × (o ≡ Fails NoKey at)) ⊎ (IsFlags flags × Flagged rest (at + count) o)

  abbrev pub CountOk : List ℕ → ℕ → ℕ → Outcome → Type 0
  CountOk bytes count at o = ((length bytes < count) × (o ≡ Fails Truncated (at + length bytes))) ⊎ HasFlags bytes count at o

  -- after 0x54
  pub record HasCount (bytes : List ℕ) (at : ℕ) (o : Outcome) : Type 0 where
    pub count : ℕ
    pub rest : List ℕ
    pub is_number : count ≤ MAX_CONTENT_LEN
    pub spelled : bytes ≡ varint count ++ rest
    pub after : ((IsColumnCount count → ⊥) × (o ≡ Fails ColumnCount at)) ⊎ (IsColumnCount count × CountOk rest count (at + length (varint count)) o)

  pub record CountFails (bytes : List ℕ) (at : ℕ) (o : Outcome) : Type 0 where
    pub why : FieldFaultKind
    pub behind : ℕ
    pub fails : VarintFails bytes why behind
    pub is : o ≡ Fails (kind_of why) (at + behind)

  abbrev pub Header : List ℕ → ℕ → Outcome → Type 0
  Header bytes at o = CountFails bytes at o ⊎ HasCount bytes at o

  -- ---- one outcome

  good_name : (name : List ℕ) → IsName name → (name ≡ []) ⊎ (IsUtf8 name → ⊥) → ⊥
  good_name name is (inl none) = omega (arith, is.some, ap length none)
  good_name name is (inr bad) = bad is.text

  named_once : (name : List ℕ) (at : ℕ) → Once (Named name at)
  named_once name at a b (inl one) (inl two) = one.1 ∙ sym two.1
  named_once name at a b (inl one) (inr two) = absurd (good_name name two.0 one.0)
  named_once name at a b (inr one) (inl two) = absurd (good_name name one.0 two.0)
  named_once name at a b (inr (i, inl one)) (inr (j, inl two)) = one.1 ∙ sym two.1
  named_once name at a b (inr (i, inr one)) (inr (j, inr two)) = one.1 ∙ sym two.1
  named_once name at a b (inr (i, inl one)) (inr (j, inr two)) = absurd (one.0 two.0)
  named_once name at a b (inr (i, inr one)) (inr (j, inl two)) = absurd (two.0 one.0)

  flagged_once : (bytes : List ℕ) (at : ℕ) → Once (Flagged bytes at)
  flagged_once bytes at a b (inl one) (inl two) = one.1 ∙ sym two.1
  flagged_once bytes at a b (inl one) (inr two) = absurd (no_end bytes two.name two.rest one.0 two.spelled)
  flagged_once bytes at a b (inr one) (inl two) = absurd (no_end bytes one.name one.rest two.0 one.spelled)
  flagged_once bytes at a b (inr one) (inr two) =
      let same = split_zero one.name two.name one.rest two.rest one.no_zero two.no_zero (sym one.spelled ∙ two.spelled) in
      named_once one.name at a b one.after (rw (same.0) two.after)

  flags_once : (bytes : List ℕ) (count at : ℕ) → Once (HasFlags bytes count at)
  flags_once bytes count at a b one two =
      let same = same_from_append one.flags two.flags one.rest two.rest (one.count_is ∙ sym two.count_is) (sym one.spelled ∙ two.spelled) in
      by one.flags one.rest one.after (rw (same.0, same.1) two.after)
    where
      After : List ℕ → List ℕ → Outcome → Type 0
      After flags rest o = (AllByRecursion (λ flag. flag ≡ 0) flags × (o ≡ Fails NoKey at)) ⊎ (IsFlags flags × Flagged rest (at + count) o)

      by : (flags rest : List ℕ) → After flags rest a → After flags rest b → a ≡ b
      by flags rest (inl p) (inl q) = p.1 ∙ sym q.1
      by flags rest (inl p) (inr q) = absurd (all_zero flags p.0 q.0.some_key)
      by flags rest (inr p) (inl q) = absurd (all_zero flags q.0 p.0.some_key)
      by flags rest (inr p) (inr q) = flagged_once rest (at + count) a b p.1 q.1

  count_once : (bytes : List ℕ) (count at : ℕ) → Once (CountOk bytes count at)
  count_once bytes count at a b (inl one) (inl two) = one.1 ∙ sym two.1
  count_once bytes count at a b (inl one) (inr two) = absurd (omega (arith, one.0, ap length two.spelled, length-append two.flags two.rest, two.count_is))
  count_once bytes count at a b (inr one) (inl two) = absurd (omega (arith, two.0, ap length one.spelled, length-append one.flags one.rest, one.count_is))
  count_once bytes count at a b (inr one) (inr two) = flags_once bytes count at a b one two

  -- a header of a new table, or one fault
  pub header_once : (bytes : List ℕ) (at : ℕ) → Once (Header bytes at)
  header_once bytes at a b (inl one) (inl two) =
      let same = varint_fails_once bytes one.why two.why one.behind two.behind one.fails two.fails in
      one.is ∙ cc (same.0, same.1) ∙ sym two.is
  header_once bytes at a b (inl one) (inr two) = absurd (varint_or_fails bytes one.why one.behind two.count two.rest two.is_number two.spelled one.fails)
  header_once bytes at a b (inr one) (inl two) = absurd (varint_or_fails bytes two.why two.behind one.count one.rest one.is_number one.spelled two.fails)
  header_once bytes at a b (inr one) (inr two) =
      let same = varint_spellings one.count two.count one.rest two.rest one.is_number two.is_number (sym one.spelled ∙ two.spelled) in
      by one.count one.rest one.after (rw (same.0, same.1) two.after)
    where
      After : ℕ → List ℕ → Outcome → Type 0
      After count rest o = ((IsColumnCount count → ⊥) × (o ≡ Fails ColumnCount at)) ⊎ (IsColumnCount count × CountOk rest count (at + length (varint count)) o)

      by : (count : ℕ) (rest : List ℕ) → After count rest a → After count rest b → a ≡ b
      by count rest (inl p) (inl q) = p.1 ∙ sym q.1
      by count rest (inl p) (inr q) = absurd (p.0 q.0)
      by count rest (inr p) (inl q) = absurd (q.0 p.0)
      by count rest (inr p) (inr q) = count_once rest count (at + length (varint count)) a b p.1 q.1

-- ---- where a table is to begin

-- what is found after the file of a changeset
abbrev pub AtTable : List GroupData → List ℕ → ℕ → Outcome → Type 0
AtTable groups [] at o = ⊥
AtTable groups (b ∷ bytes) at o =
    ((b ≡ 0x54) × Header groups at bytes (at + 1) o)
    ⊎ ((b ≡ 0x50) × (o ≡ Fails Patchset at))
    ⊎ ((groups ≡ []) × (b ≢ 0x54) × (b ≢ 0x50) × (o ≡ Fails NotTable at))

pub table_once : (groups : List GroupData) (bytes : List ℕ) (at : ℕ) → Once (AtTable groups bytes at)
table_once groups [] at a b one two = absurd one
table_once groups (c ∷ bytes) at a b (inl one) (inl two) = header_once groups at bytes (at + 1) a b one.1 two.1
table_once groups (c ∷ bytes) at a b (inr (inl one)) (inr (inl two)) = one.1 ∙ sym two.1
table_once groups (c ∷ bytes) at a b (inr (inr one)) (inr (inr two)) = one.3 ∙ sym two.3
table_once groups (c ∷ bytes) at a b (inl one) (inr (inl two)) = absurd (omega (arith, one.0, two.0))
table_once groups (c ∷ bytes) at a b (inr (inl one)) (inl two) = absurd (omega (arith, one.0, two.0))
table_once groups (c ∷ bytes) at a b (inl one) (inr (inr two)) = absurd (two.1 one.0)
table_once groups (c ∷ bytes) at a b (inr (inr one)) (inl two) = absurd (one.1 two.0)
table_once groups (c ∷ bytes) at a b (inr (inl one)) (inr (inr two)) = absurd (two.2 one.0)
table_once groups (c ∷ bytes) at a b (inr (inr one)) (inr (inl two)) = absurd (one.2 two.0)

-- after a header: its table is new or not
pub header_found : (groups : List GroupData) (header : HeaderData) (rest : List ℕ) (at : ℕ) (o : Outcome) → IsHeader header
    → ((IsNewName groups header.name → ⊥) × (o ≡ Fails DuplicateTable at)) ⊎ (IsNewName groups header.name × (o ≡ Passes)) → AtTable groups (header_bytes header ++ rest) at o
header_found groups header rest at o is found = rw header_bytes-append (inl (
  refl,
  inr (record {
    count = length header.flags;
    rest = header.flags ++ (header.name ++ 0 ∷ rest);
    is_number = omega (arith, is.flags.few);
    spelled = flags_bytes-append header.flags (header.name ++ 0 ∷ rest);
    after = inr (
      (flags_some header.flags is.flags, is.flags.few),
      inr (record {
        flags = header.flags;
        rest = header.name ++ 0 ∷ rest;
        spelled = refl;
        count_is = refl;
        after = inr (is.flags, inr (record { name = header.name; rest = rest; spelled = refl; no_zero = is.name.no_zero; after = inr (is.name, found) }));
      }),
    );
  }),
))
