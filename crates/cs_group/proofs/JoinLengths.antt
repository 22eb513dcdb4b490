-- The file of what two changesets make together is at most as long as both their files.
use Rattle.std.proofs.Common.{◌≡◌, ◌≢◌, ℕ, ◌+◌, ◌≤◌, nat_eq, Bool, true, false, cond, List, [], ◌∷◌, length, length-append, get_or, Option, Some, None, All, refl, sym, ap, ◌∙◌, arith}
use Rattle.std.specs.Prelude.{is_none, filter, filter_map}
use Rattle.std.specs.List.{cons_option, flat_map}
use Rattle.std.specs.Cmp.Lexicographic.{pointwise, same_text, other_text, nat_list_eq_equiv}
use Rattle.std.proofs.lemmas.Grind.{flat_map-append}
use Rattle.std.proofs.lemmas.List.Elements.{All-head, All-tail}
use Rattle.cs_wire_entries.specs.declared.entry.Entry.{Entry}
use Rattle.cs_wire.specs.Entry.{key_of, entry_bytes}
use Rattle.cs_wire.specs.Changeset.{HeaderData, GroupData, IsGroup, IsChangeset, header_bytes, entries_bytes, group_bytes, file_bytes}
use Rattle.cs_value.proofs.ListLemmas.{AllPairs-head, AllPairs-tail}
use Rattle.cs_group.specs.Joining.{table_name, with_text, is_new, outcome, joined_by, joined_entry, joined_entries, some_group, joined_group, IsJoined}
use Rattle.cs_group.proofs.TextLemmas.{Once, not_same, with_text-none}
use Rattle.cs_group.proofs.EntryLengths.{joined_entry_length}

-- ---- two lists of things that are written in turn

module _ {X : Type 0} (bytes_of : X → List ℕ) where
  -- how long a thing is, if there is one, and how long are all
  abbrev one_length : Option X → ℕ
  one_length None = 0
  one_length (Some x) = length (bytes_of x)

  abbrev all_length : List X → ℕ
  all_length xs = length (flat_map bytes_of xs)

  -- one more
  length_more : (x : X) (xs : List X) → all_length (x ∷ xs) ≡ length (bytes_of x) + all_length xs
  length_more x xs = length-append (bytes_of x) (flat_map bytes_of xs)

  -- and one more, if there is one
  length_option : (o : Option X) (xs : List X) → all_length (cons_option o xs) ≡ one_length o + all_length xs
  length_option None xs = omega arith
  length_option (Some x) xs = length_more x xs

  -- and one more, if it passes a test
  length_filter : (p : X → Bool) (x : X) (xs : List X) (b : Bool) → p x ≡ b → all_length (filter p (x ∷ xs)) ≡ cond b (length (bytes_of x)) 0 + all_length (filter p xs)
  length_filter p x xs true e = rw e (length_more x (filter p xs))
  length_filter p x xs false e = rw e (omega arith)

  -- those that pass a test are no longer than all
  filter_length : (p : X → Bool) (xs : List X) → all_length (filter p xs) ≤ all_length xs
  filter_length p [] = omega arith
  filter_length p (x ∷ xs) = of (p x) refl (filter_length p xs)
    where
      of : (b : Bool) → p x ≡ b → all_length (filter p xs) ≤ all_length xs → all_length (filter p (x ∷ xs)) ≤ all_length (x ∷ xs)
      of true e others = omega (arith, others, length_filter p x xs true e, length_more x xs)
      of false e others = omega (arith, others, length_filter p x xs false e, length_more x xs)

  module _ (text_of : X → List ℕ) where
    -- of the things whose text the first list has not, one more thing of that list takes away the one with its text
    taken_length : (x : X) (first second : List X) → All (λ z. text_of z ≢ text_of x) first
        → one_length (with_text text_of second (text_of x)) + all_length (filter (is_new text_of (x ∷ first)) second) ≤ all_length (filter (is_new text_of first) second)
    taken_length x first [] new = omega arith
    taken_length x first (y ∷ ys) new = at (pointwise nat_eq (text_of y) (text_of x)) refl (taken_length x first ys new)
      where
        at : (b : Bool) → b ≡ pointwise nat_eq (text_of y) (text_of x)
            → one_length (with_text text_of ys (text_of x)) + all_length (filter (is_new text_of (x ∷ first)) ys) ≤ all_length (filter (is_new text_of first) ys)
            → one_length (cond b (Some y) (with_text text_of ys (text_of x))) + all_length (filter (is_new text_of (x ∷ first)) (y ∷ ys)) ≤ all_length (filter (is_new text_of first) (y ∷ ys))
        at true is others =
            let same : text_of y ≡ text_of x = same_text (text_of y) (text_of x) is in
            let dropped : is_new text_of (x ∷ first) y ≡ false = rw (same, nat_list_eq_equiv.refl (text_of x)) refl in
            let kept : is_new text_of first y ≡ true = ap is_none (ap (with_text text_of first) same ∙ with_text-none text_of first (text_of x) new) in
            omega (arith, others, length_filter (is_new text_of (x ∷ first)) y ys false dropped, length_filter (is_new text_of first) y ys true kept)
        at false is others =
            let differ : text_of x ≢ text_of y = λ same. other_text (text_of y) (text_of x) is (sym same) in
            let no = not_same (text_of x) (text_of y) (pointwise nat_eq (text_of x) (text_of y)) refl differ in
            let alike : is_new text_of (x ∷ first) y ≡ is_new text_of first y = rw no refl in
            omega (arith, others, length_filter (is_new text_of (x ∷ first)) y ys (is_new text_of first y) alike, length_filter (is_new text_of first) y ys (is_new text_of first y) refl)

    module _ (join : X → Option X → Option X) (second : List X) where
      -- what becomes of a thing is no longer than it and the one that it is joined with
      abbrev NoLonger : X → Type 0
      NoLonger x = (found : Option X) → one_length (join x found) ≤ length (bytes_of x) + one_length found

      -- then what is left of the first, and what is new of the second, are no longer than both
      both_length : (first : List X) → All NoLonger first → Once text_of first
          → all_length (filter_map (outcome text_of join second) first) + all_length (filter (is_new text_of first) second) ≤ all_length first + all_length second
      both_length [] each once = omega (arith, filter_length (is_new text_of []) second)
      both_length (x ∷ xs) each once =
          let found = with_text text_of second (text_of x) in
          let here = All-head NoLonger x xs each found in
          let others = both_length xs (All-tail NoLonger x xs each) (AllPairs-tail (λ x y. text_of x ≢ text_of y) x xs once) in
          let taken = taken_length x xs second (λ k d lt same. AllPairs-head (λ x y. text_of x ≢ text_of y) x xs once k d lt (sym same)) in
          omega (arith, here, others, taken, length_option (join x found) (filter_map (outcome text_of join second) xs), length_more x xs)

      -- and so what two lists make together is no longer than both
      joined_by_length : (first : List X) → All NoLonger first → Once text_of first → all_length (joined_by text_of join first second) ≤ all_length first + all_length second
      joined_by_length first each once =
          let kept = filter_map (outcome text_of join second) first in
          let new = filter (is_new text_of first) second in
          omega (arith, both_length first each once, ap length (flat_map-append bytes_of kept new), length-append (flat_map bytes_of kept) (flat_map bytes_of new))

-- ---- groups

-- a group is its header and its entries
pub group_length : (group : GroupData) → length (group_bytes group) ≡ length (header_bytes group.header) + length (entries_bytes group.entries)
unfolding group_bytes
group_length group = length-append (header_bytes group.header) (entries_bytes group.entries)

-- a group that is made of a header and of entries, if there is one, is no longer than they are
some_group_length : (header : HeaderData) (entries : List Entry) → one_length group_bytes (some_group header entries) ≤ length (header_bytes header) + length (entries_bytes entries)
some_group_length header [] = omega arith
some_group_length header (entry ∷ entries) = omega (arith, group_length (record { header = header; entries = entry ∷ entries }))

-- what becomes of a group is no longer than it and the one that it is joined with
joined_group_length : (group : GroupData) → IsGroup group → (found : Option GroupData) → one_length group_bytes (joined_group group found) ≤ length (group_bytes group) + one_length group_bytes found
joined_group_length group is None = omega arith
joined_group_length group is (Some second) =
    let flags = group.header.flags in
    let key : Entry → List ℕ = λ e. key_of flags e.change in
    let entries = joined_by_length entry_bytes key (joined_entry flags) second.entries group.entries (λ k d lt found. joined_entry_length flags (get_or group.entries k d) found) is.once in
    omega (arith, entries, some_group_length group.header (joined_entries flags group.entries second.entries), group_length group, group_length second)

-- ---- changesets

-- the file of what two changesets make together is at most as long as both their files
pub join_length : (first second join : List GroupData) → IsChangeset first → IsJoined first second join → length (file_bytes join) ≤ length (file_bytes first) + length (file_bytes second)
join_length first second join p is =
    let made = joined_by_length group_bytes table_name joined_group second first (λ k d lt found. joined_group_length (get_or first k d) (p.each k d lt) found) p.once in
    omega (arith, made, ap (λ (groups : List GroupData). length (file_bytes groups)) is.is_joined)
