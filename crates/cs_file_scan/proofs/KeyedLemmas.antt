-- The entries of a table that are found by the numbers of their keys.
use Rattle.std.proofs.Common.{◌≡◌, ◌≢◌, ℕ, ◌+◌, ◌-◌, ◌<◌, ◌≤◌, List, [], ◌∷◌, ◌++◌, length, map, get_or, take, drop, refl, sym, ap, ◌∙◌, append_assoc, ⊎_elim, arith}
use Rattle.std.specs.Prelude.{Option, Some, None, IfSome, IsTrue, is_some}
use Rattle.std.proofs.lemmas.Bool.{cases_order}
use Rattle.std.proofs.lemmas.List.{drop_at, drop_more, take_at, get_or-map, get_or_append_left, get_or_at, length-append, length-drop, length-map, map-append}
use Rattle.cs_wire_entries.specs.declared.entry.Entry.{Entry}
use Rattle.cs_wire.specs.Changeset.{GroupData, IsNewKey, entries_bytes, file_bytes}
use Rattle.cs_wire.specs.Entry.{entry_bytes, key_of}
use Rattle.cs_wire.specs.Items.{FlaggedEntry}
use Rattle.cs_wire.specs.ReadFaults.{Stands}
use Rattle.cs_wire.specs.Views.{IsIndexWhere}
use Rattle.cs_file_scan.specs.Chains.{IsEnd, bucket_at, bucket_of}
use Rattle.cs_file_scan.specs.Distinct.{number_of}
use Rattle.cs_file_scan.specs.KeyedFile.{KeyedFile, AreKeyed, count_of, entries_from, key_number, with_entry}
use Rattle.cs_file_scan.specs.Tables.{TablesData, EntriesLeft, IsNextEntry, NextEntry}
use Rattle.cs_file_scan.proofs.TablesLemmas.{PassedEntries, PassedEntries-next, PassedEntries-all}

-- ---- entries that are listed

-- of the entries that are left these are listed
pub record ListsEntries (keyed : KeyedFile) (now : TablesData) (entries : List Entry) (groups : List GroupData) : Type 0 where
  pub before : List Entry
  pub passed : PassedEntries before now entries groups
  pub count : length keyed.bounds ≡ length before + 1
  pub left : (index : ℕ) → index ≤ length before → EntriesLeft (entries_from keyed index) (drop index entries) groups
  pub numbers : keyed.chains.numbers ≡ map (key_number keyed.flags) before

-- the same index of the same file
EntriesLeft-at : (tables : TablesData) (file flags : List ℕ) (index : ℕ) (entries : List Entry) (groups : List GroupData) → file ≡ tables.file → flags ≡ tables.flags → index ≡ tables.place
    → EntriesLeft tables entries groups → EntriesLeft (record { file = file; place = index; flags = flags }) entries groups
EntriesLeft-at tables file flags index entries groups same own at left = rw (same, own, at) left

pub ListsEntries-none : (keyed : KeyedFile) (tables : TablesData) (entries : List Entry) (groups : List GroupData) → keyed.file ≡ tables.file → keyed.flags ≡ tables.flags → keyed.bounds ≡ tables.place ∷ [] → keyed.chains.numbers ≡ []
    → EntriesLeft tables entries groups → ListsEntries keyed tables entries groups
ListsEntries-none keyed tables entries groups file flags bounds numbers left = record {
  before = [];
  passed = record { others = entries; whole = refl; are_left = left };
  count = ap length bounds;
  left = λ index le.
      let first : index ≡ 0 = omega (arith, le) in
      rw first (EntriesLeft-at tables keyed.file keyed.flags (get_or keyed.bounds 0 0) entries groups file flags (ap (λ (bs : List ℕ). get_or bs 0 0) bounds) left);
  numbers = numbers;
}

module _ (keyed : KeyedFile) (now : TablesData) (entries : List Entry) (groups : List GroupData) (so : ListsEntries keyed now entries groups) where
  pub ListsEntries-next : (next : TablesData) (seen : FlaggedEntry) (number end : ℕ) → IsNextEntry now.flags so.passed.others groups seen next → keyed.file ≡ next.file → keyed.flags ≡ now.flags
      → number ≡ number_of (key_of seen.flags seen.entry.change) → end ≡ next.place → ListsEntries (with_entry keyed number end) next entries groups
  ListsEntries-next next seen number end is file flags number_is end_is = record {
    before = grown;
    passed = passed;
    count = omega (arith, so.count, length-append keyed.bounds (end ∷ []), more);
    left = λ index le. ⊎_elim (last index) (⊎_elim (before index) (λ gt. absurd (omega (arith, gt, le, more)))) (cases_order index (length so.before + 1));
    numbers = ap (λ (ns : List ℕ). ns ++ number ∷ []) so.numbers ∙ ap (λ (n : ℕ). map (key_number keyed.flags) so.before ++ n ∷ []) own ∙ sym (map-append (key_number keyed.flags) so.before (seen.entry ∷ []));
  }
    where
      grown : List Entry
      grown = so.before ++ seen.entry ∷ []

      passed : PassedEntries grown next entries groups
      passed = PassedEntries-next so.before grown now next entries groups so.passed seen is refl

      more : length grown ≡ length so.before + 1
      more = length-append so.before (seen.entry ∷ [])

      own : number ≡ key_number keyed.flags seen.entry
      own = number_is ∙ ap (λ (fs : List ℕ). number_of (key_of fs seen.entry.change)) (is.flags_are ∙ sym flags)

      before : (index : ℕ) → index < length so.before + 1 → EntriesLeft (entries_from (with_entry keyed number end) index) (drop index entries) groups
      before index lt = rw (get_or_append_left keyed.bounds (end ∷ []) 0 index (omega (arith, lt, so.count))) (so.left index (omega (arith, lt)))

      last : (index : ℕ) → index ≡ length so.before + 1 → EntriesLeft (entries_from (with_entry keyed number end) index) (drop index entries) groups
      last index at =
          let here : get_or (keyed.bounds ++ end ∷ []) index 0 ≡ next.place = get_or_at keyed.bounds end [] 0 index (omega (arith, at, so.count)) ∙ end_is in
          let behind : drop index entries ≡ passed.others = ap (drop index) passed.whole ∙ drop_at grown passed.others index (more ∙ sym at) in
          rw behind (EntriesLeft-at next keyed.file keyed.flags (get_or (keyed.bounds ++ end ∷ []) index 0) passed.others groups file (flags ∙ sym is.flags_stay) here passed.are_left)

  pub ListsEntries-all : so.passed.others ≡ [] → AreKeyed keyed entries groups
  ListsEntries-all none =
      let all : entries ≡ so.before = PassedEntries-all so.before now entries groups so.passed none in record {
        left = λ index le. so.left index (omega (arith, le, ap length all));
        numbers = so.numbers ∙ ap (map (key_number keyed.flags)) (sym all);
      }

-- ---- entries that are read where they are

module _ (keyed : KeyedFile) (entries : List Entry) (groups : List GroupData) (so : AreKeyed keyed entries groups) where
  pub as_many : count_of keyed ≡ length entries
  as_many = ap length so.numbers ∙ length-map entries (key_number keyed.flags)

  module _ (index : ℕ) (lt : index < count_of keyed) where
    within : index < length entries
    within = omega (arith, lt, as_many)

    pub left_here : EntriesLeft (entries_from keyed index) (drop index entries) groups
    left_here = so.left index (omega (arith, within))

    -- the next entry is the one at that index
    pub entry_here : (next : Option FlaggedEntry) (after : TablesData) → NextEntry keyed.flags (drop index entries) groups next after → IsTrue (is_some next) × IfSome next (λ e. IsIndexWhere (λ x. x ≡ e.entry) entries index)
    entry_here None after is = absurd (omega (arith, within, ap length is.0, length-drop index entries))
    entry_here (Some seen) after is = (
      refl,
      record { within = within; holds = λ d. ap (λ (es : List Entry). get_or es 0 d) (sym (drop_more entries index d within) ∙ is.is) },
    )

    pub bytes_here : (d : Entry) → Stands keyed.file (get_or keyed.bounds index 0) (entry_bytes (get_or entries index d)) (get_or keyed.bounds (index + 1) 0)
    bytes_here d =
        let next = so.left (index + 1) (omega (arith, within)) in
        let entry = get_or entries index d in
        let others = drop (index + 1) entries in
        record {
          spelled =
              left_here.spelled ∙ ap (λ (es : List Entry). entries_bytes es ++ file_bytes groups) (drop_more entries index d within)
              ∙ append_assoc (entry_bytes entry) (entries_bytes others) (file_bytes groups) ∙ ap (λ (l : List ℕ). entry_bytes entry ++ l) (sym next.spelled);
          within = next.within;
        }

-- a part of a file, and its end
module _ (file bytes : List ℕ) (start end : ℕ) (stands : Stands file start bytes end) (within : start ≤ length file) where
  part_ends : end ≡ start + length bytes
  part_ends = omega (arith, within, stands.within, ap length stands.spelled, length-append bytes (drop end file), length-drop start file, length-drop end file)

  pub part_after : start ≤ end
  part_after = omega (arith, part_ends)

  pub part_is : take (end - start) (drop start file) ≡ bytes
  part_is = ap (take (end - start)) stands.spelled ∙ take_at bytes (drop end file) (end - start) (omega (arith, part_ends))

-- ---- entries that have not a key

-- no entry from an index on has it
abbrev pub NoneFrom : KeyedFile → List Entry → List ℕ → ℕ → Type 0
NoneFrom keyed entries key start = (index : ℕ) (d : Entry) → start ≤ index → index < length entries → key_of keyed.flags (get_or entries index d).change ≢ key

module _ (keyed : KeyedFile) (entries : List Entry) (groups : List GroupData) (so : AreKeyed keyed entries groups) (key : List ℕ) where
  number_there : (index : ℕ) (d : Entry) → index < length entries → get_or keyed.chains.numbers index 0 ≡ number_of (key_of keyed.flags (get_or entries index d).change)
  number_there index d lt = ap (λ (ns : List ℕ). get_or ns index 0) so.numbers ∙ get_or-map (key_number keyed.flags) entries index d 0 lt

  pub other_number : (index : ℕ) → index < count_of keyed → get_or keyed.chains.numbers index 0 ≢ number_of key → IsIndexWhere (λ e. key_of keyed.flags e.change ≢ key) entries index
  other_number index lt other =
      let there : index < length entries = omega (arith, lt, as_many keyed entries groups so) in record {
        within = there;
        holds = λ d same. other (number_there index d there ∙ ap number_of same);
      }

  other_bucket : (index : ℕ) (d : Entry) → index < length entries → bucket_at keyed.chains index ≢ bucket_of keyed.chains (number_of key) → key_of keyed.flags (get_or entries index d).change ≢ key
  other_bucket index d lt other same = other (ap (bucket_of keyed.chains) (number_there index d lt ∙ ap number_of same))

  pub NoneFrom-end : (end : ℕ) → IsEnd keyed.chains (bucket_of keyed.chains (number_of key)) (count_of keyed) end → NoneFrom keyed entries key end
  NoneFrom-end end is index d from lt =
      other_bucket index d lt (is.none index from (omega (arith, lt, as_many keyed entries groups so)))

  pub NoneFrom-before : (index before : ℕ) → IsEnd keyed.chains (bucket_at keyed.chains index) index before → bucket_at keyed.chains index ≡ bucket_of keyed.chains (number_of key)
      → IsIndexWhere (λ e. key_of keyed.flags e.change ≢ key) entries index → NoneFrom keyed entries key (index + 1) → NoneFrom keyed entries key before
  NoneFrom-before index before is bucket not_here none k d from lt =
      ⊎_elim (λ same. rw same (not_here.holds d))
      (⊎_elim (λ below. other_bucket k d lt (λ same. is.none k from below (same ∙ sym bucket))) (λ above. none k d (omega (arith, above)) lt))
      (cases_order k index)

  pub NoneFrom-all : (start : ℕ) → start ≡ 0 → NoneFrom keyed entries key start → IsNewKey keyed.flags entries key
  NoneFrom-all start first none = λ index d lt. none index d (omega (arith, first)) lt
