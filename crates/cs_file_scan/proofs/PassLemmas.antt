-- The entries of a table that are passed one after another.
use Rattle.std.proofs.Common.{◌≡◌, ◌≢◌, ℕ, ◌+◌, ◌<◌, ◌≤◌, ◌⊎◌, ⊎_elim, true, List, [], ◌∷◌, ◌++◌, length, length-append, map, drop, get_or, AllPairs, refl, sym, ap, ◌∙◌, append_assoc, append-nil, arith}
use Rattle.std.specs.List.{AllByRecursion, flat_map}
use Rattle.std.proofs.lemmas.Bool.{cases_order}
use Rattle.std.proofs.lemmas.List.{get_or_append_left, get_or_at, length-drop, length-map, map-append}
use Rattle.std.proofs.lemmas.List.Concat.{flat_map-append}
use Rattle.std.proofs.lemmas.List.Elements.{All-append, All-nil, All-push, recursion_from_All}
use Rattle.std.proofs.lemmas.List.Quantifiers.{all_pairs_push}
use Rattle.cs_wire_entries.specs.declared.entry.Entry.{Entry}
use Rattle.cs_wire.specs.Entry.{IsEntry, entry_bytes, key_of}
use Rattle.cs_wire.specs.Changeset.{entries_bytes}
use Rattle.cs_wire.specs.Items.{FlaggedEntry}
use Rattle.cs_wire.specs.ReadFaults.{Stands, HasEntry}
use Rattle.cs_file_scan.specs.declared.checked.EntryRun.{EntryRun}
use Rattle.cs_file_scan.specs.Checked.{HasEntries, Passes, VisitsEntries, VisitsEntry}
use Rattle.cs_file_scan.specs.Distinct.{number_of}
use Rattle.cs_file_scan.specs.KeyedFile.{key_number}
use Rattle.cs_wire_entries.proofs.EntryLemmas.{entry_bytes_some}
use Rattle.cs_wire_entries.proofs.ReadingLemmas.{Stands-moves, Stands-then, rest_is}
use Rattle.cs_wire.proofs.EntriesLemmas.{HasEntry-entry}
use Rattle.cs_file_scan.proofs.CheckedLemmas.{HasEntries-none}

-- ---- entries that were visited

-- one entry was visited
VisitsEntries-one : (text : Entry → List ℕ) (old new file : List ℕ) (at : ℕ) (flags : List ℕ) (number end : ℕ) → VisitsEntry text old new file at flags number end → VisitsEntries text old new file at flags (number ∷ []) end
VisitsEntries-one text old new file at flags number end v = record {
  has = record {
    entries = v.entry ∷ [];
    each = All-push (IsEntry flags) [] v.entry (All-nil (IsEntry flags)) v.is_entry;
    stand = rw (append-nil (entry_bytes v.entry)) v.stands;
    keys_are = ap (λ (n : ℕ). n ∷ []) v.number_is;
  };
  written = v.written ∙ ap (λ (l : List ℕ). old ++ l) (sym (append-nil (text v.entry)));
}

-- some entries were visited, and then others
pub VisitsEntries-then : (text : Entry → List ℕ) (old written new file : List ℕ) (at : ℕ) (flags numbers : List ℕ) (place : ℕ) (others : List ℕ) (end : ℕ) → VisitsEntries text old written file at flags numbers place
    → VisitsEntries text written new file place flags others end → VisitsEntries text old new file at flags (numbers ++ others) end
VisitsEntries-then text old written new file at flags numbers place others end p q =
    let xs = p.has.entries in
    let ys = q.has.entries in record {
      has = record {
        entries = xs ++ ys;
        each = All-append (IsEntry flags) xs ys p.has.each q.has.each;
        stand = rw (flat_map-append entry_bytes xs ys) (Stands-then file at place end (entries_bytes xs) (entries_bytes ys) p.has.stand q.has.stand);
        keys_are = rw (p.has.keys_are, q.has.keys_are) (sym (map-append (key_number flags) xs ys));
      };
      written = q.written ∙ ap (λ (l : List ℕ). l ++ flat_map text ys) p.written ∙ append_assoc old (flat_map text xs) (flat_map text ys) ∙ ap (λ (l : List ℕ). old ++ l) (sym (flat_map-append text xs ys));
    }

-- no entry was visited
pub VisitsEntries-none : (text : Entry → List ℕ) (old file : List ℕ) (at : ℕ) (flags : List ℕ) → at ≤ length file → VisitsEntries text old old file at flags [] at
VisitsEntries-none text old file at flags le = record { has = HasEntries-none file at flags le; written = sym (append-nil old) }

-- one more entry was visited
pub VisitsEntries-next : (text : Entry → List ℕ) (old written new file : List ℕ) (at : ℕ) (flags numbers : List ℕ) (place number end : ℕ) → VisitsEntries text old written file at flags numbers place
    → VisitsEntry text written new file place flags number end → VisitsEntries text old new file at flags (numbers ++ number ∷ []) end
VisitsEntries-next text old written new file at flags numbers place number end so v =
    VisitsEntries-then text old written new file at flags numbers place (number ∷ []) end so (VisitsEntries-one text written new file place flags number end v)

-- an entry ends after its start
pub entry_moves : (text : Entry → List ℕ) (old new file : List ℕ) (at : ℕ) (flags : List ℕ) (number end : ℕ) → VisitsEntry text old new file at flags number end → at < length file → at < end
entry_moves text old new file at flags number end v within = Stands-moves file at end _ v.stands (entry_bytes_some v.entry) within

-- ---- numbers that rise

-- no two are the same, and none is above the last
pub record DistinctUpTo (numbers : List ℕ) (last : ℕ) : Type 0 where
  pub apart : AllPairs (λ m n. m ≢ n) numbers
  pub highest : (k d : ℕ) → k < length numbers → get_or numbers k d ≤ last

DistinctUpTo-next : (numbers : List ℕ) (number : ℕ) → AllPairs (λ m n. m ≢ n) numbers → ((k d : ℕ) → k < length numbers → get_or numbers k d < number) → DistinctUpTo (numbers ++ number ∷ []) number
DistinctUpTo-next numbers number apart below = record {
  apart = all_pairs_push (λ m n. m ≢ n) numbers number apart (λ k d lt same. omega (arith, below k d lt, same));
  highest = λ k d lt. ⊎_elim
      (λ at. rw (get_or_at numbers number [] d k (sym at)) (omega arith))
      (⊎_elim
      (λ old. rw (get_or_append_left numbers (number ∷ []) d k old) (omega (arith, below k d old)))
      (λ gt. absurd (omega (arith, gt, lt, length-append numbers (number ∷ [])))))
      (cases_order k (length numbers));
}

-- the entries that were visited so far
pub record PassesSoFar (text : Entry → List ℕ) (old new file : List ℕ) (at : ℕ) (flags : List ℕ) (passed : EntryRun) (last : ℕ) : Type 0 where
  pub numbers : List ℕ
  pub visits : VisitsEntries text old new file at flags numbers passed.end
  pub count_is : passed.count ≡ length numbers
  pub few : passed.count ≤ passed.end
  pub rising : passed.rises ≡ true → DistinctUpTo numbers last

pub PassesSoFar-none : (text : Entry → List ℕ) (old file : List ℕ) (at : ℕ) (flags : List ℕ) → at ≤ length file → PassesSoFar text old old file at flags (record { count = 0; end = at; rises = true }) 0
PassesSoFar-none text old file at flags le = record {
  numbers = [];
  visits = VisitsEntries-none text old file at flags le;
  count_is = refl;
  few = omega arith;
  rising = λ same. record { apart = λ i j d lt within. absurd (omega arith); highest = λ k d lt. absurd (omega arith) };
}

module _ (text : Entry → List ℕ) (old written file : List ℕ) (at : ℕ) (flags : List ℕ) (passed : EntryRun) (last : ℕ) (so : PassesSoFar text old written file at flags passed last) where
  pub PassesSoFar-next : passed.rises ≡ true → passed.end < length file → (new : List ℕ) (number : ℕ) (next : EntryRun) → VisitsEntry text written new file passed.end flags number next.end → next.count ≡ passed.count + 1
      → (next.rises ≡ true → (passed.count ≡ 0) ⊎ (last < number)) → PassesSoFar text old new file at flags next number
  PassesSoFar-next rose within new number next v count rises = record {
    numbers = so.numbers ++ number ∷ [];
    visits = VisitsEntries-next text old written new file at flags so.numbers passed.end number next.end so.visits v;
    count_is = omega (arith, count, so.count_is, length-append so.numbers (number ∷ []));
    few = omega (arith, count, so.few, entry_moves text written new file passed.end flags number next.end v within);
    rising = λ same. DistinctUpTo-next so.numbers number (so.rising rose).apart (λ k d lt. ⊎_elim
        (λ (none : passed.count ≡ 0). absurd (omega (arith, none, so.count_is, lt)))
        (λ (above : last < number). omega (arith, (so.rising rose).highest k d lt, above))
        (rises same));
  }

  pub PassesSoFar-passes : Passes text old written file at flags passed
  PassesSoFar-passes = record { numbers = so.numbers; visits = so.visits; count_is = so.count_is; apart = λ same. (so.rising same).apart }

-- ---- the listed numbers of entries that were passed

-- the first i of these numbers are listed
pub record ListedSoFar (file flags numbers : List ℕ) (end : ℕ) (initial keys : List ℕ) (i place : ℕ) : Type 0 where
  pub before : List Entry
  pub left : List Entry
  pub each : AllByRecursion (IsEntry flags) left
  pub numbers_are : numbers ≡ map (key_number flags) before ++ map (key_number flags) left
  pub count : length before ≡ i
  pub keys_are : keys ≡ initial ++ map (key_number flags) before
  pub stands : Stands file place (entries_bytes left) end

-- the same for any entries that were passed
abbrev pub Lists : (file : List ℕ) (at : ℕ) (flags : List ℕ) (count : ℕ) (initial keys : List ℕ) (i place : ℕ) → Type 0
Lists file at flags count initial keys i place = (numbers : List ℕ) (end : ℕ) → HasEntries file at flags numbers end → length numbers ≡ count → ListedSoFar file flags numbers end initial keys i place

pub Lists-none : (file : List ℕ) (at : ℕ) (flags : List ℕ) (count : ℕ) (initial : List ℕ) → Lists file at flags count initial initial 0 at
Lists-none file at flags count initial = λ numbers end so many. record {
  before = [];
  left = so.entries;
  each = recursion_from_All (IsEntry flags) so.entries so.each;
  numbers_are = so.keys_are;
  count = refl;
  keys_are = sym (append-nil initial);
  stands = so.stand;
}

module _ (file flags numbers : List ℕ) (end : ℕ) (initial keys : List ℕ) (i place : ℕ) where
  pub one_left : (so : ListedSoFar file flags numbers end initial keys i place) → i < length numbers → (entry : Entry) × (others : List Entry) × (so.left ≡ entry ∷ others) × IsEntry flags entry
      × (drop place file ≡ entry_bytes entry ++ (entries_bytes others ++ drop end file)) × AllByRecursion (IsEntry flags) others
  one_left so lt = by so.left refl so.each so.stands
    where
      by : (left : List Entry) → so.left ≡ left → AllByRecursion (IsEntry flags) left → Stands file place (entries_bytes left) end → (entry : Entry) × (others : List Entry) × (so.left ≡ entry ∷ others) × IsEntry flags entry
          × (drop place file ≡ entry_bytes entry ++ (entries_bytes others ++ drop end file)) × AllByRecursion (IsEntry flags) others
      by [] is each stands =
          absurd (omega (arith, lt, so.count, ap length so.numbers_are, length-append (map (key_number flags) so.before) (map (key_number flags) so.left), length-map so.before (key_number flags), length-map so.left (key_number flags), ap length is))
      by (entry ∷ others) is each stands = (entry, others, is, each.0, stands.spelled ∙ append_assoc (entry_bytes entry) (entries_bytes others) (drop end file), each.1)

  -- an entry begins there
  pub entry_there : (so : ListedSoFar file flags numbers end initial keys i place) → i < length numbers → HasEntry file place
  entry_there so lt =
      let next = one_left so lt in
      let rest = entries_bytes next.1 ++ drop end file in
      HasEntry-entry file place next.0 rest (omega (arith, ap length next.4, length-append (entry_bytes next.0) rest, entry_bytes_some next.0, length-drop place file)) next.4

  -- one more number is listed
  pub ListedSoFar-next : (so : ListedSoFar file flags numbers end initial keys i place) → i < length numbers → (seen : FlaggedEntry) (number to : ℕ) (grown : List ℕ) → seen.flags ≡ flags
      → Stands file place (entry_bytes seen.entry) to → ((entry : Entry) (rest : List ℕ) → IsEntry flags entry → drop place file ≡ entry_bytes entry ++ rest → seen.entry ≡ entry)
      → number ≡ number_of (key_of seen.flags seen.entry.change) → grown ≡ keys ++ number ∷ [] → ListedSoFar file flags numbers end initial grown (i + 1) to
  ListedSoFar-next so lt seen number to grown flags_are stands only number_is grown_is =
      let next = one_left so lt in
      let entry = next.0 in
      let others = next.1 in
      let same : seen.entry ≡ entry = only entry _ next.3 next.4 in
      let own : number ≡ key_number flags entry = number_is ∙ ap (λ (fs : List ℕ). number_of (key_of fs seen.entry.change)) flags_are ∙ ap (key_number flags) same in
      let more : map (key_number flags) (so.before ++ entry ∷ []) ≡ map (key_number flags) so.before ++ key_number flags entry ∷ [] = map-append (key_number flags) so.before (entry ∷ []) in record {
        before = so.before ++ entry ∷ [];
        left = others;
        each = next.5;
        numbers_are = so.numbers_are ∙ ap (λ (es : List Entry). map (key_number flags) so.before ++ map (key_number flags) es) next.2
            ∙ sym (append_assoc (map (key_number flags) so.before) (key_number flags entry ∷ []) (map (key_number flags) others)) ∙ ap (λ (ns : List ℕ). ns ++ map (key_number flags) others) (sym more);
        count = omega (arith, so.count, length-append so.before (entry ∷ []));
        keys_are = grown_is ∙ ap (λ (ns : List ℕ). ns ++ number ∷ []) so.keys_are ∙ append_assoc initial (map (key_number flags) so.before) (number ∷ []) ∙ ap (λ (n : ℕ). initial ++ (map (key_number flags) so.before ++ n ∷ [])) own
            ∙ ap (λ (ns : List ℕ). initial ++ ns) (sym more);
        stands = record {
          spelled = rest_is file place to (entry_bytes seen.entry) (entries_bytes others ++ drop end file) stands (next.4 ∙ ap (λ (e : Entry). entry_bytes e ++ (entries_bytes others ++ drop end file)) (sym same));
          within = so.stands.within;
        };
      }

  -- all of them are listed
  pub ListedSoFar-all : (so : ListedSoFar file flags numbers end initial keys i place) → length numbers ≤ i → keys ≡ initial ++ numbers
  ListedSoFar-all so le = by so.left refl
    where
      by : (left : List Entry) → so.left ≡ left → keys ≡ initial ++ numbers
      by [] is =
          let all : numbers ≡ map (key_number flags) so.before = so.numbers_are ∙ ap (λ (es : List Entry). map (key_number flags) so.before ++ map (key_number flags) es) is ∙ append-nil (map (key_number flags) so.before) in
          so.keys_are ∙ ap (λ (ns : List ℕ). initial ++ ns) (sym all)
      by (entry ∷ others) is =
          absurd (omega (arith, le, so.count, ap length so.numbers_are, length-append (map (key_number flags) so.before) (map (key_number flags) so.left), length-map so.before (key_number flags), length-map so.left (key_number flags), ap length is))
