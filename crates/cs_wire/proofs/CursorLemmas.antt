-- What a file begins with, one item after another.
use Rattle.std.proofs.Common.{◌≡◌, ◌≢◌, ℕ, suc, ◌-◌, ◌<◌, ◌≤◌, set, Bool, true, false, List, [], ◌∷◌, ◌++◌, length, drop, get_or, refl, sym, ap, subst, ◌∙◌, append_assoc, arith, length-append, inl, inr}
use Rattle.std.specs.Prelude.{All, slice_get, nat_eq, Option, Some, None, Result, Ok, Err, IfErr}
use Rattle.cs_value.specs.Refusals.{Refuses}
use Rattle.cs_value.specs.declared.refusal.OrNoMemory.{OrNoMemory}
use Rattle.cs_value.specs.declared.refusal.OrNoMemory.TheVariants.{Fault, NoMemory}
use Rattle.cs_wire_entries.specs.declared.fault.ReadFault.{ReadFault}
use Rattle.cs_wire.specs.declared.item.Item.{Item}
use Rattle.std.proofs.lemmas.Bool.{ne_eqb, eqb-true}
use Rattle.std.proofs.lemmas.List.{append-nil, drop_all, get_or_at, get_or_append_left, length-drop, map-append, nil_from_length}
use Rattle.std.proofs.lemmas.List.Concat.{flat_map-append}
use Rattle.std.proofs.lemmas.List.Elements.{All-push, All-nil}
use Rattle.std.proofs.lemmas.List.Quantifiers.{all_pairs_push}
use Rattle.cs_wire_entries.specs.declared.entry.Entry.{Entry}
use Rattle.cs_wire_entries.specs.Entry.{IsEntry, key_of, entry_bytes}
use Rattle.cs_wire_entries.specs.Changeset.{HeaderData, GroupData, IsNewKey, IsNewName, IsHeader, IsGroup, IsChangeset, IsAccepted, IsFileOf, header_bytes, entries_bytes, group_bytes, file_bytes}
use Rattle.cs_wire_entries.specs.ReadFaults.{Stands, HasEntry, EntryStart, ReadFails}
use Rattle.cs_wire_entries.specs.declared.fault.ReadFaultKind.TheVariants.{EmptyGroup}
use Rattle.cs_wire.specs.Cursor.{IsBegun, IsEnd, IsOpen, Begins, ending_of, with_entry, last_flags}
use Rattle.cs_wire_entries.specs.Views.{group_keys, group_names}
use Rattle.cs_wire.specs.Walk.{WalkData, Knows, GoesOn, IsInTable, IsWalk}
use Rattle.cs_wire.proofs.IndexLemmas.{Adds, Knows-again, Knows-none, Knows-push}
use Rattle.cs_wire_entries.proofs.ReadingLemmas.{Stands-then, Stands-moves, rest_is, flags_some}
use Rattle.cs_wire.proofs.EntriesLemmas.{HasEntry-entry, not_ended}
use Rattle.cs_wire_entries.proofs.EntryLemmas.{entry_bytes_some}
use Rattle.cs_wire.proofs.GroupLemmas.{HasOtherKey, IsChangeset-push}
use Rattle.cs_wire.proofs.GroupsLemmas.{group_bytes_some, group_first, EntryStart-none}

-- ---- groups, the last of them perhaps without an entry yet

IsBegun-group : (group : GroupData) → IsGroup group → IsBegun group
IsBegun-group group is = record { header = is.header; each = is.each; once = is.once }

pub IsOpen-changeset : (groups : List GroupData) → IsChangeset groups → IsOpen groups
IsOpen-changeset groups is = record {
  each = λ k d lt. IsBegun-group (get_or groups k d) (is.each k d lt);
  some = λ i j d lt in_list. (is.each i d (omega (arith, lt, in_list))).some;
  once = is.once;
}

pub IsOpen-last : (groups : List GroupData) (last : GroupData) → IsChangeset groups → IsBegun last → IsNewName groups last.header.name → IsOpen (groups ++ last ∷ [])
IsOpen-last groups last are is new =
    let begun = IsOpen-changeset groups are in record {
      each = All-push IsBegun groups last begun.each is;
      some = all_pairs_push (λ (g h : GroupData). 0 < length g.entries) groups last begun.some (λ k d lt. (are.each k d lt).some);
      once = all_pairs_push (λ (g h : GroupData). g.header.name ≢ h.header.name) groups last begun.once (λ k d lt. new k d lt);
    }

-- the file of a changeset begins with it, up to the end
pub Begins-whole : (file : List ℕ) (groups : List GroupData) → IsChangeset groups → file ≡ file_bytes groups → Begins file (length file) groups
Begins-whole file groups are e = record {
  is_open = IsOpen-changeset groups are;
  stand = record {
    spelled = e ∙ sym (append-nil (file_bytes groups)) ∙ ap (λ (x : List ℕ). file_bytes groups ++ x) (sym (drop_all (length file) file (omega arith)));
    within = omega arith;
  };
}

-- ---- what comes after groups

rest_behind : (file : List ℕ) (place to : ℕ) (groups others all : List GroupData) → Stands file 0 (file_bytes groups) place → Stands file 0 (file_bytes all) to → all ≡ groups ++ others
    → drop place file ≡ file_bytes others ++ drop to file
rest_behind file place to groups others all here there is =
    let regrouped : file_bytes all ++ drop to file ≡ file_bytes groups ++ (file_bytes others ++ drop to file) =
    rw (is, flat_map-append group_bytes groups others) (append_assoc (file_bytes groups) (file_bytes others) (drop to file)) in
    rest_is file 0 place (file_bytes groups) (file_bytes others ++ drop to file) here (there.spelled ∙ regrouped)

-- nothing is between two groups' ends at one place
pub no_others : (file : List ℕ) (place : ℕ) (groups others all : List GroupData) → Stands file 0 (file_bytes groups) place → Stands file 0 (file_bytes all) place → all ≡ groups ++ others → others ≡ []
no_others file place groups [] all here there is = refl
no_others file place groups (group ∷ others) all here there is =
    absurd (omega (arith, ap length (rest_behind file place place groups (group ∷ others) all here there is), length-append (file_bytes (group ∷ others)) (drop place file), length-append (group_bytes group) (file_bytes others), group_bytes_some group))

-- the group after others
at_seam : (groups others all : List GroupData) (group d : GroupData) → all ≡ groups ++ group ∷ others → get_or all (length groups) d ≡ group
at_seam groups others all group d is = rw is (get_or_at groups group others d (length groups) refl)

in_list : (groups others all : List GroupData) (group : GroupData) → all ≡ groups ++ group ∷ others → length groups < length all
in_list groups others all group is = omega (arith, ap length is, length-append groups (group ∷ others))

pub begun_behind : (groups others all : List GroupData) (group : GroupData) → IsOpen all → all ≡ groups ++ group ∷ others → IsBegun group
begun_behind groups others all group are is = rw (at_seam groups others all group group is) at (are.each (length groups) group (in_list groups others all group is))

pub new_behind : (groups others all : List GroupData) (group : GroupData) → IsOpen all → all ≡ groups ++ group ∷ others → IsNewName groups group.header.name
new_behind groups others all group are is = λ k d lt same.
    let before : get_or all k d ≡ get_or groups k d = rw is (get_or_append_left groups (group ∷ others) d k lt) in
    are.once k (length groups) d lt (in_list groups others all group is) (ap (λ (g : GroupData). g.header.name) before ∙ same ∙ ap (λ (g : GroupData). g.header.name) (sym (at_seam groups others all group d is)))

-- ---- the group that is open

open_group : HeaderData → List Entry → GroupData
open_group header entries = record { header = header; entries = entries }

-- one more entry in the last group
pub with_entry-last : (groups : List GroupData) (header : HeaderData) (entries : List Entry) (entry : Entry)
    → with_entry (groups ++ record { header = header; entries = entries } ∷ []) entry ≡ groups ++ record { header = header; entries = entries ++ entry ∷ [] } ∷ []
with_entry-last [] header entries entry = refl
with_entry-last (group ∷ []) header entries entry = refl
with_entry-last (group ∷ next ∷ groups) header entries entry = ap (λ (gs : List GroupData). group ∷ gs) (with_entry-last (next ∷ groups) header entries entry)

pub last_flags-last : (groups : List GroupData) (header : HeaderData) (entries : List Entry) → last_flags (groups ++ record { header = header; entries = entries } ∷ []) ≡ header.flags
last_flags-last [] header entries = refl
last_flags-last (group ∷ []) header entries = refl
last_flags-last (group ∷ next ∷ groups) header entries = last_flags-last (next ∷ groups) header entries

module _ (file : List ℕ) (place : ℕ) (header : HeaderData) (entries : List Entry) (start : EntryStart file place header entries) where
  open_stands : Stands file 0 (file_bytes start.groups ++ (header_bytes header ++ entries_bytes entries)) place
  open_stands = Stands-then file 0 start.from place _ _ start.start.stand start.stand

  -- the file begins with what was passed
  pub Begins-open : Begins file place (start.groups ++ record { header = header; entries = entries } ∷ [])
  unfolding group_bytes
  Begins-open = record {
    is_open = IsOpen-last start.groups _ start.start.are (record { header = start.is_header; each = start.each; once = start.once }) start.new_table;
    stand = rw (flat_map-append group_bytes start.groups (record { header = header; entries = entries } ∷ []), append-nil) open_stands;
  }

  module _ (all : List GroupData) (to : ℕ) (begins : Begins file to all) (on : GoesOn all start.groups header entries) where
    -- what comes after the entries that were passed
    pub rest_on : drop place file ≡ entries_bytes on.more ++ (file_bytes on.others ++ drop to file)
    unfolding group_bytes
    rest_on =
        let h = header_bytes header in
        let es = entries_bytes entries in
        let rest = file_bytes on.others ++ drop to file in
        let regrouped : file_bytes all ++ drop to file ≡ (file_bytes start.groups ++ (h ++ es)) ++ (entries_bytes on.more ++ rest) =
        rw (on.is, flat_map-append group_bytes start.groups (record { header = header; entries = entries ++ on.more } ∷ on.others), flat_map-append entry_bytes entries on.more) (regroup (file_bytes start.groups) h es (entries_bytes on.more) (file_bytes on.others) (drop to file)) in
        rest_is file 0 place _ (entries_bytes on.more ++ rest) open_stands (begins.stand.spelled ∙ regrouped)
      where
        regroup : (a h es more others rest : List ℕ) → (a ++ ((h ++ (es ++ more)) ++ others)) ++ rest ≡ (a ++ (h ++ es)) ++ (more ++ (others ++ rest))
        regroup a h es more others rest =
            append_assoc a ((h ++ (es ++ more)) ++ others) rest
            ∙ ap (λ (x : List ℕ). a ++ x) (append_assoc (h ++ (es ++ more)) others rest ∙ append_assoc h (es ++ more) (others ++ rest)
            ∙ ap (λ (x : List ℕ). h ++ x) (append_assoc es more (others ++ rest)) ∙ sym (append_assoc h es (more ++ (others ++ rest))))
            ∙ sym (append_assoc a (h ++ es) (more ++ (others ++ rest)))

    -- if there is no entry, there is none more
    pub no_more : (HasEntry file place → ⊥) → on.more ≡ []
    no_more none = by on.more refl
      where
        by : (more : List Entry) → on.more ≡ more → on.more ≡ []
        by [] is = is
        by (entry ∷ more) is =
            let spelled : drop place file ≡ entry_bytes entry ++ (entries_bytes more ++ (file_bytes on.others ++ drop to file)) =
            rest_on ∙ ap (λ (x : List Entry). entries_bytes x ++ (file_bytes on.others ++ drop to file)) is ∙ append_assoc (entry_bytes entry) (entries_bytes more) (file_bytes on.others ++ drop to file) in
            absurd (none (HasEntry-entry file place entry _ start.stand.within spelled))

-- ---- between tables

-- these tables were passed, and another may begin
pub record IsBetween (file : List ℕ) (place : ℕ) (groups : List GroupData) : Type 0 where
  pub are : IsChangeset groups
  pub stand : Stands file 0 (file_bytes groups) place
  pub none_before : HasEntry file place → place ≡ 0
  pub begins : (all : List GroupData) (to : ℕ) → Begins file to all → place ≤ to → (others : List GroupData) × (all ≡ groups ++ others)

pub between_start : (file : List ℕ) → IsBetween file 0 []
between_start file = record {
  are = record { each = All-nil IsGroup; once = λ i j d lt within. absurd (omega arith) };
  stand = record { spelled = refl; within = omega arith };
  none_before = λ h. refl;
  begins = λ all to begins le. (all, refl);
}

-- after a table that has an entry, if there is no other
pub between_table : (file : List ℕ) (place : ℕ) (header : HeaderData) (entries : List Entry) (start : EntryStart file place header entries)
    → ((all : List GroupData) (to : ℕ) → Begins file to all → place ≤ to → GoesOn all start.groups header entries) → 0 < length entries → (HasEntry file place → ⊥)
    → IsBetween file place (start.groups ++ record { header = header; entries = entries } ∷ [])
between_table file place header entries start begins some none =
    let group : GroupData = record { header = header; entries = entries } in record {
      are = IsChangeset-push start.groups group start.start.are (record { header = start.is_header; some = some; each = start.each; once = start.once }) start.new_table;
      stand = (Begins-open file place header entries start).stand;
      none_before = λ h. absurd (none h);
      begins = λ all to b le.
          let on = begins all to b le in
          let last : on.more ≡ [] = no_more file place header entries start all to b on none in
          let same : entries ++ on.more ≡ entries = ap (λ (x : List Entry). entries ++ x) last ∙ append-nil entries in
          (on.others, on.is ∙ ap (λ (x : List Entry). start.groups ++ record { header = header; entries = x } ∷ on.others) same ∙ sym (append_assoc start.groups (group ∷ []) on.others));
    }

module _ (file : List ℕ) (place : ℕ) (groups : List GroupData) (so : IsBetween file place groups) where
  -- what begins the file up to this place is what was passed
  pub same_between : (all : List GroupData) → Begins file place all → all ≡ groups
  same_between all b =
      let on = so.begins all place b (omega arith) in
      on.1 ∙ ap (λ (x : List GroupData). groups ++ x) (no_others file place groups on.0 all so.stand b.stand on.1) ∙ append-nil groups

  -- the next header, if the file begins with something after this place
  pub record HasHeader (all : List GroupData) (to : ℕ) : Type 0 where
    pub group : GroupData
    pub others : List GroupData
    pub rest : List ℕ
    pub is : all ≡ groups ++ group ∷ others
    pub begun : IsBegun group
    pub fresh : IsNewName groups group.header.name
    pub spelled : drop place file ≡ header_bytes group.header ++ rest

  pub has_header : (all : List GroupData) (to : ℕ) → Begins file to all → place < to → HasHeader all to
  unfolding group_bytes
  has_header all to b lt =
      let on = so.begins all to b (omega (arith, lt)) in
      by on.0 on.1
    where
      by : (others : List GroupData) → all ≡ groups ++ others → HasHeader all to
      by [] is = absurd (omega (arith, lt, ap length (rest_behind file place to groups [] all so.stand b.stand is), length-drop place file, length-drop to file, b.stand.within))
      by (group ∷ others) is = record {
        group = group;
        others = others;
        rest = entries_bytes group.entries ++ (file_bytes others ++ drop to file);
        is = is;
        begun = begun_behind groups others all group b.is_open is;
        fresh = new_behind groups others all group b.is_open is;
        spelled = rest_behind file place to groups (group ∷ others) all so.stand b.stand is
            ∙ append_assoc (header_bytes group.header ++ entries_bytes group.entries) (file_bytes others) (drop to file)
            ∙ append_assoc (header_bytes group.header) (entries_bytes group.entries) (file_bytes others ++ drop to file);
      }

  -- where no header is read the file is refused
  pub table_refused : place < length file → ((header : HeaderData) (rest : List ℕ) → IsHeader header → drop place file ≡ header_bytes header ++ rest → ⊥) → IsAccepted file → ⊥
  table_refused lt none accepted =
      let x = has_header accepted.0 (length file) (Begins-whole file accepted.0 accepted.1 accepted.2) lt in
      none x.group.header x.rest x.begun.header x.spelled

  module _ (header : HeaderData) (only : (h : HeaderData) (rest : List ℕ) → IsHeader h → drop place file ≡ header_bytes h ++ rest → header ≡ h) where
    -- a header that is read is the next one
    pub table_goes_on : (all : List GroupData) (to : ℕ) → Begins file to all → place < to → GoesOn all groups header []
    table_goes_on all to b lt =
        let x = has_header all to b lt in
        let same = only x.group.header x.rest x.begun.header x.spelled in record {
          more = x.group.entries;
          others = x.others;
          is = x.is ∙ ap (λ (h : HeaderData). groups ++ record { header = h; entries = x.group.entries } ∷ x.others) (sym same);
        }

    -- that of a table that was passed refuses the file
    pub table_again : place < length file → (IsNewName groups header.name → ⊥) → IsAccepted file → ⊥
    table_again lt old accepted =
        let x = has_header accepted.0 (length file) (Begins-whole file accepted.0 accepted.1 accepted.2) lt in
        let same = only x.group.header x.rest x.begun.header x.spelled in
        old (rw same x.fresh)

-- ---- inside a table

module _ (file : List ℕ) (place : ℕ) (header : HeaderData) (entries : List Entry) (start : EntryStart file place header entries)
    (begins : (all : List GroupData) (to : ℕ) → Begins file to all → place ≤ to → GoesOn all start.groups header entries) where
  -- what begins the file up to this place is what was passed
  pub same_open : (all : List GroupData) → Begins file place all → all ≡ start.groups ++ record { header = header; entries = entries } ∷ []
  same_open all b =
      let on = begins all place b (omega arith) in
      by on.more on.others on.is (rest_on file place header entries start all place b on)
    where
      by : (more : List Entry) (others : List GroupData) → all ≡ start.groups ++ record { header = header; entries = entries ++ more } ∷ others
          → drop place file ≡ entries_bytes more ++ (file_bytes others ++ drop place file) → all ≡ start.groups ++ record { header = header; entries = entries } ∷ []
      by [] [] is e = is ∙ ap (λ (x : List Entry). start.groups ++ record { header = header; entries = x } ∷ []) (append-nil entries)
      by [] (group ∷ others) is e = absurd (omega (arith, ap length e, length-append (group_bytes group ++ file_bytes others) (drop place file), length-append (group_bytes group) (file_bytes others), group_bytes_some group))
      by (entry ∷ more) others is e =
          absurd (omega (arith, ap length e, length-append (entry_bytes entry ++ entries_bytes more) (file_bytes others ++ drop place file), length-append (entry_bytes entry) (entries_bytes more), entry_bytes_some entry, length-append (file_bytes others) (drop place file)))

  -- the next entry, if there is one here, and the file begins with something after this place
  pub record HasNext (all : List GroupData) (to : ℕ) : Type 0 where
    pub entry : Entry
    pub more : List Entry
    pub others : List GroupData
    pub rest : List ℕ
    pub is : all ≡ start.groups ++ record { header = header; entries = entries ++ entry ∷ more } ∷ others
    pub is_entry : IsEntry header.flags entry
    pub fresh : IsNewKey header.flags entries (key_of header.flags entry.change)
    pub spelled : drop place file ≡ entry_bytes entry ++ rest

  pub has_next : HasEntry file place → (all : List GroupData) (to : ℕ) → Begins file to all → place < to → HasNext all to
  has_next here all to b lt =
      let on = begins all to b (omega (arith, lt)) in
      by on.more on.others on.is (rest_on file place header entries start all to b on)
    where
      by : (more : List Entry) (others : List GroupData) → all ≡ start.groups ++ record { header = header; entries = entries ++ more } ∷ others
          → drop place file ≡ entries_bytes more ++ (file_bytes others ++ drop to file) → HasNext all to
      by [] [] is e = absurd (omega (arith, lt, ap length e, length-drop place file, length-drop to file, b.stand.within))
      by [] (group ∷ others) is e =
          let first = group_first group (file_bytes others ++ drop to file) in
          absurd (not_ended file place here (inr (ap (λ (x : List ℕ). slice_get x 0) (e ∙ append_assoc (group_bytes group) (file_bytes others) (drop to file)) ∙ first)))
      by (entry ∷ more) others is e =
          let all_entries = entries ++ entry ∷ more in
          let begun = begun_behind start.groups others all (record { header = header; entries = all_entries }) b.is_open is in
          let within : length entries < length all_entries = omega (arith, length-append entries (entry ∷ more)) in
          let here_is : (d : Entry) → get_or all_entries (length entries) d ≡ entry = λ d. get_or_at entries entry more d (length entries) refl in record {
            entry = entry;
            more = more;
            others = others;
            rest = entries_bytes more ++ (file_bytes others ++ drop to file);
            is = is;
            is_entry = rw (here_is entry) at (begun.each (length entries) entry within);
            fresh = λ k d k_lt same.
                let before : get_or all_entries k d ≡ get_or entries k d = get_or_append_left entries (entry ∷ more) d k k_lt in
                begun.once k (length entries) d k_lt within (ap (λ (x : Entry). key_of header.flags x.change) before ∙ same ∙ ap (λ (x : Entry). key_of header.flags x.change) (sym (here_is d)));
            spelled = e ∙ append_assoc (entry_bytes entry) (entries_bytes more) (file_bytes others ++ drop to file);
          }

  -- where no entry is read the file is refused
  pub entry_refused : HasEntry file place → ((entry : Entry) (rest : List ℕ) → IsEntry header.flags entry → drop place file ≡ entry_bytes entry ++ rest → ⊥) → IsAccepted file → ⊥
  entry_refused here none accepted =
      let x = has_next here accepted.0 (length file) (Begins-whole file accepted.0 accepted.1 accepted.2) here.within in
      none x.entry x.rest x.is_entry x.spelled

  -- a table without an entry refuses the file
  pub bare_refused : length entries ≡ 0 → (HasEntry file place → ⊥) → IsAccepted file → ⊥
  bare_refused bare none accepted =
      let b = Begins-whole file accepted.0 accepted.1 accepted.2 in
      let on = begins accepted.0 (length file) b start.stand.within in
      let last : on.more ≡ [] = no_more file place header entries start accepted.0 (length file) b on none in
      let group : GroupData = record { header = header; entries = entries ++ on.more } in
      let some : 0 < length (entries ++ on.more) = (rw (at_seam start.groups on.others accepted.0 group group on.is) at (accepted.1.each (length start.groups) group (in_list start.groups on.others accepted.0 group on.is))).some in
      omega (arith, bare, some, length-append entries on.more, ap length last)

  module _ (entry : Entry) (only : (e : Entry) (rest : List ℕ) → IsEntry header.flags e → drop place file ≡ entry_bytes e ++ rest → entry ≡ e) where
    -- an entry that is read is the next one
    pub entry_goes_on : HasEntry file place → (all : List GroupData) (to : ℕ) → Begins file to all → place < to → GoesOn all start.groups header (entries ++ entry ∷ [])
    entry_goes_on here all to b lt =
        let x = has_next here all to b lt in
        let same = only x.entry x.rest x.is_entry x.spelled in record {
          more = x.more;
          others = x.others;
          is = x.is ∙ ap (λ (es : List Entry). start.groups ++ record { header = header; entries = es } ∷ x.others)
              (ap (λ (e : Entry). entries ++ e ∷ x.more) (sym same) ∙ sym (append_assoc entries (entry ∷ []) x.more));
        }

    -- one of a key that was passed refuses the file
    pub entry_again : HasEntry file place → (IsNewKey header.flags entries (key_of header.flags entry.change) → ⊥) → IsAccepted file → ⊥
    entry_again here old accepted =
        let x = has_next here accepted.0 (length file) (Begins-whole file accepted.0 accepted.1 accepted.2) here.within in
        let same = only x.entry x.rest x.is_entry x.spelled in
        old (rw same x.fresh)

  -- after the next entry
  abbrev pub EntryStart-push : (entry : Entry) (next : ℕ) → IsEntry header.flags entry → IsNewKey header.flags entries (key_of header.flags entry.change) → Stands file place (entry_bytes entry) next
      → EntryStart file next header (entries ++ entry ∷ [])
  EntryStart-push entry next is fresh stands = record {
    from = start.from;
    groups = start.groups;
    start = start.start;
    is_header = start.is_header;
    new_table = start.new_table;
    each = All-push (IsEntry header.flags) entries entry start.each is;
    once = all_pairs_push (HasOtherKey header.flags) entries entry start.once (λ k d lt. fresh k d lt);
    stand = rw (flat_map-append entry_bytes entries (entry ∷ []), append-nil, ← append_assoc (header_bytes header) (entries_bytes entries) (entry_bytes entry))
        (Stands-then file start.from place next _ (entry_bytes entry) start.stand stands);
  }

-- ---- a step of a walk

-- between tables, if no header is open, or one that has an entry, and no other is here
pub between : (file : List ℕ) (place : ℕ) (flags : List ℕ) (is_bare : Bool) (names keys : List (List ℕ)) → IsWalk file place flags is_bare names keys → is_bare ≡ false → (0 < length flags → HasEntry file place → ⊥)
    → (groups : List GroupData) × IsBetween file place groups × Knows names (group_names groups)
between file place flags is_bare names keys (inl start) bare none = ([], rw start.place_is (between_start file), start.knows_names)
between file place flags is_bare names keys (inr table) bare none =
    let flags_some : 0 < length flags = rw table.flags_are (flags_some table.header.flags table.start.is_header.flags) in
    let some : 0 < length table.entries = not_empty table.entries (sym table.bare ∙ bare) in
    let group : GroupData = record { header = table.header; entries = table.entries } in (
      table.start.groups ++ group ∷ [],
      between_table file place table.header table.entries table.start table.begins some (none flags_some),
      rw (map-append (λ (g : GroupData). g.header.name) table.start.groups (group ∷ [])) table.knows_names,
    )
  where
    not_empty : (entries : List Entry) → nat_eq (length entries) 0 ≡ false → 0 < length entries
    not_empty [] e = cc
    not_empty (entry ∷ entries) e = omega arith

-- a header that is passed opens its table
pub pass_header : (file : List ℕ) (place : ℕ) (names new keys : List (List ℕ)) (groups : List GroupData) → IsBetween file place groups → Knows names (group_names groups)
    → (header : HeaderData) (next : ℕ) → IsHeader header → Stands file place (header_bytes header) next → place < next
    → ((h : HeaderData) (rest : List ℕ) → IsHeader h → drop place file ≡ header_bytes h ++ rest → header ≡ h)
    → IsNewName groups header.name → Adds header.name names new → keys ≡ []
    → IsInTable file next header.flags true new keys
pass_header file place names new keys groups so knows header next is stands moves only fresh new_is keys_are = record {
  header = header;
  entries = [];
  start = EntryStart-none file place next groups header (record { are = so.are; stand = so.stand }) is fresh stands;
  flags_are = refl;
  bare = refl;
  knows_names = Knows-push names new (group_names groups) header.name knows new_is;
  knows_keys = rw keys_are Knows-none;
  begins = λ all to b le. table_goes_on file place groups so header only all to b (omega (arith, moves, le));
}

-- a header takes a byte
pub header_moves : (file : List ℕ) (place next : ℕ) (header : HeaderData) → Stands file place (header_bytes header) next → place < length file → place < next
unfolding header_bytes
header_moves file place next header stands within = Stands-moves file place next (header_bytes header) stands (omega arith) within

-- ---- a step inside a table

-- the table that is open
pub in_table : (file : List ℕ) (place : ℕ) (flags : List ℕ) (is_bare : Bool) (names keys : List (List ℕ)) → IsWalk file place flags is_bare names keys → 0 < length flags → IsInTable file place flags is_bare names keys
in_table file place flags is_bare names keys (inl start) some = absurd (omega (arith, some, ap length start.no_table))
in_table file place flags is_bare names keys (inr table) some = table

module _ (file : List ℕ) (place : ℕ) (flags : List ℕ) (is_bare : Bool) (names keys : List (List ℕ)) (so : IsInTable file place flags is_bare names keys) where
  -- an entry that is passed is the last of the table
  pub pass_entry : (entry : Entry) (next : ℕ) (new : List (List ℕ)) → HasEntry file place → IsEntry flags entry → Stands file place (entry_bytes entry) next
      → ((e : Entry) (rest : List ℕ) → IsEntry flags e → drop place file ≡ entry_bytes e ++ rest → entry ≡ e)
      → IsNewKey so.header.flags so.entries (key_of so.header.flags entry.change) → Adds (key_of flags entry.change) keys new → IsInTable file next flags false names new
  pass_entry entry next new here is stands only fresh new_is =
      let moves = Stands-moves file place next (entry_bytes entry) stands (entry_bytes_some entry) here.within in
      let under = so.flags_are in record {
        header = so.header;
        entries = so.entries ++ entry ∷ [];
        start = EntryStart-push file place so.header so.entries so.start so.begins entry next (rw under at is) fresh stands;
        flags_are = under;
        bare = not_bare so.entries;
        knows_names = so.knows_names;
        knows_keys = rw (map-append (λ (e : Entry). key_of so.header.flags e.change) so.entries (entry ∷ [])) (Knows-push keys new (group_keys so.header.flags so.entries) (key_of so.header.flags entry.change) so.knows_keys (rw under at new_is));
        begins = λ all to b le. entry_goes_on file place so.header so.entries so.start so.begins entry (rw under at only) here all to b (omega (arith, moves, le));
      }
    where
      not_bare : (entries : List Entry) → false ≡ nat_eq (length (entries ++ entry ∷ [])) 0
      not_bare [] = refl
      not_bare (e ∷ entries) = sym (ne_eqb (suc (length (entries ++ entry ∷ []))) 0 (omega arith))

  -- it is of its table, and the file begins with what was passed
  pub passed_entry : (entry : Entry) (next : ℕ) → IsEntry flags entry → Stands file place (entry_bytes entry) next → IsNewKey so.header.flags so.entries (key_of so.header.flags entry.change)
      → (groups : List GroupData) → Begins file place groups → ((0 < length groups) × (flags ≡ last_flags groups)) × Begins file next (with_entry groups entry)
  passed_entry entry next is stands fresh groups begins =
      let same = same_open file place so.header so.entries so.start so.begins groups begins in
      let start = EntryStart-push file place so.header so.entries so.start so.begins entry next (rw so.flags_are at is) fresh stands in
      let grown = ap (λ (gs : List GroupData). with_entry gs entry) same ∙ with_entry-last so.start.groups so.header so.entries entry in (
        (
          omega (arith, ap length same, length-append so.start.groups (record { header = so.header; entries = so.entries } ∷ [])),
          so.flags_are ∙ sym (ap last_flags same ∙ last_flags-last so.start.groups so.header so.entries),
        ),
        subst (λ (gs : List GroupData). Begins file next gs) (sym grown) (Begins-open file next so.header (so.entries ++ entry ∷ []) start),
      )

-- ---- what was met before

-- a table whose name was met
pub name_again : (file : List ℕ) (place : ℕ) (flags : List ℕ) (is_bare : Bool) (names keys grown : List (List ℕ)) (name : List ℕ) → IsWalk file place flags is_bare names keys
    → Adds name names grown → (All (λ t. t ≢ name) names → ⊥) → IsWalk file place flags is_bare grown keys
name_again file place flags is_bare names keys grown name (inl start) adds known = inl (record {
  place_is = start.place_is;
  no_table = start.no_table;
  no_bare = start.no_bare;
  knows_names = Knows-again names grown [] name start.knows_names adds known;
})
name_again file place flags is_bare names keys grown name (inr table) adds known = inr (record {
  header = table.header;
  entries = table.entries;
  start = table.start;
  flags_are = table.flags_are;
  bare = table.bare;
  knows_names = Knows-again names grown (group_names table.start.groups ++ table.header.name ∷ []) name table.knows_names adds known;
  knows_keys = table.knows_keys;
  begins = table.begins;
})

-- an entry whose key was met
pub key_again : (file : List ℕ) (place : ℕ) (flags : List ℕ) (is_bare : Bool) (names keys grown : List (List ℕ)) (key : List ℕ) → IsInTable file place flags is_bare names keys
    → Adds key keys grown → (All (λ t. t ≢ key) keys → ⊥) → IsInTable file place flags is_bare names grown
key_again file place flags is_bare names keys grown key table adds known = record {
  header = table.header;
  entries = table.entries;
  start = table.start;
  flags_are = table.flags_are;
  bare = table.bare;
  knows_names = table.knows_names;
  knows_keys = Knows-again keys grown (group_keys table.header.flags table.entries) key table.knows_keys adds known;
  begins = table.begins;
}

-- ---- where a walk ends

-- a table without an entry
pub bare_fails : (file : List ℕ) (place : ℕ) (flags : List ℕ) (is_bare : Bool) (names keys : List (List ℕ)) → IsWalk file place flags is_bare names keys → is_bare ≡ true → (0 < length flags → HasEntry file place → ⊥)
    → ReadFails file EmptyGroup place
bare_fails file place flags is_bare names keys (inl start) bare none = absurd (not_both (sym start.no_bare ∙ bare))
  where
    not_both : false ≡ true → ⊥
    not_both e = cc
bare_fails file place flags is_bare names keys (inr table) bare none =
    let some : 0 < length flags = rw table.flags_are (flags_some table.header.flags table.start.is_header.flags) in
    let no_entry = none some in
    let empty : length table.entries ≡ 0 = eqb-true (length table.entries) 0 (sym table.bare ∙ bare) in
    let nothing : table.entries ≡ [] = nil_from_length table.entries empty in record {
      refused = bare_refused file place table.header table.entries table.start table.begins empty no_entry;
      case = record { header = table.header; start = subst (λ (es : List Entry). EntryStart file place table.header es) nothing table.start; no_entry = no_entry };
    }

-- the end of the file
pub ends_whole : (file : List ℕ) (place : ℕ) (flags : List ℕ) (is_bare : Bool) (names keys : List (List ℕ)) → IsWalk file place flags is_bare names keys → is_bare ≡ false → (0 < length flags → HasEntry file place → ⊥)
    → length file ≤ place → (groups : List GroupData) → Begins file place groups → IsFileOf file groups
ends_whole file place flags is_bare names keys so bare none le groups begins =
    let b = between file place flags is_bare names keys so bare none in
    let same = same_between file place b.0 b.1 groups begins in (
      rw same b.1.are,
      begins.stand.spelled ∙ ap (λ (x : List ℕ). file_bytes groups ++ x) (drop_all place file le) ∙ append-nil (file_bytes groups),
    )

-- what is known where a walk answers the end, or a fault
pub next_ends : (old new : WalkData) (answer : Result (Option Item) (OrNoMemory ReadFault)) → (answer ≡ Ok None → new ≡ old) → new.file ≡ old.file
    → ((groups : List GroupData) → Begins old.file old.place groups → answer ≡ Ok None → IsFileOf new.file groups)
    → IfErr answer (Refuses (λ f. ReadFails old.file f.kind f.place)) → IsEnd new.file new.place (ending_of answer)
next_ends old new (Ok None) stays same end fails = λ groups begins. end groups (subst (λ (w : WalkData). Begins w.file w.place groups) (stays refl) begins) refl
next_ends old new (Ok (Some item)) stays same end fails = tt
next_ends old new (Err (Fault fault)) stays same end fails = subst (λ (file : List ℕ). ReadFails file fault.kind fault.place) (sym same) fails
next_ends old new (Err NoMemory) stays same end fails = tt

-- before the first item
pub Begins-none : (file : List ℕ) → Begins file 0 []
Begins-none file = record {
  is_open = IsOpen-changeset [] (between_start file).are;
  stand = (between_start file).stand;
}

-- the last group with one more entry, if it is there
pub set_last : (groups : List GroupData) (count : ℕ) (last grown : GroupData) (entry : Entry) → count ≡ length groups → 0 < length groups → last ≡ get_or groups (count - 1) last
    → grown ≡ record { header = last.header; entries = last.entries ++ entry ∷ [] } → set groups (count - 1) grown ≡ with_entry groups entry
set_last [] count last grown entry counted some is grown_is = absurd (omega (arith, some))
set_last (group ∷ []) count last grown entry counted some is grown_is =
    let first : count - 1 ≡ 0 = omega (arith, counted) in
    rw (first, grown_is, rw first at is) refl
set_last (group ∷ next ∷ groups) count last grown entry counted some is grown_is =
    let back : count - 1 ≡ suc ((count - 1) - 1) = omega (arith, counted) in
    rw back (ap (λ (gs : List GroupData). group ∷ gs) (set_last (next ∷ groups) (count - 1) last grown entry (omega (arith, counted)) (omega arith) (rw back at is) grown_is))
