-- What is written of the join of two files.
use Rattle.std.proofs.Common.{◌≡◌, ◌≢◌, ℕ, suc, ◌+◌, ◌<◌, ◌≤◌, Bool, true, false, cond, if◌then◌else◌, List, [], ◌∷◌, ◌++◌, length, length-append, get_or, take, drop, All, AllPairs, Option, Some, None, refl, sym, ap, subst, ◌∙◌, append_assoc, append-nil, arith}
use Rattle.std.specs.Prelude.{IfErr, IfOk, IfSome, MatchResult, Result, Ok, Err, filter, filter_map}
use Rattle.std.specs.List.{flat_map, cons_option}
use Rattle.std.proofs.lemmas.Grind.{flat_map-append}
use Rattle.std.proofs.Math.Seq.{take-append_seam}
use Rattle.std.proofs.lemmas.List.{get_or_default}
use Rattle.cs_value.specs.Refusals.{Refuses}
use Rattle.cs_value.specs.declared.refusal.OrNoMemory.{OrNoMemory}
use Rattle.cs_value.specs.declared.refusal.OrNoMemory.TheVariants.{Fault, NoMemory}
use Rattle.cs_wire_entries.specs.declared.fault.ReadFault.{ReadFault}
use Rattle.cs_wire_entries.specs.declared.entry.Change.TheVariants.{Insert}
use Rattle.cs_wire_entries.specs.declared.entry.Entry.{Entry}
use Rattle.cs_wire.specs.Entry.{entry_bytes, key_of}
use Rattle.cs_wire.specs.Changeset.{HeaderData, GroupData, IsAccepted, IsChangeset, IsFileOf, IsGroup, entries_bytes, file_bytes, group_bytes, header_bytes}
use Rattle.cs_file_scan.specs.Named.{NamedData, IsTableOf, AreListed, header_at, tables_at, no_table}
use Rattle.cs_file_scan.specs.Tables.{TablesData, EntriesLeft}
use Rattle.cs_wire.specs.Views.{IsIndexWhere}
use Rattle.cs_wire_entries.proofs.EntryLemmas.{entry_bytes_some}
use Rattle.cs_file_scan.proofs.NamedLemmas.{table_at, tables_length, no_group_named, group_named}
use Rattle.cs_group.specs.Joining.{AgreesWith, AreJoinable, IsJoined, is_new, if_new, joined, joined_group, key_marks, some_group, table_name, with_text}
use Rattle.cs_group.proofs.JoinLemmas.{agree_found, agrees_found, found_agrees, joined_is_changeset}
use Rattle.cs_group.proofs.JoinLengths.{join_length}
use Rattle.cs_group.proofs.TextLemmas.{with_text-none, with_text-index, with_text-found}
use Rattle.cs_wire.specs.ReadFaults.{ReadFails}
use Rattle.cs_files.specs.declared.fault.FileFault.{FileFault}
use Rattle.cs_files.specs.declared.fault.FileFault.TheVariants.{First, Second, Schema}
use Rattle.cs_files.specs.Faults.{of_second}
use Rattle.cs_files.specs.Files.{AreUnjoined, JoinFails, Joins}
use Rattle.cs_group.specs.Marks.{AreMet}
use Rattle.cs_group.proofs.MarkLemmas.{unmet_is}
use Rattle.cs_files.specs.Writing.{some_bytes, IsPartner}

-- ---- what is left of things is written in turn

module _ {X : Type 0} (bytes_of : X → List ℕ) where
  pub some_flat : {Y : Type 0} (f : Y → Option X) (ys : List Y) → flat_map (λ y. some_bytes bytes_of (f y)) ys ≡ flat_map bytes_of (filter_map f ys)
  some_flat f [] = refl
  some_flat {Y} f (y ∷ ys) = of (f y) (some_flat f ys)
    where
      others : List ℕ
      others = flat_map (λ y. some_bytes bytes_of (f y)) ys

      of : (o : Option X) → others ≡ flat_map bytes_of (filter_map f ys) → some_bytes bytes_of o ++ others ≡ flat_map bytes_of (cons_option o (filter_map f ys))
      of None so = so
      of (Some x) so = ap (λ (l : List ℕ). bytes_of x ++ l) so

  pub new_flat : (text_of : X → List ℕ) (known xs : List X) → flat_map (λ x. some_bytes bytes_of (if_new text_of known x)) xs ≡ flat_map bytes_of (filter (is_new text_of known) xs)
  new_flat text_of known [] = refl
  new_flat text_of known (x ∷ xs) = of (is_new text_of known x) (new_flat text_of known xs)
    where
      others : List ℕ
      others = flat_map (λ x. some_bytes bytes_of (if_new text_of known x)) xs

      of : (b : Bool) → others ≡ flat_map bytes_of (filter (is_new text_of known) xs)
          → some_bytes bytes_of (if b then Some x else None) ++ others ≡ flat_map bytes_of (cond b (x ∷ filter (is_new text_of known) xs) (filter (is_new text_of known) xs))
      of true so = ap (λ (l : List ℕ). bytes_of x ++ l) so
      of false so = so

-- ---- what is written of a second entry that is not marked

abbrev pub no_entry : Entry
no_entry = record { indirect = false; change = Insert [] }

pub unmet_bytes : (flags : List ℕ) (met : List Bool) (firsts seconds : List Entry) (index : ℕ) (entry : Entry) (marked : Bool) → AreMet (λ e. key_of flags e.change) met firsts seconds → index < length seconds → entry ≡ get_or seconds index entry
    → marked ≡ get_or met index false → (cond marked [] (entry_bytes entry)) ≡ some_bytes entry_bytes (if_new (λ e. key_of flags e.change) firsts entry)
unmet_bytes flags met firsts seconds index entry marked so lt is marked_is =
    by marked ∙ ap (some_bytes entry_bytes) (unmet_is (λ (e : Entry). key_of flags e.change) met firsts seconds so index entry lt is marked marked_is)
  where
    by : (m : Bool) → cond m [] (entry_bytes entry) ≡ some_bytes entry_bytes (if m then None else Some entry)
    by true = refl
    by false = refl

-- ---- a second entry that is found

pub key_there : (own key : List ℕ) (seconds : List Entry) (index : ℕ) (seen : Entry) → IsIndexWhere (λ e. e ≡ seen) seconds index → key_of own seen.change ≡ key → IsIndexWhere (λ e. key_of own e.change ≡ key) seconds index
key_there own key seconds index seen at is = record { within = at.within; holds = λ d. ap (λ (e : Entry). key_of own e.change) (at.holds d) ∙ is }

-- ---- a table with entries that are left

pub joined_none : (header : HeaderData) (out opened grown : List ℕ) (entries : List Entry) → opened ≡ out ++ header_bytes header → grown ≡ opened ++ entries_bytes entries → length grown ≡ length opened
    → take (length out) grown ≡ out ++ some_bytes group_bytes (some_group header entries)
joined_none header out opened grown [] opened_is grown_is same =
    ap (take (length out)) (grown_is ∙ append-nil opened ∙ opened_is) ∙ take-append_seam out (header_bytes header) ∙ sym (append-nil out)
joined_none header out opened grown (entry ∷ entries) opened_is grown_is same =
    absurd (omega (arith, same, ap length grown_is, length-append opened (entries_bytes (entry ∷ entries)), length-append (entry_bytes entry) (entries_bytes entries), entry_bytes_some entry))

pub joined_some : (header : HeaderData) (out opened grown : List ℕ) (entries : List Entry) → opened ≡ out ++ header_bytes header → grown ≡ opened ++ entries_bytes entries → length grown ≢ length opened
    → grown ≡ out ++ some_bytes group_bytes (some_group header entries)
unfolding group_bytes
joined_some header out opened grown [] opened_is grown_is other = absurd (other (ap length (grown_is ∙ append-nil opened)))
joined_some header out opened grown (entry ∷ entries) opened_is grown_is other =
    grown_is ∙ ap (λ (l : List ℕ). l ++ entries_bytes (entry ∷ entries)) opened_is ∙ append_assoc out (header_bytes header) (entries_bytes (entry ∷ entries))

-- ---- tables that are listed

abbrev no_group : GroupData
no_group = record { header = record { name = []; flags = [] }; entries = [] }

module _ (named : NamedData) (groups : List GroupData) (listed : AreListed named groups) (is : IsChangeset groups) (name : List ℕ) where
  pub unlisted : All (λ t. t.header.name ≢ name) named.tables → with_text table_name groups name ≡ None
  unlisted none = with_text-none table_name groups name (no_group_named named groups listed name none)

  module _ (index : ℕ) (at : IsIndexWhere (λ t. t.header.name ≡ name) named.tables index) where
    abbrev pub there : GroupData
    there = get_or groups index no_group

    pub listed_there : Some there ≡ with_text table_name groups name
    listed_there =
        let in_groups = group_named named groups listed name index at in
        with_text-index table_name groups name index there is.once in_groups (get_or_default groups index no_group there in_groups.within)

    pub table_there : IsTableOf named.file (get_or named.tables index no_table) there (drop (suc index) groups ++ [])
    table_there = table_at named.file named.tables groups [] index no_table no_group listed at.within

    pub flags_there : (header_at named index).flags ≡ there.header.flags
    flags_there = ap (λ (h : HeaderData). h.flags) table_there.header

    pub partner_there : IsPartner (Some (tables_at named index)) (with_text table_name groups name)
    partner_there = rw (← listed_there) (flags_there, (drop (suc index) groups ++ []), table_there.are_left)

    -- whether it agrees with a group of this name
    module _ (group : GroupData) (of : name ≡ group.header.name) where
      found_there : Some there ≡ with_text table_name groups group.header.name
      found_there = listed_there ∙ ap (with_text table_name groups) of

      pub agrees_there : key_marks (header_at named index).flags ≡ key_marks group.header.flags → AgreesWith groups group
      agrees_there same = agrees_found groups group there is.once found_there (ap key_marks (sym flags_there) ∙ same)

      pub there_agrees : AgreesWith groups group → key_marks (header_at named index).flags ≡ key_marks group.header.flags
      there_agrees all = ap key_marks flags_there ∙ found_agrees groups group there is.once found_there all

    -- what is asked of the group of this name
    pub asked_there : (flags : List ℕ) → IfSome (with_text table_name groups name) (λ g. key_marks g.header.flags ≡ key_marks flags) → key_marks (header_at named index).flags ≡ key_marks flags
    asked_there flags asked =
        let so : key_marks there.header.flags ≡ key_marks flags = rw (← listed_there) at asked in
        ap key_marks flags_there ∙ so

-- ---- a group of the first file, and the one of its name in the second

module _ (group : GroupData) where
  pub joined_alone : (found : Option GroupData) → IsPartner None found → joined_group group found ≡ Some group
  joined_alone None is = refl
  joined_alone (Some other) is = absurd is

-- the group whose entries these are
pub record Partner (tables : TablesData) (found : Option GroupData) : Type 0 where
  pub other : GroupData
  pub behind : List GroupData
  pub is : found ≡ Some other
  pub flags : tables.flags ≡ other.header.flags
  pub are_left : EntriesLeft tables other.entries behind

pub partner_is : (tables : TablesData) (found : Option GroupData) → IsPartner (Some tables) found → Partner tables found
partner_is tables None is = absurd is
partner_is tables (Some other) is = record { other = other; behind = is.1; is = refl; flags = is.0; are_left = is.2 }

pub partner_apart : (tables : TablesData) (groups : List GroupData) (name : List ℕ) (partner : Partner tables (with_text table_name groups name)) → IsChangeset groups
    → AllPairs (λ d e. key_of tables.flags d.change ≢ key_of tables.flags e.change) partner.other.entries
partner_apart tables groups name partner is =
    let all : IfSome (with_text table_name groups name) (λ g. IsGroup g × (g.header.name ≡ name)) = with_text-found table_name IsGroup groups name is.each in
    let so : IsGroup partner.other × (partner.other.header.name ≡ name) = rw partner.is at all in
    rw partner.flags so.0.once

-- a table that is written as it is
pub whole_table : (out opened grown : List ℕ) (header : HeaderData) (entries : List Entry) → opened ≡ out ++ header_bytes header → grown ≡ opened ++ entries_bytes entries → grown ≡ out ++ group_bytes (record { header = header; entries = entries })
unfolding group_bytes
whole_table out opened grown header entries opened_is grown_is =
    grown_is ∙ ap (λ (l : List ℕ). l ++ entries_bytes entries) opened_is ∙ append_assoc out (header_bytes header) (entries_bytes entries)

-- ---- groups whose table the first file has or not

module _ (groups : List GroupData) (group : GroupData) where
  pub new_table : with_text table_name groups group.header.name ≡ None → some_bytes group_bytes (if_new table_name groups group) ≡ group_bytes group
  new_table none = rw none refl

  pub known_table : (other : GroupData) → Some other ≡ with_text table_name groups group.header.name → some_bytes group_bytes (if_new table_name groups group) ≡ []
  known_table other found = rw (← found) refl

-- ---- the tables of a list, one after another

-- the group whose table is at an index
module _ (named : NamedData) (groups : List GroupData) (listed : AreListed named groups) (index : ℕ) (lt : index < length named.tables) where
  abbrev pub group_at : GroupData
  group_at = get_or groups index no_group

  pub group_within : index < length groups
  group_within = omega (arith, lt, tables_length named.file named.tables groups [] listed)

  pub group_at_is : group_at ≡ get_or groups index group_at
  group_at_is = get_or_default groups index no_group group_at group_within

  pub table_of_group : IsTableOf named.file (get_or named.tables index no_table) group_at (drop (suc index) groups ++ [])
  table_of_group = table_at named.file named.tables groups [] index no_table no_group listed lt

  -- under an equal header it is the same
  pub group_under : (header : HeaderData) → header ≡ header_at named index → record { header = header; entries = group_at.entries } ≡ group_at
  group_under header is = ap (λ (h : HeaderData). record { header = h; entries = group_at.entries }) (is ∙ table_of_group.header)

  -- what is asked of the group of its name among others
  pub group_asked : (firsts : List GroupData) (header : HeaderData) → AreJoinable groups firsts → header ≡ header_at named index
      → IfSome (with_text table_name firsts header.name) (λ h. key_marks h.header.flags ≡ key_marks header.flags)
  group_asked firsts header joinable is =
      subst (λ (h : HeaderData). IfSome (with_text table_name firsts h.name) (λ g. key_marks g.header.flags ≡ key_marks h.flags)) (sym (is ∙ table_of_group.header))
      (agree_found groups firsts index group_at joinable group_within group_at_is)

-- ---- both lists of a join

pub joined_bytes : {X : Type 0} (bytes_of : X → List ℕ) (out mid grown : List ℕ) (kept new : List X) → mid ≡ out ++ flat_map bytes_of kept → grown ≡ mid ++ flat_map bytes_of new → grown ≡ out ++ flat_map bytes_of (kept ++ new)
joined_bytes bytes_of out mid grown kept new mid_is grown_is =
    grown_is ∙ ap (λ (l : List ℕ). l ++ flat_map bytes_of new) mid_is ∙ append_assoc out (flat_map bytes_of kept) (flat_map bytes_of new) ∙ ap (λ (l : List ℕ). out ++ l) (sym (flat_map-append bytes_of kept new))

-- the file of the join
pub joins : (first second out : List ℕ) (groups others : List GroupData) → IsFileOf first groups → IsFileOf second others → AreJoinable groups others → out ≡ file_bytes (joined groups others)
    → Joins first second out × (length out ≤ length first + length second)
joins first second out groups others p q joinable is =
    let both : IsJoined groups others (joined groups others) = record { joinable = joinable; is_joined = refl; is_changeset = joined_is_changeset groups others p.0 q.0 joinable } in (
      record {
        changeset = groups;
        other = others;
        join = joined groups others;
        are_files = record { is_changeset = p.0; is_file = p.1; other_is_changeset = q.0; other_is_file = q.1 };
        is_joined = both;
        join_is_file = is;
      },
      omega (arith, ap length is, ap length p.1, ap length q.1, join_length groups others (joined groups others) p.0 both),
    )

-- ---- two files that are read

abbrev as_ok : {X : Type 0} (F : Type 0) → X → Result X F
as_ok F x = Ok x

abbrev as_err : {F : Type 0} (X : Type 0) → F → Result X F
as_err X e = Err e

abbrev answered : {X F : Type 0} → X → Result X F → X
answered d (Ok x) = x
answered d (Err e) = d

-- what is read is what is passed on
pub read_is : {X E : Type 0} (F : Type 0) (read : Result X E) (x : X) (P : X → Type 0) → MatchResult read (λ y. as_ok F x ≡ as_ok F y) (λ e. ⊥) → IfOk read P → P x
read_is F (Ok y) x P same so = subst P (sym (ap (answered x) same)) so
read_is F (Err e) x P same so = absurd same

-- why the second file is not read is why both are not joined
pub second_refused : {X : Type 0} (first second : List ℕ) (read : Result X (OrNoMemory ReadFault)) (fault : OrNoMemory FileFault) → IsAccepted first → MatchResult read (λ x. as_err X fault ≡ Ok x) (λ e. fault ≡ of_second e)
    → IfErr read (Refuses (λ f. ReadFails second f.kind f.place)) → Refuses (JoinFails first second) fault
second_refused first second (Ok x) fault is same why = absurd cc
second_refused first second (Err (Fault f)) fault is same why = subst (Refuses (JoinFails first second)) (sym same) (is, why)
second_refused first second (Err NoMemory) fault is same why = subst (Refuses (JoinFails first second)) (sym same) tt

-- and so is why their changesets are not
pub join_refused : (first second : List ℕ) (groups others : List GroupData) → IsFileOf first groups → IsFileOf second others → (fault : OrNoMemory FileFault) → Refuses (AreUnjoined groups others) fault
    → Refuses (JoinFails first second) fault
join_refused first second groups others p q (Fault (First f)) why = absurd why
join_refused first second groups others p q (Fault (Second f)) why = absurd why
join_refused first second groups others p q (Fault (Schema s)) why = record {
  changeset = groups;
  other = others;
  are_files = record { is_changeset = p.0; is_file = p.1; other_is_changeset = q.0; other_is_file = q.1 };
  clash = why;
}
join_refused first second groups others p q NoMemory why = tt
