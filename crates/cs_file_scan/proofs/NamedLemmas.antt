-- Tables of a file that are listed.
use Rattle.std.proofs.Common.{◌≡◌, ◌≢◌, ℕ, zero, suc, ◌<◌, ◌≤◌, List, [], ◌∷◌, ◌++◌, length, drop, get_or, All, AllPairs, refl, sym, ap, subst, ◌∙◌, append_assoc, append-nil, arith}
use Rattle.std.specs.Prelude.{IsTrue, Option, Some, None, false, is_none, is_some}
use Rattle.std.specs.List.{AllByRecursion}
use Rattle.std.proofs.lemmas.List.{drop_all}
use Rattle.std.proofs.lemmas.List.Concat.{flat_map-append}
use Rattle.std.proofs.lemmas.List.Elements.{All-nil, All-push, recursion_from_All}
use Rattle.std.proofs.lemmas.List.Quantifiers.{all_pairs_push}
use Rattle.cs_wire_entries.specs.declared.entry.Entry.{Entry}
use Rattle.cs_wire.specs.declared.header.HeaderRef.{HeaderRef}
use Rattle.cs_wire.specs.Entry.{IsEntry}
use Rattle.cs_wire.specs.Changeset.{HeaderData, GroupData, IsGroup, entries_bytes, group_bytes, file_bytes}
use Rattle.cs_wire.specs.ReadFaults.{Stands}
use Rattle.cs_file_scan.specs.Checked.{HasTable, group_of}
use Rattle.cs_wire.specs.Headers.{header_of}
use Rattle.cs_file_scan.specs.Named.{NamedTable, NamedData, IsTableOf, AreTablesOf, AreListed, IsListing, tables_from, no_table}
use Rattle.cs_file_scan.specs.Tables.{TablesData, EntriesLeft, IsNextTable}
use Rattle.cs_wire.specs.Views.{IsIndexWhere}
use Rattle.cs_wire_entries.proofs.ReadingLemmas.{Stands-then}

-- one more table
pub tables_push : (file : List ℕ) (tables : List NamedTable) (groups behind : List GroupData) (table : NamedTable) (group : GroupData) → AreTablesOf file tables groups (group ∷ behind) → IsTableOf file table group behind
    → AreTablesOf file (tables ++ table ∷ []) (groups ++ group ∷ []) behind
unfolding AreTablesOf
tables_push file [] [] behind table group are is = (is, tt)
tables_push file [] (g ∷ groups) behind table group are is = absurd are
tables_push file (t ∷ tables) [] behind table group are is = absurd are
tables_push file (t ∷ tables) (g ∷ groups) behind table group are is = (
  subst (IsTableOf file t g) (sym (append_assoc groups (group ∷ []) behind)) are.0,
  tables_push file tables groups behind table group are.1 is,
)

-- of these groups some are listed, the table of the last of them is open, and the others are left
pub record ListedFront (file : List ℕ) (tables : List NamedTable) (now : TablesData) (groups : List GroupData) : Type 0 where
  pub before : List GroupData
  pub others : List GroupData
  pub entries : List Entry
  pub whole : groups ≡ before ++ others
  pub listed : AreTablesOf file tables before others
  pub are_left : EntriesLeft now entries others

pub ListedFront-none : (file : List ℕ) (now : TablesData) (entries : List Entry) (groups : List GroupData) → EntriesLeft now entries groups → ListedFront file [] now groups
unfolding AreTablesOf
ListedFront-none file now entries groups left = record { before = []; others = groups; entries = entries; whole = refl; listed = tt; are_left = left }

pub ListedFront-next : (file : List ℕ) (tables : List NamedTable) (now next : TablesData) (groups : List GroupData) (so : ListedFront file tables now groups) (header : HeaderRef) (table : NamedTable)
    → IsNextTable so.others header next → next.file ≡ file → table ≡ record { header = header_of header; start = next.place } → ListedFront file (tables ++ table ∷ []) next groups
ListedFront-next file tables now next groups so header table is same table_is =
    let at : tables_from file table ≡ next =
    ap (tables_from file) table_is ∙ ap (λ (h : HeaderData). record { file = file; place = next.place; flags = h.flags }) is.header_is
    ∙ ap (λ (flags : List ℕ). record { file = file; place = next.place; flags = flags }) (sym is.flags_are)
    ∙ ap (λ (f : List ℕ). record { file = f; place = next.place; flags = next.flags }) (sym same) in
    record {
      before = so.before ++ is.group ∷ [];
      others = is.others;
      entries = is.group.entries;
      whole = so.whole ∙ ap (λ (gs : List GroupData). so.before ++ gs) is.is ∙ sym (append_assoc so.before (is.group ∷ []) is.others);
      listed = tables_push file tables so.before is.others table is.group (subst (AreTablesOf file tables so.before) is.is so.listed)
          (record { header = ap (λ (t : NamedTable). t.header) table_is ∙ is.header_is; are_left = subst (λ (t : TablesData). EntriesLeft t is.group.entries is.others) (sym at) is.are_left });
      are_left = is.are_left;
    }

-- ---- a table that is listed

module _ (file : List ℕ) where
  pub tables_length : (tables : List NamedTable) (groups behind : List GroupData) → AreTablesOf file tables groups behind → length tables ≡ length groups
  unfolding AreTablesOf
  tables_length [] [] behind are = refl
  tables_length [] (g ∷ groups) behind are = absurd are
  tables_length (t ∷ tables) [] behind are = absurd are
  tables_length (t ∷ tables) (g ∷ groups) behind are = ap suc (tables_length tables groups behind are.1)

  pub table_at : (tables : List NamedTable) (groups behind : List GroupData) (index : ℕ) (t : NamedTable) (g : GroupData) → AreTablesOf file tables groups behind → index < length tables
      → IsTableOf file (get_or tables index t) (get_or groups index g) (drop (suc index) groups ++ behind)
  unfolding AreTablesOf
  table_at [] groups behind index t g are lt = absurd (omega arith)
  table_at (x ∷ tables) [] behind index t g are lt = absurd are
  table_at (x ∷ tables) (y ∷ groups) behind zero t g are lt = are.0
  table_at (x ∷ tables) (y ∷ groups) behind (suc index) t g are lt = table_at tables groups behind index t g are.1 (omega arith)

  -- groups of tables whose names differ have names that differ
  pub names_apart : (tables : List NamedTable) (groups behind : List GroupData) → AreTablesOf file tables groups behind → AllPairs (λ s t. s.header.name ≢ t.header.name) tables
      → AllPairs (λ g h. g.header.name ≢ h.header.name) groups
  names_apart tables groups behind are once = λ i j d lt within same.
      let count = tables_length tables groups behind are in
      let first = table_at tables groups behind i no_table d are (omega (arith, lt, within, count)) in
      let second = table_at tables groups behind j no_table d are (omega (arith, within, count)) in
      once i j no_table lt (omega (arith, within, count)) (ap (λ (h : HeaderData). h.name) first.header ∙ same ∙ sym (ap (λ (h : HeaderData). h.name) second.header))

module _ (named : NamedData) (groups : List GroupData) (listed : AreListed named groups) (name : List ℕ) where
  -- where no table has the name no group has it
  pub no_group_named : All (λ t. t.header.name ≢ name) named.tables → All (λ g. g.header.name ≢ name) groups
  no_group_named none k d lt same =
      let within : k < length named.tables = omega (arith, tables_length named.file named.tables groups [] listed) in
      none k no_table within (ap (λ (h : HeaderData). h.name) (table_at named.file named.tables groups [] k no_table d listed within).header ∙ same)

  -- else the group of that table has
  pub group_named : (index : ℕ) → IsIndexWhere (λ t. t.header.name ≡ name) named.tables index → IsIndexWhere (λ g. g.header.name ≡ name) groups index
  group_named index at = record {
    within = omega (arith, at.within, tables_length named.file named.tables groups [] listed);
    holds = λ d. ap (λ (h : HeaderData). h.name) (sym (table_at named.file named.tables groups [] index no_table d listed at.within).header) ∙ at.holds no_table;
  }

-- ---- tables that are listed as a file is checked

-- the file begins with the groups of these tables, whose names differ, and the tables are listed whatever groups follow
pub record CheckedFront (file : List ℕ) (tables : List NamedTable) (place : ℕ) : Type 0 where
  pub groups : List GroupData
  pub each : All IsGroup groups
  pub stand : Stands file 0 (file_bytes groups) place
  pub listed : (others : List GroupData) → AllByRecursion IsGroup others → drop place file ≡ file_bytes others → AreTablesOf file tables groups others
  pub once : AllPairs (λ s t. s.header.name ≢ t.header.name) tables

pub CheckedFront-none : (file : List ℕ) → CheckedFront file [] 0
unfolding AreTablesOf
CheckedFront-none file = record {
  groups = [];
  each = All-nil IsGroup;
  stand = record { spelled = refl; within = omega arith };
  listed = λ others all is. tt;
  once = λ i j d lt within. absurd (omega arith);
}

-- one more table
pub CheckedFront-next : (file : List ℕ) (tables : List NamedTable) (place end : ℕ) → CheckedFront file tables place → (table : NamedTable) → HasTable file place table end → All (λ t. t.header.name ≢ table.header.name) tables
    → CheckedFront file (tables ++ table ∷ []) end
CheckedFront-next file tables place end so table has new =
    let group = group_of table has.entries in record {
      groups = so.groups ++ group ∷ [];
      each = All-push IsGroup so.groups group so.each has.is_group;
      stand = rw (flat_map-append group_bytes so.groups (group ∷ []), append-nil) (Stands-then file 0 place end (file_bytes so.groups) (group_bytes group) so.stand has.stands);
      listed = λ others all is.
          let left : EntriesLeft (tables_from file table) has.entries others = record {
            within = has.within;
            each = recursion_from_All (IsEntry table.header.flags) has.entries has.is_group.each;
            are_groups = all;
            spelled = has.entries_stand.spelled ∙ ap (λ (x : List ℕ). entries_bytes has.entries ++ x) is;
          } in
          tables_push file tables so.groups others table group (so.listed (group ∷ others) (has.is_group, all) (has.stands.spelled ∙ ap (λ (x : List ℕ). group_bytes group ++ x) is))
          (record { header = refl; are_left = left });
      once = all_pairs_push (λ s t. s.header.name ≢ t.header.name) tables table so.once new;
    }

pub none_found : (found : Option ℕ) → is_some found ≡ false → IsTrue (is_none found)
none_found None none = refl
none_found (Some place) none = absurd cc

-- at the end of the file they are the tables of a changeset
pub CheckedFront-all : (file : List ℕ) (named : NamedData) (place : ℕ) → named.file ≡ file → CheckedFront file named.tables place → length file ≤ place → IsListing file named
CheckedFront-all file named place same so le =
    let ends = drop_all place file le in
    let listed : AreTablesOf file named.tables so.groups [] = so.listed [] tt ends in (
      so.groups,
      (record { each = so.each; once = names_apart file named.tables so.groups [] listed so.once }, so.stand.spelled ∙ ap (λ (x : List ℕ). file_bytes so.groups ++ x) ends ∙ append-nil (file_bytes so.groups)),
      subst (λ (f : List ℕ). AreTablesOf f named.tables so.groups []) (sym same) listed,
    )
