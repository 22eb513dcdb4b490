-- A quick pass through a file.
use Rattle.std.proofs.Common.{◌≡◌, ◌≢◌, ℕ, ◌<◌, ◌≤◌, List, [], ◌∷◌, ◌++◌, length, AllPairs, refl, sym, ap, ◌∙◌, subst, arith}
use Rattle.std.proofs.lemmas.List.{append-nil, drop_all, length-map, map-append}
use Rattle.std.proofs.lemmas.List.Concat.{flat_map-append}
use Rattle.std.proofs.lemmas.List.Elements.{All-nil, All-push}
use Rattle.cs_wire_entries.specs.declared.entry.Entry.{Entry}
use Rattle.cs_wire.specs.Entry.{IsEntry, key_of}
use Rattle.cs_wire.specs.Changeset.{GroupData, IsFileOf, IsGroup, IsHeader, header_bytes, group_bytes, file_bytes}
use Rattle.cs_file_scan.specs.Checked.{HasEntries, HasTable, HasGroups, group_of}
use Rattle.cs_file_scan.specs.Distinct.{number_of}
use Rattle.cs_file_scan.specs.Named.{NamedTable}
use Rattle.cs_wire.specs.ReadFaults.{Stands}
use Rattle.cs_file_scan.proofs.DistinctLemmas.{texts_differ}
use Rattle.cs_wire.proofs.GroupsLemmas.{Stands-group, group_bytes_some}
use Rattle.cs_wire_entries.proofs.ReadingLemmas.{Stands-moves, Stands-then}

-- no entry was passed
abbrev pub HasEntries-none : (file : List ℕ) (at : ℕ) (flags : List ℕ) → at ≤ length file → HasEntries file at flags [] at
HasEntries-none file at flags le = record {
  entries = [];
  each = All-nil (IsEntry flags);
  stand = record { spelled = refl; within = le };
  keys_are = refl;
}

-- a header and entries whose keys differ are the group of a table
abbrev pub HasTable-read : (file : List ℕ) (at end : ℕ) (table : NamedTable) (keys : List ℕ) → IsHeader table.header → Stands file at (header_bytes table.header) table.start
    → HasEntries file table.start table.header.flags keys end → 0 < length keys → AllPairs (λ m n. m ≢ n) keys → HasTable file at table end
HasTable-read file at end table keys is stands so some apart =
    let number : Entry → ℕ = λ e. number_of (key_of table.header.flags e.change) in record {
      entries = so.entries;
      is_group = record {
        header = is;
        some = omega (arith, some, ap length so.keys_are, length-map so.entries number);
        each = so.each;
        once = texts_differ (λ (e : Entry). key_of table.header.flags e.change) so.entries (subst (λ (ks : List ℕ). AllPairs (λ m n. m ≢ n) ks) so.keys_are apart);
      };
      stands = Stands-group file at table.start end (group_of table so.entries) stands so.stand;
      within = stands.within;
      entries_stand = so.stand;
    }

-- a table has some byte
pub table_moves : (file : List ℕ) (at end : ℕ) (table : NamedTable) → HasTable file at table end → at < length file → at < end
table_moves file at end table so within = Stands-moves file at end _ so.stands (group_bytes_some (group_of table so.entries)) within

-- no group was passed
abbrev pub HasGroups-none : (file : List ℕ) → HasGroups file [] 0
HasGroups-none file = record {
  groups = [];
  each = All-nil IsGroup;
  stand = record { spelled = refl; within = omega arith };
  names_are = refl;
}

-- one more was
abbrev pub HasGroups-push : (file names grown : List ℕ) (place end : ℕ) → HasGroups file names place → (table : NamedTable) → HasTable file place table end
    → (name : List ℕ) (number : ℕ) → name ≡ table.header.name → number ≡ number_of name → grown ≡ names ++ number ∷ [] → HasGroups file grown end
HasGroups-push file names grown place end so table next name number name_is number_is grown_is =
    let number_by : GroupData → ℕ = λ g. number_of g.header.name in
    let group = group_of table next.entries in
    let one : number ≡ number_by group = number_is ∙ ap number_of name_is in record {
      groups = so.groups ++ group ∷ [];
      each = All-push IsGroup so.groups group so.each next.is_group;
      stand = rw (flat_map-append group_bytes so.groups (group ∷ []), append-nil) (Stands-then file 0 place end (file_bytes so.groups) (group_bytes group) so.stand next.stands);
      names_are = rw (grown_is, one, so.names_are) (sym (map-append number_by so.groups (group ∷ [])));
    }

-- at the end of the file, groups whose names differ are a changeset
pub IsFileOf-read : (file names : List ℕ) (place : ℕ) (so : HasGroups file names place) → length file ≤ place → AllPairs (λ m n. m ≢ n) names → IsFileOf file so.groups
IsFileOf-read file names place so le apart = (
  record { each = so.each; once = texts_differ (λ (g : GroupData). g.header.name) so.groups (subst (λ (ns : List ℕ). AllPairs (λ m n. m ≢ n) ns) so.names_are apart) },
  so.stand.spelled ∙ ap (λ (x : List ℕ). file_bytes so.groups ++ x) (drop_all place file le) ∙ append-nil (file_bytes so.groups),
)
