-- A changeset's file that is gone through table by table.
use Rattle.std.proofs.Common.{◌≡◌, ℕ, ◌<◌, ◌≤◌, List, [], ◌∷◌, ◌++◌, length, length-append, drop, false, refl, sym, ap, ◌∙◌, append_assoc, append-nil, arith}
use Rattle.std.specs.Prelude.{Option, Some, None, is_some}
use Rattle.std.specs.List.{AllByRecursion}
use Rattle.std.proofs.lemmas.List.{drop_all, length-drop}
use Rattle.std.proofs.lemmas.List.Elements.{recursion_from_All}
use Rattle.cs_wire_entries.specs.declared.entry.Entry.{Entry}
use Rattle.cs_wire.specs.declared.header.HeaderRef.{HeaderRef}
use Rattle.cs_wire.specs.Entry.{IsEntry, entry_bytes}
use Rattle.cs_wire.specs.Changeset.{HeaderData, GroupData, IsFileOf, IsGroup, IsHeader, entries_bytes, group_bytes, file_bytes, header_bytes}
use Rattle.cs_wire.specs.Headers.{header_of}
use Rattle.cs_wire.specs.Items.{FlaggedEntry}
use Rattle.cs_wire.specs.ReadFaults.{Stands, HasEntry}
use Rattle.cs_file_scan.specs.Tables.{TablesData, EntriesLeft, IsNextEntry, IsNextTable, NextEntry}
use Rattle.cs_wire.proofs.EntriesLemmas.{HasEntry-entry, not_ended}
use Rattle.cs_wire.proofs.GroupsLemmas.{ends_group, group_bytes-append, group_bytes_some}
use Rattle.cs_wire_entries.proofs.ReadingLemmas.{rest_is}

abbrev at_place : List ℕ → ℕ → List ℕ → TablesData
at_place file place flags = record { file = file; place = place; flags = flags }

-- before the first table, all are left
pub EntriesLeft-all : (file : List ℕ) (groups : List GroupData) → IsFileOf file groups → EntriesLeft (at_place file 0 []) [] groups
EntriesLeft-all file groups is = record {
  within = omega arith;
  each = tt;
  are_groups = recursion_from_All IsGroup groups is.0.each;
  spelled = is.1;
}

-- ---- entries

-- where no entry is to be read, none is left
pub no_entry_left : (tables : TablesData) (entries : List Entry) (groups : List GroupData) → EntriesLeft tables entries groups → (HasEntry tables.file tables.place → ⊥) → (entries ≡ []) × (tables.flags ≡ tables.flags) × EntriesLeft tables [] groups
no_entry_left tables [] groups so none = (refl, refl, so)
no_entry_left tables (entry ∷ entries) groups so none =
    absurd (none (HasEntry-entry tables.file tables.place entry (entries_bytes entries ++ file_bytes groups) so.within (so.spelled ∙ append_assoc (entry_bytes entry) (entries_bytes entries) (file_bytes groups))))

-- else one is, which is read
module _ (tables : TablesData) (entries : List Entry) (groups : List GroupData) (so : EntriesLeft tables entries groups) (here : HasEntry tables.file tables.place) where
  pub entry_left : (entry : Entry) × (others : List Entry) × (entries ≡ entry ∷ others) × IsEntry tables.flags entry × (drop tables.place tables.file ≡ entry_bytes entry ++ (entries_bytes others ++ file_bytes groups))
      × AllByRecursion (IsEntry tables.flags) others
  entry_left = by entries so
    where
      by : (es : List Entry) → EntriesLeft tables es groups → (entry : Entry) × (others : List Entry) × (es ≡ entry ∷ others) × IsEntry tables.flags entry × (drop tables.place tables.file ≡ entry_bytes entry ++ (entries_bytes others ++ file_bytes groups))
          × AllByRecursion (IsEntry tables.flags) others
      by [] so = absurd (not_ended tables.file tables.place here (rw so.spelled (ends_group groups)))
      by (entry ∷ others) so = (entry, others, refl, so.each.0, so.spelled ∙ append_assoc (entry_bytes entry) (entries_bytes others) (file_bytes groups), so.each.1)

  pub entry_passed : (seen : FlaggedEntry) (end : ℕ) → seen.flags ≡ tables.flags → Stands tables.file tables.place (entry_bytes seen.entry) end
      → ((entry : Entry) (rest : List ℕ) → IsEntry tables.flags entry → drop tables.place tables.file ≡ entry_bytes entry ++ rest → seen.entry ≡ entry)
      → IsNextEntry tables.flags entries groups seen (at_place tables.file end tables.flags)
  entry_passed seen end flags_are stands only =
      let left = entry_left in
      let same = only left.0 _ left.3 left.4 in record {
        others = left.1;
        is = left.2 ∙ ap (λ (e : Entry). e ∷ left.1) (sym same);
        flags_are = flags_are;
        flags_stay = refl;
        are_left = record {
          within = stands.within;
          each = left.5;
          are_groups = so.are_groups;
          spelled = rest_is tables.file tables.place end (entry_bytes seen.entry) (entries_bytes left.1 ++ file_bytes groups) stands
              (left.4 ∙ ap (λ (e : Entry). entry_bytes e ++ (entries_bytes left.1 ++ file_bytes groups)) (sym same));
        };
      }

-- ---- tables

-- at the end of the file no table is left
pub no_table_left : (tables : TablesData) (groups : List GroupData) → EntriesLeft tables [] groups → length tables.file ≤ tables.place → (groups ≡ []) × EntriesLeft tables [] []
no_table_left tables [] so le = (refl, so)
no_table_left tables (group ∷ groups) so le =
    absurd (omega (arith, ap length (sym (drop_all tables.place tables.file le) ∙ so.spelled), length-append (group_bytes group) (file_bytes groups), group_bytes_some group))

module _ (tables : TablesData) (groups : List GroupData) (so : EntriesLeft tables [] groups) (within : tables.place < length tables.file) where
  pub table_left : (group : GroupData) × (others : List GroupData) × (groups ≡ group ∷ others) × IsGroup group × (drop tables.place tables.file ≡ header_bytes group.header ++ (entries_bytes group.entries ++ file_bytes others))
      × AllByRecursion IsGroup others
  table_left = by groups so
    where
      by : (gs : List GroupData) → EntriesLeft tables [] gs → (group : GroupData) × (others : List GroupData) × (gs ≡ group ∷ others) × IsGroup group
          × (drop tables.place tables.file ≡ header_bytes group.header ++ (entries_bytes group.entries ++ file_bytes others)) × AllByRecursion IsGroup others
      by [] so = absurd (omega (arith, within, ap length so.spelled, length-drop tables.place tables.file))
      by (group ∷ others) so = (group, others, refl, so.are_groups.0, so.spelled ∙ group_bytes-append group (file_bytes others), so.are_groups.1)

  pub table_passed : (header : HeaderRef) (end : ℕ) → Stands tables.file tables.place (header_bytes (header_of header)) end
      → ((h : HeaderData) (rest : List ℕ) → IsHeader h → drop tables.place tables.file ≡ header_bytes h ++ rest → header_of header ≡ h)
      → IsNextTable groups header (at_place tables.file end header.flags.now)
  table_passed header end stands only =
      let left = table_left in
      let same = only left.0.header _ left.3.header left.4 in record {
        group = left.0;
        others = left.1;
        is = left.2;
        is_group = left.3;
        header_is = same;
        flags_are = ap (λ (h : HeaderData). h.flags) same;
        are_left = record {
          within = stands.within;
          each = rw (ap (λ (h : HeaderData). h.flags) same) (recursion_from_All (IsEntry left.0.header.flags) left.0.entries left.3.each);
          are_groups = left.5;
          spelled = rest_is tables.file tables.place end (header_bytes (header_of header)) (entries_bytes left.0.entries ++ file_bytes left.1) stands
              (left.4 ∙ ap (λ (h : HeaderData). header_bytes h ++ (entries_bytes left.0.entries ++ file_bytes left.1)) (sym same));
        };
      }

-- entries that are passed over
pub passed_over : (flags : List ℕ) (entries : List Entry) (groups : List GroupData) (next : Option FlaggedEntry) (after : TablesData) → NextEntry flags entries groups next after → (left : List Entry) × EntriesLeft after left groups
passed_over flags entries groups None after next = ([], next.2)
passed_over flags entries groups (Some seen) after next = (next.others, next.are_left)

pub all_passed : (flags : List ℕ) (entries : List Entry) (groups : List GroupData) (next : Option FlaggedEntry) (after : TablesData) → NextEntry flags entries groups next after → is_some next ≡ false → EntriesLeft after [] groups
all_passed flags entries groups None after next none = next.2
all_passed flags entries groups (Some seen) after next none = absurd cc

-- of these entries these were passed, and the others are left
pub record PassedEntries (before : List Entry) (now : TablesData) (entries : List Entry) (groups : List GroupData) : Type 0 where
  pub others : List Entry
  pub whole : entries ≡ before ++ others
  pub are_left : EntriesLeft now others groups

pub PassedEntries-next : (before grown : List Entry) (now next : TablesData) (entries : List Entry) (groups : List GroupData) (so : PassedEntries before now entries groups) (seen : FlaggedEntry)
    → IsNextEntry now.flags so.others groups seen next → grown ≡ before ++ seen.entry ∷ [] → PassedEntries grown next entries groups
PassedEntries-next before grown now next entries groups so seen is more = record {
  others = is.others;
  whole = so.whole ∙ ap (λ (es : List Entry). before ++ es) is.is ∙ sym (append_assoc before (seen.entry ∷ []) is.others) ∙ ap (λ (es : List Entry). es ++ is.others) (sym more);
  are_left = is.are_left;
}

pub PassedEntries-all : (before : List Entry) (now : TablesData) (entries : List Entry) (groups : List GroupData) (so : PassedEntries before now entries groups) → so.others ≡ [] → entries ≡ before
PassedEntries-all before now entries groups so none = so.whole ∙ ap (λ (es : List Entry). before ++ es) none ∙ append-nil before
