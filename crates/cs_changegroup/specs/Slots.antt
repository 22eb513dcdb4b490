-- The tables of a concatenation that grows, and their entries where they are; this project's own.
use Rattle.std.specs.Prelude.{◌≡◌, ◌≢◌, ℕ, ◌+◌, ◌<◌, ◌≤◌, ◌⊎◌, Bool, true, false, if◌then◌else◌, List, [], ◌∷◌, ◌++◌}
use Rattle.std.specs.Prelude.{Option, Some, None, All, AllPairs, drop, filter_map, get_or, length, map, set}
use Rattle.std.specs.List.{AllZip}
use Rattle.cs_wire_entries.specs.declared.entry.Entry.{Entry}
use Rattle.cs_wire.specs.Changeset.{GroupData, HeaderData, IsChangeset, IsHeader}
use Rattle.cs_wire.specs.Entry.{IsEntry, entry_bytes, key_of}
use Rattle.cs_wire.specs.ReadFaults.{Stands}
use Rattle.cs_wire.specs.Views.{IsIndexWhere}
use Rattle.cs_file_scan.specs.Chains.{ChainsData}
use Rattle.cs_file_scan.specs.Distinct.{number_of}
use Rattle.cs_group.specs.declared.merging.Merged.{Merged}
use Rattle.cs_group.specs.declared.merging.Merged.TheVariants.{Becomes, Keep, Vanish}
use Rattle.cs_group.specs.Joining.{joined, joined_entries, merged as merged_of, some_group}
use Rattle.cs_changegroup.specs.declared.table.Outcome.{Outcome}
use Rattle.cs_changegroup.specs.declared.slot.Slot.{Slot}
use Rattle.cs_changegroup.specs.declared.slot.Text.{Text}
use Rattle.cs_changegroup.specs.declared.slot.Text.TheVariants.{Own, Within}

-- ---- things that are found by a text, of which the last one counts

-- where the last of the things with a text is, or that there is none
abbrev pub IsNewest : {X : Type 0} → (X → List ℕ) → List ℕ → List X → Option ℕ → Type 0
IsNewest text_of text xs None = All (λ x. text_of x ≢ text) xs
IsNewest {X} text_of text xs (Some index) = IsIndexWhere (λ x. text_of x ≡ text) xs index
    × ((other : ℕ) (d : X) → index < other → other < length xs → text_of (get_or xs other d) ≢ text)

-- of the things with one text only the last one may count
abbrev pub AreOnce : {X Y : Type 0} → (X → Option Y) → (X → List ℕ) → List X → Type 0
AreOnce live text_of xs = AllPairs (λ x z. text_of x ≡ text_of z → live x ≡ None) xs

-- none of the things with a text counts
abbrev pub NoneLives : {X Y : Type 0} → (X → Option Y) → (X → List ℕ) → List X → List ℕ → Type 0
NoneLives live text_of xs text = All (λ x. text_of x ≡ text → live x ≡ None) xs

-- ---- the entries of a table

-- an entry that a table has, or had
pub record KeptEntry : Type 0 where
  pub entry : Entry
  pub live : Bool

abbrev pub if_live : KeptEntry → Option Entry
if_live kept = if kept.live then Some kept.entry else None

abbrev pub live_entries : List KeptEntry → List Entry
live_entries kept = filter_map if_live kept

abbrev pub kept_key : List ℕ → KeptEntry → List ℕ
kept_key flags kept = key_of flags kept.entry.change

-- the bytes are between these offsets of the files, or in this buffer
abbrev pub IsTextAt : List ℕ → Text → List ℕ → Type 0
IsTextAt files (Within start end) text = Stands files start text end
IsTextAt files (Own own) text = own.items ≡ text

-- the slot has the entry
pub record IsSlotOf (files flags : List ℕ) (slot : Slot) (kept : KeptEntry) : Type 0 where
  pub text : IsTextAt files slot.text (entry_bytes kept.entry)
  pub live : slot.live ≡ kept.live
  pub fits : IsEntry flags kept.entry

-- what contracts see of a table: its slots, the chains of the numbers of their keys, and how many slots are not live
pub record TableView : Type 0 where
  pub header : HeaderData
  pub slots : List Slot
  pub keys : ChainsData
  pub vanished : ℕ

-- the slots are those of the entries
pub record AreSlots (files : List ℕ) (table : TableView) (kept : List KeptEntry) : Type 0 where
  pub slots : AllZip (IsSlotOf files table.header.flags) table.slots kept
  pub numbers : table.keys.numbers ≡ map (λ k. number_of (kept_key table.header.flags k)) kept
  pub once : AreOnce if_live (kept_key table.header.flags) kept
  pub vanished : table.vanished + length (live_entries kept) ≡ length kept

-- the table has one more slot
pub record HasPushed (old new : TableView) (number : ℕ) (slot : Slot) : Type 0 where
  pub header : new.header ≡ old.header
  pub slots : new.slots ≡ old.slots ++ slot ∷ []
  pub numbers : new.keys.numbers ≡ old.keys.numbers ++ number ∷ []
  pub vanished : new.vanished ≡ old.vanished

-- it has another slot at an index, and so many slots that are not live
pub record HasSet (old new : TableView) (index vanished : ℕ) (slot : Slot) : Type 0 where
  pub header : new.header ≡ old.header
  pub slots : new.slots ≡ set old.slots index slot
  pub keys : new.keys ≡ old.keys
  pub vanished_is : new.vanished ≡ vanished

-- it has what became of the entry at an index
abbrev pub Puts : TableView → TableView → ℕ → Merged → Type 0
Puts old new index Keep = new ≡ old
Puts old new index (Becomes entry) = (slot : Slot) × ((files : List ℕ) → IsTextAt files slot.text (entry_bytes entry))
    × (slot.live ≡ true) × HasSet old new index old.vanished slot
Puts old new index Vanish = (slot : Slot) → slot ≡ get_or old.slots index slot → old.vanished < length old.slots
    → HasSet old new index (old.vanished + 1) (record { text = slot.text; live = false })

-- what an entry becomes together with the one of its key, which is at an index of the entries that the table has
pub record IsMergedAt (flags : List ℕ) (kept : List KeptEntry) (entry : Entry) (outcome : Outcome) : Type 0 where
  pub found : KeptEntry
  pub within : outcome.index < length kept
  pub there : found ≡ get_or kept outcome.index found
  pub live : found.live ≡ true
  pub one_key : key_of flags entry.change ≡ kept_key flags found
  pub merged : outcome.merged ≡ merged_of flags found.entry entry

-- or that there is none
abbrev pub IsPlanned : List ℕ → List KeptEntry → Entry → Option Outcome → Type 0
IsPlanned flags kept entry None = NoneLives if_live (kept_key flags) kept (key_of flags entry.change)
IsPlanned flags kept entry (Some outcome) = IsMergedAt flags kept entry outcome

-- the table had some entries, and has what these and others make
abbrev pub AddsEntries : List ℕ → TableView → TableView → List Entry → Type 0
AddsEntries files old new others = (kept : List KeptEntry) → AreSlots files old kept → (grown : List KeptEntry)
    × AreSlots files new grown
    × (live_entries grown ≡ joined_entries old.header.flags (live_entries kept) others)

-- ---- tables

-- a table that a concatenation has, or had
pub record KeptTable : Type 0 where
  pub header : HeaderData
  pub entries : List KeptEntry

abbrev pub kept_name : KeptTable → List ℕ
kept_name table = table.header.name

-- the group of a table that has entries
abbrev pub if_some : KeptTable → Option GroupData
if_some table = some_group table.header (live_entries table.entries)

abbrev pub groups_of : List KeptTable → List GroupData
groups_of tables = filter_map if_some tables

pub record IsViewOf (files : List ℕ) (view : TableView) (table : KeptTable) : Type 0 where
  pub header : view.header ≡ table.header
  pub is_header : IsHeader table.header
  pub slots : AreSlots files view table.entries

-- what contracts see of the tables: them, and the chains of the numbers of their names
pub record TablesView : Type 0 where
  pub tables : List TableView
  pub names : ChainsData

pub record AreTables (files : List ℕ) (view : TablesView) (kept : List KeptTable) : Type 0 where
  pub tables : AllZip (IsViewOf files) view.tables kept
  pub numbers : view.names.numbers ≡ map (λ t. number_of (kept_name t)) kept
  pub once : AreOnce if_some kept_name kept

-- the tables make these groups, which are those of a changeset
pub record HasGroups (files : List ℕ) (view : TablesView) (groups : List GroupData) : Type 0 where
  pub kept : List KeptTable
  pub are_tables : AreTables files view kept
  pub groups_are : groups ≡ groups_of kept
  pub is_changeset : IsChangeset groups

-- the index of the table with a name, if it has entries
abbrev pub IsPartner : List KeptTable → List ℕ → Option ℕ → Type 0
IsPartner kept name None = NoneLives if_some kept_name kept name
IsPartner kept name (Some index) = (table : KeptTable) × (index < length kept) × (table ≡ get_or kept index table)
    × (kept_name table ≡ name) × (0 < length (live_entries table.entries))

-- what an index without a table has
abbrev pub no_view : TableView
no_view = record {
  header = record { name = []; flags = [] };
  slots = [];
  keys = record { buckets = 0; numbers = [] };
  vanished = 0;
}

-- the header of the table at an index
abbrev pub header_at : TablesView → ℕ → HeaderData
header_at view index = (get_or view.tables index no_view).header

-- the tables have one more, without entries
pub record HasPushedTable (old new : TablesView) (header : HeaderData) : Type 0 where
  pub table : TableView
  pub header_is : table.header ≡ header
  pub slots : table.slots ≡ []
  pub numbers : table.keys.numbers ≡ []
  pub vanished : table.vanished ≡ 0
  pub tables : new.tables ≡ old.tables ++ table ∷ []
  pub names : new.names.numbers ≡ old.names.numbers ++ number_of header.name ∷ []

-- the tables had these groups, and have what they make together with others
abbrev pub AddsGroups : List ℕ → List KeptTable → List GroupData → TablesView → Type 0
AddsGroups files kept others new = (grown : List KeptTable) × AreTables files new grown
    × (groups_of grown ≡ joined (groups_of kept) others)

-- the table that a group is added to: one that has entries, or a new one at the end
abbrev pub IsTarget : List KeptTable → List KeptTable → GroupData → KeptTable → ℕ → Type 0
IsTarget kept opened group table index =
    ((opened ≡ kept) × (0 < length (live_entries table.entries)) × (kept_name table ≡ group.header.name))
    ⊎ ((opened ≡ kept ++ table ∷ []) × (index ≡ length kept) × (table ≡ record { header = group.header; entries = [] })
    × NoneLives if_some kept_name kept group.header.name)

pub record OpensTable (files : List ℕ) (kept : List KeptTable) (group : GroupData) (new : TablesView) (index : ℕ)
    : Type 0 where
  pub opened : List KeptTable
  pub are_tables : AreTables files new opened
  pub table : KeptTable
  pub within : index < length opened
  pub there : table ≡ get_or opened index table
  pub is_target : IsTarget kept opened group table index

-- the bytes are in the files from an offset on
pub record IsPartOf (files : List ℕ) (base : ℕ) (file : List ℕ) : Type 0 where
  pub behind : List ℕ
  pub spelled : drop base files ≡ file ++ behind
  pub within : base + length file ≤ length files
