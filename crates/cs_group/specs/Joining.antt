-- The concatenation of two changesets, applied one after the other: the interface of SQLite's session extension,
-- under "sqlite3changegroup_add" and "sqlite3changeset_concat". The order, and that an update which modifies nothing is
-- left out, are this project's own.
use Rattle.std.specs.Prelude.{◌≡◌, ℕ, ◌<◌, ◌&&◌, nat_eq, Bool, true, false, if◌then◌else◌}
use Rattle.std.specs.Prelude.{List, [], ◌∷◌, ◌++◌, length, map, take, All, HoldsAt, filter, filter_map, find}
use Rattle.std.specs.Prelude.{Option, None, Some, is_none}
use Rattle.std.specs.Cmp.Lexicographic.{pointwise}
use Rattle.cs_value.specs.declared.value.OwnedField.{OwnedField}
use Rattle.cs_value.specs.declared.value.OwnedField.TheVariants.{Undefined, Defined}
use Rattle.cs_wire_entries.specs.declared.entry.Change.{Change}
use Rattle.cs_wire_entries.specs.declared.entry.Entry.{Entry}
use Rattle.cs_wire.specs.Entry.{IsEntry, before_image, after_image, key_of}
use Rattle.cs_wire.specs.Changeset.{HeaderData, GroupData, ImageData, IsChangeset}
use Rattle.cs_group.specs.declared.merging.Merged.{Merged}
use Rattle.cs_group.specs.declared.merging.Merged.TheVariants.{Keep, Becomes, Vanish}
use Rattle.cs_group.specs.Net.{by_flag, net_change}

-- ---- two entries of one key

-- one image laid over another: its fields where they are defined, elsewhere those of the other
abbrev pub over : OwnedField → OwnedField → OwnedField
over Undefined lower = lower
over (Defined v) lower = Defined v

abbrev pub laid_over : List OwnedField → List OwnedField → List OwnedField
laid_over [] lower = []
laid_over (upper ∷ uppers) [] = []
laid_over (upper ∷ uppers) (lower ∷ lowers) = over upper lower ∷ laid_over uppers lowers

-- the same of a row that may be absent: the fields of the upper one, and those of the lower one where it has none
abbrev pub known : Option (List OwnedField) → Option (List OwnedField) → Option (List OwnedField)
known None lower = None
known (Some upper) None = Some upper
known (Some upper) (Some lower) = Some (laid_over upper lower)

-- what two entries say of the row with their key: as it was before the first, and as it is after the second
abbrev pub joint_image : List ℕ → Change → Change → ImageData
joint_image flags first second = record {
  before = known (before_image first) (before_image second);
  after = known (after_image flags second) (after_image flags first);
}

-- both say that there is a row, or both that there is none
abbrev pub is_alike : Option (List OwnedField) → Option (List OwnedField) → Bool
is_alike None None = true
is_alike None (Some row) = false
is_alike (Some row) None = false
is_alike (Some row) (Some other) = true

-- the second change finds a row where the first leaves one, and none where it leaves none
abbrev pub follows : List ℕ → Change → Change → Bool
follows flags first second = is_alike (after_image flags first) (before_image second)

-- what becomes of the first entry
abbrev pub becomes : Bool → Option Change → Merged
becomes indirect None = Vanish
becomes indirect (Some change) = Becomes (record { indirect = indirect; change = change })

-- two entries of one key as one: the first stays where the second does not follow it, and else it becomes the net
-- change of both, which is indirect only where both are
abbrev pub merged : List ℕ → Entry → Entry → Merged
merged flags first second =
    if follows flags first.change second.change
    then becomes (first.indirect && second.indirect) (net_change flags (joint_image flags first.change second.change))
    else Keep

-- this holds of the entry that the first becomes, if it becomes another one
abbrev pub IfBecomes : Merged → (Entry → Type 0) → Type 0
IfBecomes Keep P = Unit {0}
IfBecomes (Becomes entry) P = P entry
IfBecomes Vanish P = Unit {0}

-- the entry fits the flags, and has the key
pub record FitsKey (flags key : List ℕ) (entry : Entry) : Type 0 where
  pub fits : IsEntry flags entry
  pub same : key_of flags entry.change ≡ key

-- ---- two lists of things, each known by a text: an entry by its key, a group by the name of its table

abbrev pub entry_key : List ℕ → Entry → List ℕ
entry_key flags entry = key_of flags entry.change

abbrev pub table_name : GroupData → List ℕ
table_name group = group.header.name

-- the thing with a text
abbrev pub with_text : {X : Type 0} → (X → List ℕ) → List X → List ℕ → Option X
with_text text_of xs text = find (λ x. pointwise nat_eq (text_of x) text) xs

-- no thing of the list has the text of this one
abbrev pub is_new : {X : Type 0} → (X → List ℕ) → List X → X → Bool
is_new text_of xs x = is_none (with_text text_of xs (text_of x))

-- the thing, where that is so
abbrev pub if_new : {X : Type 0} → (X → List ℕ) → List X → X → Option X
if_new text_of xs x = if is_new text_of xs x then Some x else None

-- what becomes of a thing with the one of its text in a list
abbrev pub outcome : {X : Type 0} → (X → List ℕ) → (X → Option X → Option X) → List X → X → Option X
outcome text_of join xs x = join x (with_text text_of xs (text_of x))

-- what becomes of each thing of the first list with the thing of its text in the second; then the things of the second
-- with a text that the first does not have
abbrev pub joined_by : {X : Type 0} → (X → List ℕ) → (X → Option X → Option X) → List X → List X → List X
joined_by text_of join first second =
    filter_map (outcome text_of join second) first ++ filter (is_new text_of first) second

-- ---- two lists of entries

-- what is left of an entry
abbrev pub left_of : Entry → Merged → Option Entry
left_of entry Keep = Some entry
left_of entry (Becomes other) = Some other
left_of entry Vanish = None

abbrev pub joined_entry : List ℕ → Entry → Option Entry → Option Entry
joined_entry flags entry None = Some entry
joined_entry flags entry (Some second) = left_of entry (merged flags entry second)

abbrev pub joined_entries : List ℕ → List Entry → List Entry → List Entry
joined_entries flags = joined_by (entry_key flags) (joined_entry flags)

-- ---- two changesets

-- a group, if it has an entry
abbrev pub some_group : HeaderData → List Entry → Option GroupData
some_group header [] = None
some_group header (entry ∷ entries) = Some (record { header = header; entries = entry ∷ entries })

abbrev pub joined_group : GroupData → Option GroupData → Option GroupData
joined_group group None = Some group
joined_group group (Some second) =
    some_group group.header (joined_entries group.header.flags group.entries second.entries)

abbrev pub joined : List GroupData → List GroupData → List GroupData
joined = joined_by table_name joined_group

-- ---- where two changesets can be joined

-- whether each column is one of the key
abbrev pub key_marks : List ℕ → List Bool
key_marks flags = map (λ flag. by_flag flag false true) flags

-- the table has the same columns and the same key in both
abbrev pub Agrees : GroupData → GroupData → Type 0
Agrees group other = other.header.name ≡ group.header.name
    → key_marks other.header.flags ≡ key_marks group.header.flags

abbrev pub AgreesWith : List GroupData → GroupData → Type 0
AgreesWith groups group = All (Agrees group) groups

-- each table that both changesets have agrees
abbrev pub AreJoinable : List GroupData → List GroupData → Type 0
AreJoinable first second = All (AgreesWith first) second

-- the group at this place of the second is the first that does not agree
pub record FirstClash (first second : List GroupData) (place : ℕ) : Type 0 where
  pub within : place < length second
  pub before : All (AgreesWith first) (take place second)
  pub clash : HoldsAt (λ g. AgreesWith first g → ⊥) second place

-- joined, where that can be
pub record IsJoined (first second join : List GroupData) : Type 0 where
  pub joinable : AreJoinable first second
  pub is_joined : join ≡ joined first second
  pub is_changeset : IsChangeset join
