-- The inverse of a changeset: the introduction to SQLite's session extension, under "inverting a changeset". That the
-- order stays is this project's own.
use Rattle.std.specs.Prelude.{◌≡◌, List, [], map}
use Rattle.std.specs.List.{AllZip}
use Rattle.cs_wire.specs.Changeset.{GroupData, IsChangeset}
use Rattle.cs_wire.specs.Inverse.{IsInverseGroup}
use Rattle.cs_wire.specs.Views.{inverse_entry}
use Rattle.cs_group.specs.Joining.{IsJoined}

-- the inverses of the groups, in their order
abbrev pub IsInverse : List GroupData → List GroupData → Type 0
IsInverse changeset inverse = AllZip IsInverseGroup changeset inverse

-- a changeset has exactly one inverse
abbrev pub ChangesetInverses : Type 0
ChangesetInverses = (changeset inverse other : List GroupData) → IsChangeset inverse → IsChangeset other
    → IsInverse changeset inverse → IsInverse changeset other → inverse ≡ other

-- the inverse of the inverse is the changeset
abbrev pub InverseTwice : Type 0
InverseTwice = (changeset inverse twice : List GroupData) → IsChangeset changeset → IsChangeset twice
    → IsInverse changeset inverse → IsInverse inverse twice → twice ≡ changeset

-- a changeset and its inverse join to nothing
abbrev pub InverseJoins : Type 0
InverseJoins = (changeset inverse join : List GroupData) → IsChangeset changeset → IsChangeset inverse → IsInverse changeset inverse
    → IsJoined changeset inverse join → join ≡ []

-- what undoes the entries of a group, in their order
abbrev pub inverse_group : GroupData → GroupData
inverse_group group = record { header = group.header; entries = map (inverse_entry group.header.flags) group.entries }
