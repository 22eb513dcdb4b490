-- The columns of a key, numbered: the documentation of SQLite's PRAGMA table_info, under "pk". These numbers are the
-- flags that its session extension writes, and with which its apply compares those of a changeset. That a key is in
-- column order, and the number of each column after the 255th of the key, are this project's own.
use Rattle.std.specs.Prelude.{ℕ, zero, suc, min, List, [], ◌∷◌, map}
use Rattle.cs_wire.specs.Changeset.{HeaderData, GroupData}
use Rattle.cs_group.specs.Inverse.{IsInverse}

-- the number of the next column of a key, after those with numbers up to this one: at most 255, since it is one byte
abbrev pub next_number : ℕ → ℕ
next_number last = suc (min last 254)

-- flags, those of the key numbered in column order after the numbers up to this one
abbrev pub numbered_behind : ℕ → List ℕ → List ℕ
numbered_behind last [] = []
numbered_behind last (zero ∷ flags) = zero ∷ numbered_behind last flags
numbered_behind last (suc flag ∷ flags) = next_number last ∷ numbered_behind (next_number last) flags

-- 1 for the first column of the key, 2 for the second and so on
abbrev pub numbered_flags : List ℕ → List ℕ
numbered_flags = numbered_behind 0

abbrev pub numbered_header : HeaderData → HeaderData
numbered_header header = record { name = header.name; flags = numbered_flags header.flags }

-- the entries stay
abbrev pub numbered_group : GroupData → GroupData
numbered_group group = record { header = numbered_header group.header; entries = group.entries }

abbrev pub numbered : List GroupData → List GroupData
numbered changeset = map numbered_group changeset

-- what undoes a changeset undoes, numbered, the numbered one
abbrev pub InvertsNumbered : List GroupData → List GroupData → Type 0
InvertsNumbered changeset other = (inverse : List GroupData) → IsInverse changeset inverse → IsInverse other (numbered inverse)
