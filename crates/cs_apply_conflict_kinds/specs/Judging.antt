-- How the changes of a table relate to the table of that name: the interface of SQLite's session extension, under
-- "sqlite3changeset_apply". There a table may have more columns than the changes; that this is refused is this
-- project's own.
use Rattle.std.specs.Prelude.{ℕ, zero, suc, nat_lt, Bool, true, false, if◌then◌else◌, List, [], ◌∷◌, length}
use Rattle.std.specs.Prelude.{Option, None, Some, option_map}
use Rattle.cs_value.specs.State.{State, schema_at}
use Rattle.cs_wire.specs.Changeset.{GroupData}
use Rattle.cs_apply_conflict_kinds.specs.declared.judging.Judgement.{Judgement}
use Rattle.cs_apply_conflict_kinds.specs.declared.judging.Judgement.TheVariants.{Skipped, Wider, Compatible}

-- the columns with these flags are the first ones of the table, with the same ones in the key
abbrev pub leads : List ℕ → List ℕ → Bool
leads [] table = true
leads (flag ∷ flags) [] = false
leads (zero ∷ flags) (zero ∷ table) = leads flags table
leads (zero ∷ flags) (suc other ∷ table) = false
leads (suc flag ∷ flags) (zero ∷ table) = false
leads (suc flag ∷ flags) (suc other ∷ table) = leads flags table

-- changes of columns with these flags are passed over where there is no table, where it has fewer columns and where it
-- has another key; it may be wider than they say
abbrev pub judgement : List ℕ → Option (List ℕ) → Judgement
judgement flags None = Skipped
judgement flags (Some table) =
    if leads flags table then (if nat_lt (length flags) (length table) then Wider else Compatible) else Skipped

-- a group and the table of its name
abbrev pub judged : State → GroupData → Judgement
judged state group = judgement group.header.flags (option_map (λ s. s.flags) (schema_at state group.header.name))

abbrev pub is_skipped : Judgement → Bool
is_skipped Skipped = true
is_skipped Wider = false
is_skipped Compatible = false

abbrev pub is_compatible : Judgement → Bool
is_compatible Skipped = false
is_compatible Wider = false
is_compatible Compatible = true
