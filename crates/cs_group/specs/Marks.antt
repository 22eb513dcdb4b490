-- Which things of a second list have the text of one of a first, as a join marks them while it goes through the first.
-- No public contract names this: what a join makes is said by Joining.
use Rattle.std.specs.Prelude.{◌≡◌, ◌≢◌, ℕ, ◌<◌, not, Bool, false, List, AllPairs, length, get_or}
use Rattle.cs_wire.specs.Entry.{key_of}
use Rattle.cs_wire.specs.Keyed.{KeyedData}
use Rattle.cs_group.specs.Joining.{is_new}

-- no two entries have one key
abbrev pub AreApart : KeyedData → Type 0
AreApart keyed = AllPairs (λ d e. key_of keyed.flags d.change ≢ key_of keyed.flags e.change) keyed.entries

-- of the second things just those are marked that have the text of one of the first
abbrev pub AreMet : {X : Type 0} → (X → List ℕ) → List Bool → List X → List X → Type 0
AreMet {X} text_of met firsts seconds = (j : ℕ) (d : X) → j < length seconds
    → get_or met j false ≡ not (is_new text_of firsts (get_or seconds j d))
