-- What a run keeps of the entries that it carried out, as contracts see it.
use Rattle.std.specs.Prelude.{◌≡◌, ℕ, Bool, true, false, List, length, map}
use Rattle.cs_value.specs.State.{WrittenData}
use Rattle.cs_rows.specs.Editing.{written_of}
use Rattle.cs_apply_engine.specs.declared.tally.Writings.{Writings}
use Rattle.cs_apply_engine.specs.declared.tally.Writings.TheVariants.{Listed, Counted}

-- these were written, which is listed or counted
abbrev pub Tallies : Writings → List WrittenData → Type 0
Tallies (Listed written) reported = map written_of written.items ≡ reported
Tallies (Counted count) reported = count ≡ length reported

abbrev pub count_in : Writings → ℕ
count_in (Listed written) = length written.items
count_in (Counted count) = count

abbrev pub is_listed : Writings → Bool
is_listed (Listed written) = true
is_listed (Counted count) = false
