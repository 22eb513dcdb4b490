-- What calls of a store, one after another, keep next to its records.
use Rattle.sqlite.specs.Effect.{Database}
use Rattle.cs_store.specs.Turns.{SparesOthers, by_nothing, by_each}

-- these calls, and then those
pub spares_then : (old mid new : Database) → SparesOthers old mid → SparesOthers mid new → SparesOthers old new
spares_then old mid new one by_nothing = one
spares_then old mid new one (by_each last end two sound keeps) = by_each last end (spares_then old mid last one two) sound keeps
