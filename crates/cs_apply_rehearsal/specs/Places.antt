-- The entries of a changeset as the search for an index has them. No public contract names this.
use Rattle.cs_apply_conflict_kinds.specs.Applying.{PlacedEntry, placed_by}
use Rattle.cs_apply_rehearsal.specs.declared.places.Place.{Place}

abbrev pub place_of : Place → PlacedEntry
place_of p = placed_by p.header.now p.entry.now
