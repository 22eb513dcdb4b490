-- What a run reports, as contracts see it.
use Rattle.std.specs.Prelude.{string_bytes}
use Rattle.cs_apply_conflict_kinds.specs.declared.conflict.Kind.{Kind}
use Rattle.cs_apply_conflict_kinds.specs.declared.conflict.Kind.TheVariants as kind
use Rattle.cs_apply_conflict_kinds.specs.declared.conflict.Choice.{Choice}
use Rattle.cs_apply_conflict_kinds.specs.Applying.{ConflictData, MetData}
use Rattle.cs_apply_engine.specs.declared.conflict.Conflict.{Conflict}
use Rattle.cs_apply_engine.specs.declared.conflict.Met.{Met}
use Rattle.cs_apply_engine.specs.declared.policy.Policy.{Policy}

abbrev pub conflict_of : Conflict → ConflictData
conflict_of c = record { kind = c.kind; table = string_bytes c.table; entry = c.entry; current = c.current }

abbrev pub met_of : Met → MetData
met_of m = record { conflict = conflict_of m.conflict; choice = m.choice }

-- what a policy chooses for a kind of conflict
abbrev pub chosen : Policy → Kind → Choice
chosen policy kind.Data = policy.on_data
chosen policy kind.NotFound = policy.on_notfound
chosen policy kind.Conflict = policy.on_conflict
chosen policy kind.Constraint = policy.on_constraint
