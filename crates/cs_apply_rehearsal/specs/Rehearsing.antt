-- The choices of a rehearsal.
use Rattle.cs_apply_conflict_kinds.specs.declared.conflict.Kind.{Kind}
use Rattle.cs_apply_conflict_kinds.specs.declared.conflict.Kind.TheVariants.{Data, NotFound, Conflict, Constraint}
use Rattle.cs_apply_conflict_kinds.specs.declared.conflict.Choice.{Choice}
use Rattle.cs_apply_conflict_kinds.specs.declared.conflict.Choice.TheVariants.{Omit, Replace}
use Rattle.cs_apply_conflict_kinds.specs.Applying.{Choices}

-- REPLACE for the kinds that allow it, and OMIT for the others. With these choices an apply has each conflict that any
-- choices lead to: the first one of each entry, and the CONSTRAINT after a REPLACE.
abbrev pub replace_or_omit : Kind → Choice
replace_or_omit Data = Replace
replace_or_omit NotFound = Omit
replace_or_omit Conflict = Replace
replace_or_omit Constraint = Omit

abbrev pub rehearsing : Choices
rehearsing p kind = replace_or_omit kind
