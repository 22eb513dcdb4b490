-- The text of what an apply did, on a table `t` of two columns, with the first as its key.
use Rattle.std.proofs.Common.{◌≡◌, false, Some, [], codes, refl}
use Rattle.std.specs.Fmt.{digits}
use Rattle.cs_wire_entries.specs.declared.entry.Change.TheVariants.{Insert}
use Rattle.cs_wire.proofs.Examples.{row}
use Rattle.cs_apply_conflict_kinds.specs.declared.conflict.Kind.TheVariants.{Conflict}
use Rattle.cs_apply_conflict_kinds.specs.declared.conflict.Choice.TheVariants.{Replace}
use Rattle.cs_apply_conflict_kinds.specs.Applying.{ConflictData}
use Rattle.cs_value.specs.Quoting.{doubled}
use Rattle.cs_shell_replies.specs.Report.{skip_text, met_text, ignored_text, count_text}

computing : Unit {0}
unfolding digits doubled skip_text met_text ignored_text count_text
computing = tt

-- the insertion of (1, 'x') met a row
met_insert : ConflictData
met_insert = record {
  kind = Conflict;
  table = codes "t";
  entry = record { indirect = false; change = Insert row };
  current = Some row;
}

reports_are_told :
    (met_text (record { conflict = met_insert; choice = Replace }) ≡ codes "conflict 3 conflict replace 't'\n")
    × (skip_text (codes "z") ≡ codes "warning 17 skipped 'z'\n")
    -- a report without an ignored entry does not say so
    × (ignored_text 1 ≡ codes "ignored 1\n")
    × (ignored_text 0 ≡ [])
    × (count_text 0 ≡ codes "applied 0\n")
unfolding computing met_insert
reports_are_told = (refl, refl, refl, refl, refl)
