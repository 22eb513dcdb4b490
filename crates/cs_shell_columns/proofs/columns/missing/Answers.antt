-- `columns::missing`: the invariant of the loop at `name`.
use Rattle.std.proofs.Common.{ap, not, [], arith}
use Rattle.cs_shell_columns.specs.Names.{has_name}
use Rattle.cs_shell_columns.proofs.NameLemmas.{lent, mark_more}
use Rattle.cs_shell_columns.proofs.columns.missing.Goals as goal

pub loop-name-preserved : goal.loop-name-preserved
loop-name-preserved c =
    mark_more c.args.names.now c.loop-name.name-index (lent []) (omega arith) (λ name. not (has_name c.args.set.now name)) _ _ _ (ap not c.contains.ensures) c.in_ok-push.ensures.items c.loop-name.invariant
