-- `names::name_set`: the invariant of the loop at `name`.
use Rattle.std.proofs.Common.{[], arith}
use Rattle.cs_shell_columns.proofs.NameLemmas.{lent, set_more}
use Rattle.cs_shell_columns.proofs.names.name_set.Goals as goal

pub loop-name-preserved : goal.loop-name-preserved
loop-name-preserved c =
    set_more c.args.names.now c.loop-name.name-index (lent []) (omega arith) c.loop-name.set c.insert.new.self c.in_ok-insert.ensures.updates c.loop-name.invariant
