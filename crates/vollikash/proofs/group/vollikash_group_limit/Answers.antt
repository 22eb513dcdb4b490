-- `group::vollikash_group_limit`: the group is what it was.
use Rattle.std.proofs.Common.{ap, ◌∙◌}
use Rattle.std.specs.Prelude.{Option}
use Rattle.vollikash.specs.declared.held.Held.{Held}
use Rattle.vollikash.specs.declared.handle.Handle.{Handle}
use Rattle.vollikash.proofs.group.vollikash_group_limit.Goals as goal

abbrev with_value : Handle → Option Held → Handle
with_value handle value = record { at = handle.at; value = value }

pub returns-clause-same : goal.returns-clause-same
returns-clause-same c = ap (with_value c.is_null.new.self) c.as_mut.ensures.value ∙ c.is_null.ensures.same
