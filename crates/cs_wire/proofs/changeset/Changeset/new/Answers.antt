-- `changeset::Changeset::new`: the invariant of `result`.
use Rattle.std.proofs.Common.{arith}
use Rattle.std.proofs.lemmas.List.Elements.{All-nil}
use Rattle.cs_wire_entries.specs.Changeset.{IsGroup}
use Rattle.cs_wire.proofs.IndexLemmas.{IsIndex-none}
use Rattle.cs_wire.proofs.changeset.Changeset.new.Goals as goal

pub invariant_of-result : goal.invariant_of-result
invariant_of-result c =
    rw (c.new.ensures.items, c.new-2.ensures) (record { each = All-nil IsGroup; once = λ i j d lt in_list. absurd (omega arith) }, IsIndex-none)
