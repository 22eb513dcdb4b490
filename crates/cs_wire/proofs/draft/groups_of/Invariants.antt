use Rattle.std.proofs.Common.{◌≡◌, ◌++◌}
use Rattle.cs_wire.proofs.draft.groups_of.Given as goal

abbrev pub invariant-loop-draft : goal.invariant-loop-draft
invariant-loop-draft l = l.fn.drafts.items ≡ l.groups.items ++ l.draft-iterator.rest.items
