-- `joining::join_groups`: what `into_group` asks for.
use Rattle.std.proofs.Common.{◌≡◌, ◌<◌, length, ap, ◌∙◌, rules}
use Rattle.cs_wire.specs.Keyed.{KeyedData}
use Rattle.cs_group.specs.Joining.{joined_entries}
use Rattle.cs_group.proofs.JoinLemmas.{joined_is_group}
use Rattle.cs_group.proofs.joining.join_groups.Goals as goal

pub into_group-requires-clause-group : goal.into_group-requires-clause-group
into_group-requires-clause-group c =
    let first = c.args.first.now in
    let second = c.args.second.now in
    let joined = c.in_ok-joined in
    let entries : joined.joined.entries ≡ joined_entries first.header.flags first.entries second.entries = joined.ensures.same in
    let left : 0 < length joined.joined.entries = search rules in
    let some : 0 < length (joined_entries first.header.flags first.entries second.entries) = rw entries at left in
    rw (ap (λ (k : KeyedData). k.entries) c.joined.view_is ∙ entries, c.in_ok-copy.ensures ∙ c.header.ensures.same) (joined_is_group first second c.header.ensures.well_formed joined.ensures.well_formed c.requires.agree some)
