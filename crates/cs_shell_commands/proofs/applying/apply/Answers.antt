-- `applying::apply`: what it ensures for a store in memory.
use Rattle.std.proofs.Common.{◌≡◌, refl, inl, inr, rules}
use Rattle.cs_shell_command_line.specs.Words.{in_memory}
use Rattle.cs_shell_commands.proofs.applying.apply.Goals as goal

pub returns-in-Ok : goal.returns-in-Ok
returns-in-Ok g c =
    let is : c.args.store.now ≡ in_memory = search rules in
    inr (c.in-Ok.bytes.items, c.in-Ok.ensures.read, inl (is, rw c.deref.ensures.value at c.apply_in_memory.ensures, refl))
