-- `applying::apply_in_memory`: what it ensures where there is a store.
use Rattle.std.proofs.Common.{inl}
use Rattle.std.specs.FinMap as map
use Rattle.cs_shell_commands.proofs.applying.apply_in_memory.Goals as goal

pub returns-in-Ok : goal.returns-in-Ok
returns-in-Ok g c =
    let turned = c.apply_unnoted-reply.ensures.works.done c.memory_files_law.ensures map.empty (λ is_open. (c.in-Ok.ensures.at_rest, c.in-Ok.ensures.empty)) in
    inl (c.apply_unnoted-reply.result, turned.0, turned.2, c.tell_reply.ensures)
