-- `slots::Slots::get`: what it ensures.
use Rattle.std.proofs.Common.{ℕ, Vec, Global, ap, sym, refl, ◌∙◌, Some, None}
use Rattle.cs_value.proofs.ByteMaps.{got_seen}
use Rattle.cs_shell_executor.proofs.slots.Slots.get.Goals as goal

pub returns-in-Some : goal.returns-in-Some
returns-in-Some c =
    sym (ap Some c.as_slice.ensures.value ∙ got_seen (λ k. k.items) (λ (v : Vec ℕ Global). v.items) (Some c.in-Some.bytes.now) c.self.inside.slots.entries c.args.name.now c.args.self.now c.in-Some.ensures.value c.self.view_is)

pub returns-in-None : goal.returns-in-None
returns-in-None c =
    (refl, sym (got_seen (λ k. k.items) (λ (v : Vec ℕ Global). v.items) None c.self.inside.slots.entries c.args.name.now c.args.self.now c.in-None.ensures.value c.self.view_is))
