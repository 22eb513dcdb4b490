-- `slots::Slots::insert`: the clause `ok`.
use Rattle.std.proofs.Common.{ℕ, Vec, Global, ap, ◌∙◌}
use Rattle.std.specs.FinMap as map
use Rattle.cs_value.proofs.ByteMaps.{seen_insert}
use Rattle.cs_shell_executor.proofs.slots.Slots.insert.Goals as goal

pub returns-clause-ok : goal.returns-clause-ok
returns-clause-ok c =
    seen_insert (λ k. k.items) (λ (v : Vec ℕ Global). v.items) c.self.inside.slots.entries c.insert.new.self.entries c.in_ok-from_slice.field-0 c.args.bytes c.in_ok-insert.ensures.entries
    ∙ ap (λ m. map.insert m c.in_ok-from_slice.field-0.items c.args.bytes.items) c.self.view_is
    ∙ ap (λ name. map.insert c.args.self.now name c.args.bytes.items) c.in_ok-from_slice.ensures.items
