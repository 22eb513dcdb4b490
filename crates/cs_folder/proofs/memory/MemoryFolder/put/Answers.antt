-- `memory::MemoryFolder::put`: the clause `put`.
use Rattle.std.proofs.Common.{ℕ, Vec, Global, ap, ◌∙◌}
use Rattle.std.specs.FinMap as map
use Rattle.cs_value.proofs.ByteMaps.{seen_insert}
use Rattle.cs_folder.proofs.memory.MemoryFolder.put.Goals as goal

pub returns-in-Ok-clause-put : goal.returns-in-Ok-clause-put
returns-in-Ok-clause-put c =
    seen_insert (λ k. k.items) (λ (v : Vec ℕ Global). v.items) c.self.inside.files.entries c.insert.new.self.entries c.args.name c.args.bytes c.in-Ok.ensures.entries
    ∙ ap (λ m. map.insert m c.args.name.items c.args.bytes.items) c.self.view_is
