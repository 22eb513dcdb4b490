-- `memory::MemoryFolder::get`: what it ensures.
use Rattle.std.proofs.Common.{ℕ, Vec, Global, ap, sym, ◌∙◌, Some, None}
use Rattle.cs_value.proofs.ByteMaps.{got_seen}
use Rattle.cs_folder.proofs.memory.MemoryFolder.get.Goals as goal

pub returns-in-Some : goal.returns-in-Some
returns-in-Some c =
    sym (ap Some c.as_slice.ensures.value ∙ got_seen (λ k. k.items) (λ (v : Vec ℕ Global). v.items) (Some c.in-Some.bytes.now) c.self.inside.files.entries c.args.name.now c.args.self.now (rw c.as_bytes.ensures.value at c.in-Some.ensures.value) c.self.view_is)

pub returns-in-None : goal.returns-in-None
returns-in-None c =
    sym (got_seen (λ k. k.items) (λ (v : Vec ℕ Global). v.items) None c.self.inside.files.entries c.args.name.now c.args.self.now (rw c.as_bytes.ensures.value at c.in-None.ensures.value) c.self.view_is)
