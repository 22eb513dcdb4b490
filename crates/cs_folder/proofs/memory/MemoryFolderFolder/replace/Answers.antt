-- `memory::MemoryFolderFolder::replace`: the clause `failed`.
use Rattle.std.proofs.Common.{sym, ◌∙◌}
use Rattle.std.proofs.lemmas.Result.{IfErr-weaker}
use Rattle.cs_folder.proofs.memory.MemoryFolderFolder.replace.Goals as goal

pub returns-clause-failed : goal.returns-clause-failed
returns-clause-failed c = IfErr-weaker c.put.result _ _ (λ fault memory failed. absurd (let e = sym memory ∙ failed in cc)) c.put.ensures.refused
