-- What is refused for memory.
use Rattle.std.proofs.Common.{List, ℕ, Option, None, Some, Err, refl, inl, inr}
use Rattle.cs_rows.specs.declared.fault.StoreError.TheVariants as store
use Rattle.cs_file_texts.specs.declared.told.Told.{Told}
use Rattle.cs_shell_command_line.specs.Words.{Asked, Apply, Concat, Dump, Sql, Invert, Shell}
use Rattle.cs_folder.specs.Files.{Files}
use Rattle.cs_store_folder.specs.Visits.{RefusesVisit}
use Rattle.cs_shell_replies.specs.declared.refusal.Refusal.TheVariants as refusal
use Rattle.cs_shell.specs.CommandLine.{IsCommand}
use Rattle.cs_shell.specs.Outcomes.{Works}

-- a command may be refused for memory before it does anything
pub works_unable : {W : Type 0} (contents : W → Option (List ℕ)) (files : Option Files) (out : Told W) (asked : Asked)
    → IsCommand asked → Works contents files files out out asked (Err refusal.NoMemory)
works_unable contents files out (Apply file store policy noop) command = inl (refusal.NoMemory, refl, tt, refl, refl)
works_unable contents files out (Concat first second to) command = (tt, tt, refl, refl)
works_unable contents files out (Dump file) command = (tt, refl, refl)
works_unable contents files out (Sql file) command = (tt, refl, refl)
works_unable contents files out (Invert file to) command = (tt, tt, refl, refl)
works_unable contents files out (Shell file) command = command

-- and so may a visit
pub visit_unable : (files : Option Files) (name : List ℕ) → RefusesVisit files name store.NoMemory
visit_unable None name = inr (inl refl)
visit_unable (Some old) name = (inr (inl refl), λ held has. inl refl)
