-- `store::open_file`: its clauses.
use Rattle.std.proofs.Common.{refl, ◌∙◌, sym, ap}
use Rattle.std.proofs.lemmas.Result.{IfErr-weaker}
use Rattle.cs_store_memory.specs.Memory.{alone}
use Rattle.cs_store_memory.proofs.FoundLemmas.{found_opens, found_refused, refuses_bytes}
use Rattle.cs_store_memory.proofs.HonestLemmas.{honest, honest_rest}
use Rattle.cs_store_memory.proofs.store.open_file.Goals as goal

pub returns-in-Ok-clause-opened : goal.returns-in-Ok-clause-opened
returns-in-Ok-clause-opened c = rw c.new.ensures.empty at c.in-Ok.ensures.opened (honest (λ disk. refl) c.in-Ok.store)

pub returns-in-Ok-clause-found : goal.returns-in-Ok-clause-found
returns-in-Ok-clause-found c held finds =
    found_opens held c.args.db.bytes.items _ (honest (λ disk. refl) c.in-Ok.store) (λ none same. c.in-Ok.ensures.new none (honest (λ disk. refl) c.in-Ok.store) ∙ sym same) finds (returns-in-Ok-clause-opened c)

pub returns-in-Err-clause-refused : goal.returns-in-Err-clause-refused
returns-in-Err-clause-refused c =
    refuses_bytes _ c.args.db.bytes.items c.in-Err.error c.in-Err._left (rw c.new.ensures.empty refl) (honest_rest (λ disk. refl) c.in-Err._left) c.in-Err.ensures.refused

pub returns-in-Err-clause-undamaged : goal.returns-in-Err-clause-undamaged
returns-in-Err-clause-undamaged c held finds =
    found_refused held c.args.db.bytes.items c.in-Err.error (λ none. c.in-Err.ensures.new none (honest_rest (λ disk. refl) c.in-Err._left)) finds (returns-in-Err-clause-refused c)
