-- `files::open_copy`: the store is the one that the files hold, and is refused since memory ran out, or by the database.
use Rattle.std.proofs.Common.{inl, inr, refl}
use Rattle.cs_store_memory.proofs.HonestLemmas.{honest, honest_rest}
use Rattle.cs_calls_memory.proofs.FilesLemmas.{opened_in}
use Rattle.cs_calls_memory.proofs.files.open_copy.Goals as goal

pub returns-in-Ok-clause-found : goal.returns-in-Ok-clause-found
returns-in-Ok-clause-found c =
    opened_in _ c.in-Ok.store
    (rw (c.in_ok-copy_of.ensures.copied, c.in_ok-copy_of-2.ensures.copied, c.as_slice.ensures, c.as_slice-2.ensures) at c.in-Ok.ensures.opened (honest (λ disk. refl) c.in-Ok.store))
    c.crash_law.ensures

pub returns-in-Err-clause-refused : goal.returns-in-Err-clause-refused
returns-in-Err-clause-refused c held (inl left) =
    c.in-Err.ensures.recovers held (rw (c.in_ok-copy_of.ensures.copied, c.in_ok-copy_of-2.ensures.copied, c.as_slice.ensures, c.as_slice-2.ensures) left) (honest_rest (λ disk. refl) c.in-Err._left)
returns-in-Err-clause-refused c held (inr none) =
    c.in-Err.ensures.new (rw (c.in_ok-copy_of-2.ensures.copied, c.as_slice-2.ensures) none.0) (honest_rest (λ disk. refl) c.in-Err._left)
