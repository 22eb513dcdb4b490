-- `host::MemoryHost::open`: its clauses.
use Rattle.std.proofs.Common.{◌≡◌, ap, subst}
use Rattle.sqlite.specs.Files.{file_state}
use Rattle.cs_value.specs.State.{State}
use Rattle.cs_store.specs.Crash.{LeavesOnly}
use Rattle.cs_calls_memory.specs.declared.host.MemoryHost.TheVariants as kind
use Rattle.cs_calls_memory.proofs.FilesLemmas.{shown_lasts}
use Rattle.cs_calls_memory.proofs.host.MemoryHost.open.Goals as goal

pub returns-in-Ok-open_file-clause-opened : goal.returns-in-Ok-open_file-clause-opened
returns-in-Ok-open_file-clause-opened c =
    record {
      store = c.in-Ok-open_file.store;
      is = ap kind.Open c.new.ensures;
      opens = rw c.in-Ok.ensures.copied at c.in-Ok-open_file.ensures.opened;
      lasts = shown_lasts _ c.in-Ok-open_file.store c.in-Ok-open_file.ensures.opened c.crash_law.ensures;
    }

pub returns-in-Ok-open_file-clause-found : goal.returns-in-Ok-open_file-clause-found
returns-in-Ok-open_file-clause-found c held finds =
    let found = c.in-Ok-open_file.ensures.found held (rw c.in-Ok.ensures.copied finds) in
    rw c.new.ensures (subst (λ (t : State). LeavesOnly (λ left. left ≡ t) (file_state c.in-Ok-open_file.store)) found
    (shown_lasts _ c.in-Ok-open_file.store c.in-Ok-open_file.ensures.opened c.crash_law.ensures))

pub returns-in-Err-open_file-clause-undamaged : goal.returns-in-Err-open_file-clause-undamaged
returns-in-Err-open_file-clause-undamaged c held finds = c.in-Err-open_file.ensures.undamaged held (rw c.in-Ok.ensures.copied finds)
