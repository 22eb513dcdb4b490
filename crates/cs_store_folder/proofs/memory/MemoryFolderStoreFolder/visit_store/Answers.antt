-- `memory::MemoryFolderStoreFolder::visit_store`: the clauses `visited` and `refused`.
use Rattle.std.proofs.Common.{refl, sym, subst}
use Rattle.sqlite.specs.Files.{file_state}
use Rattle.cs_store.specs.Opening.{IsFoundIn}
use Rattle.cs_store.specs.Store.{tables_in}
use Rattle.cs_store_memory.specs.Memory.{FindsTables, RefusesBytes, alone}
use Rattle.cs_store_folder.proofs.VisitLemmas.{opened_spares}
use Rattle.cs_store_folder.proofs.memory.MemoryFolderStoreFolder.visit_store.Goals as goal

pub returns-in-Err-clause-refused : goal.returns-in-Err-clause-refused
returns-in-Err-clause-refused g c =
    let copied = c.in_ok-file.ensures.copied in (
      subst (λ b. RefusesBytes b c.in-Err.error) copied c.in-Err.ensures.refused,
      λ held finds. c.in-Err.ensures.undamaged held (subst (FindsTables held) (sym copied) finds),
    )

pub returns-clause-visited : goal.returns-clause-visited
returns-clause-visited g c =
    let opens = c.in-Ok.ensures.opened in
    let copied = c.in_ok-file.ensures.copied in
    let tables = tables_in (file_state c.in-Ok.store).now in
    let turned = c.visit.ensures.visited.done c.memory_files_law.ensures tables (λ is_open. (opens.at_rest, refl)) in
    let spared = c.visit.ensures.visited.others c.memory_files_law.ensures tables (λ is_open. (opens.at_rest, refl)) in
    record {
      file = c.keep_store-closed.ensures.file;
      found = opens.db;
      held = tables;
      opens = (subst (λ b. IsFoundIn (alone b) opens.db) copied opens.found, opens.held);
      visits = record {
        after = turned.0;
        visited = turned.2;
        kept = c.keep_store-closed.ensures.kept turned.0 turned.1;
      };
      others = c.keep_store-closed.ensures.others opens.db turned.0 turned.1 (λ is_open. opened_spares opens.db (file_state c.in-Ok.store).now _ opens.found.sound opens.others (spared.others is_open));
      known = λ before finds. sym (c.in-Ok.ensures.found before (subst (FindsTables before) (sym copied) finds));
    }
