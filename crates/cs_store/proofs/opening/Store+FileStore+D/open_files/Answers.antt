-- `opening::Store+FileStore+D::open_files`: the clauses `opened`, `refused`, `recovers` and `new`.
use Rattle.sqlite.specs.Files.{file_state, image_of}
use Rattle.cs_store_tables.specs.Laws.{was_clean}
use Rattle.cs_store.proofs.OpeningLemmas.{opens_files, refuses_found, new_opens, new_refuses}
use Rattle.cs_store.proofs.LeftLemmas.{left_opens, left_refuses}
use Rattle.cs_store.proofs.opening.Store+FileStore+D.open_files.Goals as goal

pub returns-in-Ok-adopt-clause-opened : goal.returns-in-Ok-adopt-clause-opened
returns-in-Ok-adopt-clause-opened g c clean =
    let adopts = c.in-Ok-adopt.ensures.adopted clean in
    let opened = c.in-Ok.ensures.opened adopts.was_clean in
    let finds = c.in-Ok.ensures.found adopts.was_clean in
    opens_files (image_of g.D.Disk c.args.files) _ _ (record { holds = finds.holds; reads = finds.reads }) opened.0 opened.1 adopts

pub returns-in-Err-adopt-clause-refused : goal.returns-in-Err-adopt-clause-refused
returns-in-Err-adopt-clause-refused g c clean =
    let found_clean = was_clean (file_state c.in-Ok.conn) (file_state c.in-Err-adopt.conn) c.in-Err-adopt.ensures.survives clean in
    let opened = c.in-Ok.ensures.opened found_clean in
    let finds = c.in-Ok.ensures.found found_clean in
    refuses_found (image_of g.D.Disk c.args.files) _ _ _ c.in-Ok.ensures.fresh (record { holds = finds.holds; reads = finds.reads }) opened.0 opened.1 (c.in-Err-adopt.ensures.refused clean) (c.in-Err-adopt.ensures.caused clean) (c.in-Err-adopt.ensures.kept clean) c.in-Err-adopt.ensures.survives c.in-Err-adopt.ensures.leaves clean

pub returns-in-Ok-adopt-clause-recovers : goal.returns-in-Ok-adopt-clause-recovers
returns-in-Ok-adopt-clause-recovers g c held left clean = left_opens held _ _ left (returns-in-Ok-adopt-clause-opened g c clean)

pub returns-in-Err-adopt-clause-recovers : goal.returns-in-Err-adopt-clause-recovers
returns-in-Err-adopt-clause-recovers g c held left clean = left_refuses held _ _ _ left (returns-in-Err-adopt-clause-refused g c clean)

pub returns-in-Ok-adopt-clause-new : goal.returns-in-Ok-adopt-clause-new
returns-in-Ok-adopt-clause-new g c none clean = new_opens _ _ none (returns-in-Ok-adopt-clause-opened g c clean)

pub returns-in-Err-adopt-clause-new : goal.returns-in-Err-adopt-clause-new
returns-in-Err-adopt-clause-new g c none clean = new_refuses _ _ _ none (returns-in-Err-adopt-clause-refused g c clean)
