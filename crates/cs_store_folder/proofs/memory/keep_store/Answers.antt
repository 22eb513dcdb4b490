-- `memory::keep_store`: the clauses `kept` and `others`.
use Rattle.std.proofs.Common.{◌≡◌, ap, sym, subst, ◌∙◌}
use Rattle.sqlite.specs.Effect.{Database}
use Rattle.sqlite.specs.Files.{file_state}
use Rattle.cs_store_memory.specs.Memory.{HasDatabase, HasTables}
use Rattle.cs_store.specs.Turns.{SparesOthers}
use Rattle.cs_store_folder.proofs.VisitLemmas.{put_bytes}
use Rattle.cs_store_folder.proofs.memory.keep_store.Goals as goal

pub returns-in-Ok-clause-kept : goal.returns-in-Ok-clause-kept
returns-in-Ok-clause-kept c held stands =
    subst (HasTables held) (sym (put_bytes c.args.folder.now c.replace.new.self c.args.name.now c.as_slice.result.now c.in-Ok.ensures.replaced ∙ c.as_slice.ensures))
    (c.in_ok-file.ensures.left held stands)

pub returns-in-Ok-clause-others : goal.returns-in-Ok-clause-others
returns-in-Ok-clause-others c found held stands spares =
    let store = file_state c.args.store in
    let whole = c.in_ok-file.ensures.whole in (
      store.committed,
      subst (HasDatabase store.committed) (sym (put_bytes c.args.folder.now c.replace.new.self c.args.name.now c.as_slice.result.now c.in-Ok.ensures.replaced ∙ c.as_slice.ensures)) whole.1,
      subst (λ (db : Database). SparesOthers found db) (sym (stands whole.0).0.committed) (spares whole.0),
    )
