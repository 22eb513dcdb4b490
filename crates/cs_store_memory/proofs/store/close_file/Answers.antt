-- `store::close_file`: the clauses `left` and `whole`.
use Rattle.std.proofs.Common.{refl, inl, ap, ◌∙◌, subst}
use Rattle.cs_store.specs.Store.{tables_in}
use Rattle.cs_store_memory.specs.Memory.{HasTables, bytes_of}
use Rattle.cs_store_memory.proofs.CloseLemmas.{left_alone}
use Rattle.cs_store_memory.proofs.store.close_file.Goals as goal

pub returns-in-Ok-clause-left : goal.returns-in-Ok-clause-left
returns-in-Ok-clause-left c held stands =
    let copied = rw c.into_connection-conn.ensures at c.in-Ok.ensures.copied refl in
    let at_rest = stands copied.was_open in
    subst (λ t. HasTables t (bytes_of c.in-Ok.files.db)) (ap tables_in at_rest.0.committed ∙ at_rest.1)
    (inl (left_alone (λ file. refl) c.args.store c.in-Ok.files c.crash_law.ensures copied))

pub returns-in-Ok-clause-whole : goal.returns-in-Ok-clause-whole
returns-in-Ok-clause-whole c =
    let copied = rw c.into_connection-conn.ensures at c.in-Ok.ensures.copied refl in
    let sound = rw c.into_connection-conn.ensures at c.sound_law.ensures in
    (copied.was_open, (sound copied.was_open, copied.seen.alone))
