-- `tables::list_tables`: the clauses `listed`, `refused` and `kept`.
use Rattle.sqlite.specs.Held.{state}
use Rattle.sqlite.specs.State.{HasCleanDisk}
use Rattle.std.specs.FinMap as map
use Rattle.cs_store_sql.specs.Records.{records_in}
use Rattle.cs_store_tables.specs.Store.{IsSound, AreNamed, tables_in}
use Rattle.cs_store_tables.proofs.ReadLemmas.{shows_read}
use Rattle.cs_store_tables.proofs.StoreLemmas.{rests_keeps}
use Rattle.cs_store_tables.proofs.StoredLists.{names_listed, names_are, named_ok, named_err}
use Rattle.cs_store_tables.proofs.tables.list_tables.Goals as goal

-- the names that are read are those of the tables
named : (g : _) (c : goal.After-drop-listed g) → IsSound (state g.S.Store c.args.conn.now) → HasCleanDisk (state g.S.Store c.list_records.new.conn)
    → AreNamed c.names_behind.result (map.keys (tables_in (state g.S.Store c.args.conn.now).now))
named g c sound clean =
    let old = state g.S.Store c.args.conn.now in
    let new = state g.S.Store c.list_records.new.conn in
    let holds = shows_read old new sound c.list_records.ensures.keeps_crash clean (c.in-Ok.ensures.reads clean) in
    let tables = tables_in old.now in
    c.names_behind.ensures.read (map.keys tables) (rw c.deref.ensures.value (names_listed (records_in old.now) tables c.in-Ok.listed.items holds.stores (c.in-Ok.ensures.listed clean holds.records))) (names_are tables holds.stores.is_state)

pub returns-in-Ok-clause-listed : goal.returns-in-Ok-clause-listed
returns-in-Ok-clause-listed g c sound clean = named_ok c.names_behind.result _ (named g c sound clean)

pub returns-in-Ok-clause-refused : goal.returns-in-Ok-clause-refused
returns-in-Ok-clause-refused g c sound clean = named_err c.names_behind.result _ (named g c sound clean)

pub returns-in-Err-clause-kept : goal.returns-in-Err-clause-kept
returns-in-Err-clause-kept g c = rests_keeps (state g.S.Store c.args.conn.now) (state g.S.Store c.list_records.new.conn) c.list_records.ensures.keeps_crash c.in-Err.ensures.rests
