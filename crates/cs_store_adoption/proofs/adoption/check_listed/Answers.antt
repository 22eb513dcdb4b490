-- `adoption::check_listed`: what `check_tables` asks for, the clause `refused`.
use Rattle.std.proofs.Common.{inl}
use Rattle.sqlite.specs.Held.{state}
use Rattle.cs_store_sql.specs.Records.{records_in}
use Rattle.cs_store_adoption.proofs.AdoptionLemmas.{none_held}
use Rattle.cs_store_adoption.proofs.adoption.check_listed.Goals as goal

pub check_tables-requires-clause-version : goal.check_tables-requires-clause-version
check_tables-requires-clause-version g c clean holds =
    rw c.in-Ok-Some.field-0-is at c.in-Ok-Some.ensures.read (records_in (state g.S.Store c.args.conn.now).now) (c.requires.listed clean holds)

pub returns-in-Err-clause-refused : goal.returns-in-Err-clause-refused
returns-in-Err-clause-refused g c clean =
    let db = (state g.S.Store c.args.conn.now).now in
    let lists = c.requires.listed clean in
    let e = c.in-Err.ensures.refused in
    inl (e.0, none_held db c.args.listed.now (c.requires.declared clean).0 lists e.1 (λ holds valid. e.2 (records_in db) (lists holds) valid))
