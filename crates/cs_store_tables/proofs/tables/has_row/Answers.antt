-- `tables::has_row`: the clause `found`.
use Rattle.std.proofs.Common.{ℤ, ℕ, List, ap, sym, ◌∙◌}
use Rattle.std.specs.Option.{is_some}
use Rattle.sqlite.specs.Held.{state}
use Rattle.cs_value.specs.Spelling.{row_bytes}
use Rattle.cs_store_sql.specs.Records.{records_in}
use Rattle.cs_store_tables.proofs.ReadLemmas.{declared_row, shows_read, some_mapped}
use Rattle.cs_store_tables.proofs.tables.has_row.Goals as goal

pub returns-in-Ok-clause-found : goal.returns-in-Ok-clause-found
returns-in-Ok-clause-found g c sound clean declared =
    let old = state g.S.Store c.args.conn.now in
    let new = state g.S.Store c.find_record.new.conn in
    let name = c.args.name.now in
    let holds = shows_read old new sound c.find_record.ensures.keeps_crash clean (c.in-Ok.ensures.reads clean) in
    let stored = c.in-Ok.ensures.found clean holds.records ∙ ap (records_in old.now name) c.bytes.ensures ∙ declared_row old.now name c.args.key.now holds declared in
    c.is_some.ensures ∙ sym (some_mapped (λ (f : ℤ × List ℕ). f.1) c.in-Ok.found) ∙ ap is_some stored ∙ some_mapped row_bytes _
