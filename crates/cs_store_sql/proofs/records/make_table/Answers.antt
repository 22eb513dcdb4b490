-- `records::make_table`: the clauses `made`, `others` and `failed`.
use Rattle.std.proofs.Common.{inr, refl, subst}
use Rattle.sqlite.specs.Held.{state}
use Rattle.cs_store_sql.specs.Layout.{IsDeclaration}
use Rattle.cs_store_sql.specs.Records.{DeclaresRecords}
use Rattle.cs_store_sql.proofs.TableLemmas.{made_keeps, made_holds, made_unsupported}
use Rattle.cs_store_sql.proofs.records.make_table.Goals as goal

pub returns-in-Records-clause-made : goal.returns-in-Records-clause-made
returns-in-Records-clause-made g c clean lacks =
    let new = state g.S.Store c.create_table.new.conn in
    let declares : DeclaresRecords c.schema.result.now = subst (IsDeclaration c.schema.result.now) c.in-Records.is c.in_ok-declaration_of.ensures in
    made_holds (state g.S.Store c.args.conn.now).now new.now (c.in_ok-create_table.ensures.makes clean) lacks (subst DeclaresRecords c.schema.ensures.value declares)

pub returns-in-Records-clause-others : goal.returns-in-Records-clause-others
returns-in-Records-clause-others g c clean = made_keeps (state g.S.Store c.args.conn.now).now (state g.S.Store c.create_table.new.conn).now (c.in_ok-create_table.ensures.makes clean)

pub returns-in_default-clause-failed : goal.returns-in_default-clause-failed
returns-in_default-clause-failed g c clean =
    let old = state g.S.Store c.args.conn.now in
    let new = state g.S.Store c.create_table.new.conn in
    let made = c.in_ok-create_table.ensures.makes clean in
    let is : IsDeclaration new.now.schema c.in_ok-declaration_of.field-0 = subst (λ schema. IsDeclaration schema c.in_ok-declaration_of.field-0) c.schema.ensures.value c.in_ok-declaration_of.ensures in
    (λ memory. absurd cc, inr (refl, made, made_unsupported old.now new.now c.in_ok-declaration_of.field-0 made is c.in_default.not-Records))
