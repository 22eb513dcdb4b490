-- `tables::JoinedTables::partner`: the clause `partner`.
use Rattle.std.proofs.Common.{sym, subst}
use Rattle.std.proofs.lemmas.Bool.{iff_false}
use Rattle.cs_changegroup.specs.Slots.{AreTables, TablesView}
use Rattle.cs_changegroup.proofs.TableLemmas.{empty_partner, some_partner}
use Rattle.cs_changegroup.proofs.tables.JoinedTables.partner.Goals as goal

pub returns-then-is_empty-clause-partner : goal.returns-then-is_empty-clause-partner
returns-then-is_empty-clause-partner c = λ files kept are.
    let inside = c.self.inside in
    let view : TablesView = record { tables = inside.tables.items; names = inside.names } in
    let own : AreTables files view kept = subst (λ (t : TablesView). AreTables files t kept) (sym c.self.view_is) are in
    empty_partner files view kept own c.args.name.now c.in_ok-index.index (c.in_ok-index.ensures.newest files kept are) c.index.result.now c.index.ensures (c.is_empty.ensures.0 c.if-is_empty.true)

pub returns-clause-partner : goal.returns-clause-partner
returns-clause-partner c = λ files kept are.
    let inside = c.self.inside in
    let view : TablesView = record { tables = inside.tables.items; names = inside.names } in
    let own : AreTables files view kept = subst (λ (t : TablesView). AreTables files t kept) (sym c.self.view_is) are in
    some_partner files view kept own c.args.name.now c.in_ok-index.index (c.in_ok-index.ensures.newest files kept are) c.index.result.now c.index.ensures (iff_false c.is_empty.ensures c.if-is_empty.false)
