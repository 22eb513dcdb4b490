-- `named::NamedTables::find`: the clauses `found` and `absent`.
use Rattle.std.proofs.Common.{map, ap, ◌∙◌}
use Rattle.std.specs.FinMap.{get}
use Rattle.cs_file_scan.specs.Named.{NamedTable, table_of}
use Rattle.cs_wire.proofs.IndexLemmas.{is_found, is_new}
use Rattle.cs_file_scan.proofs.named.NamedTables.find.Goals as goal

pub returns-clause-found : goal.returns-clause-found
returns-clause-found c =
    let inside = c.self.inside in
    rw (← c.self.view_is) (is_found (λ (t : NamedTable). t.header.name) inside.indices (map table_of inside.tables.items) c.args.name.now c.self.invariant.0 c.get.result (c.get.ensures ∙ ap (get inside.indices) c.as_bytes.ensures.value))

pub returns-clause-absent : goal.returns-clause-absent
returns-clause-absent c =
    let inside = c.self.inside in
    rw (← c.self.view_is) (is_new (λ (t : NamedTable). t.header.name) inside.indices (map table_of inside.tables.items) c.args.name.now c.self.invariant.0 c.get.result (c.get.ensures ∙ ap (get inside.indices) c.as_bytes.ensures.value))
