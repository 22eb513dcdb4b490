-- `named::NamedTables::push`: the invariant of `self`.
use Rattle.std.proofs.Common.{◌≡◌, length, map, ap, ◌∙◌, sym, arith}
use Rattle.std.proofs.lemmas.List.{length-map, map-append}
use Rattle.cs_value.proofs.ListLemmas.{AllByRecursion-push}
use Rattle.cs_wire.specs.Changeset.{IsHeader}
use Rattle.cs_wire.specs.Headers.{header_of}
use Rattle.cs_wire.proofs.IndexLemmas.{IsIndex-grown}
use Rattle.cs_file_scan.specs.declared.checked.ListedTable.{ListedTable}
use Rattle.cs_file_scan.specs.Named.{NamedTable, table_of}
use Rattle.cs_file_scan.proofs.named.NamedTables.push.Goals as goal

pub invariant_of-self-in-Ok : goal.invariant_of-self-in-Ok
invariant_of-self-in-Ok c =
    let inside = c.self.inside in
    let tables = map table_of inside.tables.items in
    let index : c.len-index.result ≡ length tables = omega (arith, c.len-index.ensures, length-map inside.tables.items table_of) in
    let grown = ap (map table_of) c.in_ok-push.ensures.items ∙ map-append table_of inside.tables.items _ in (
      rw grown (IsIndex-grown (λ (t : NamedTable). t.header.name) inside.indices c.insert.new.self tables (table_of c.args.table) c.as_bytes.result.now c.len-index.result c.self.invariant.0 (sym c.as_bytes.ensures.value) index c.in-Ok.ensures.ok),
      rw c.in_ok-push.ensures.items (AllByRecursion-push (λ (t : ListedTable). IsHeader (header_of t.header)) inside.tables.items c.args.table c.self.invariant.1 c.requires),
    )
