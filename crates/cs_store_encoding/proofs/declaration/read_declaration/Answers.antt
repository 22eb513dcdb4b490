-- `declaration::read_declaration`: the clauses `refused` and `found`.
use Rattle.std.proofs.Common.{◌≡◌, List, ℕ, map, string_bytes, length, sym, subst, ◌∙◌, inl, inr}
use Rattle.std.proofs.lemmas.Result.{err_from_is_err_and}
use Rattle.cs_value.specs.State.{SchemaData, IsSchema}
use Rattle.cs_store_encoding.specs.Declaration.{column_codes, columns_bytes, declaration_bytes, ColumnsData, schema_of_columns}
use Rattle.cs_store_encoding.proofs.CodeLemmas.{columns_of}
use Rattle.cs_store_encoding.proofs.DeclarationLemmas.{declared_count, declared_columns, declared_made, declaration_is, found_declared, refused_declared}
use Rattle.cs_store_encoding.proofs.declaration.read_declaration.Goals as goal

pub returns-in_err-count-clause-refused : goal.returns-in_err-count-clause-refused
returns-in_err-count-clause-refused c =
    let p = err_from_is_err_and c.from_residual.result c.from_residual.ensures.1 in
    let no_count = c.in_err-count.ensures.refused in
    rw (p.1, p.2) (inl (
      no_count.0,
      λ d.
          let begins = declared_count c.args.bytes.now d.0 d.1 d.2 in
          no_count.1 (length d.0.columns) (columns_bytes (column_codes d.0.flags d.0.refuses) d.0.columns) begins.0 begins.1,
    ))

pub returns-in_err-columns-clause-refused : goal.returns-in_err-columns-clause-refused
returns-in_err-columns-clause-refused c =
    let p = err_from_is_err_and c.from_residual-in_err-columns.result c.from_residual-in_err-columns.ensures.1 in
    let count = c.in_ok-count.ensures.found in
    rw (p.1, p.2) (elim c.in_err-columns.ensures.refused [
      | inl h ↦ inl (
        h.0,
        λ d.
            let declared = declared_columns c.args.bytes.now c.in_ok-count.rest.now c.in_ok-count.count d.0 count.0 count.1 d.1 d.2 in
            h.1 (columns_of d.0) declared.0 declared.1,
      )
      | inr h ↦ inr h
    ])

pub returns-clause-refused : goal.returns-clause-refused
returns-clause-refused c =
    let count = c.in_ok-count.ensures.found in
    let found = c.in_ok-columns.ensures.found in
    let read : ColumnsData = record { names = map string_bytes c.in_ok-columns.columns.items; bytes = c.in_ok-columns.codes.items } in
    let made : List ℕ → SchemaData = (λ codes. schema_of_columns (record { names = read.names; bytes = codes })) in
    refused_declared c.args.bytes.now c.schema_by.result (IsSchema (made c.deref.result.now))
    (λ d.
    let declared = declared_columns c.args.bytes.now c.in_ok-count.rest.now c.in_ok-count.count d.0 count.0 count.1 d.1 d.2 in
    let is = declared_made c.in_ok-count.count read d.0 found.0 declared.0 (sym found.1 ∙ declared.1) d.1 in
    subst (λ codes. IsSchema (made codes)) (sym c.deref.ensures.value) is)
    c.schema_by.ensures.refused

pub returns-clause-found : goal.returns-clause-found
returns-clause-found c =
    let bytes = c.args.bytes.now in
    let count = c.in_ok-count.ensures.found in
    let found = c.in_ok-columns.ensures.found in
    let read : ColumnsData = record { names = map string_bytes c.in_ok-columns.columns.items; bytes = c.in_ok-columns.codes.items } in
    let made : List ℕ → SchemaData = (λ codes. schema_of_columns (record { names = read.names; bytes = codes })) in
    let is = declaration_is bytes c.in_ok-count.rest.now c.in_ok-count.count read count.1 found.0 found.1 in
    found_declared bytes (made c.deref.result.now) c.schema_by.result c.schema_by.ensures.made c.schema_by.ensures.well_formed
    (subst (λ codes. IsSchema (made codes) → bytes ≡ declaration_bytes (made codes)) (sym c.deref.ensures.value) is)
