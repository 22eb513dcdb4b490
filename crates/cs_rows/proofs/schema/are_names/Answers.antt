-- `schema::are_names`: the invariant of the loop at `column`, what it ensures.
use Rattle.std.proofs.Common.{◌≡◌, ◌<◌, length, map, take, string_bytes, sym, ap, subst, ◌∙◌, arith}
use Rattle.std.specs.List.{AllByRecursion}
use Rattle.std.proofs.lemmas.List.{length-map, take_all}
use Rattle.cs_value.specs.State.{IsColumnName}
use Rattle.cs_rows.proofs.SchemaLemmas.{name_all, names_more, name_here}
use Rattle.cs_rows.proofs.schema.are_names.Goals as goal

pub returns-then-not-is_name : goal.returns-then-not-is_name
returns-then-not-is_name c =
    let columns = c.args.columns.now in
    let i = c.loop-column.column-index in
    let name = c.as_str.result.now in
    let within : i < length (map string_bytes columns) = rw length-map (omega arith) in
    let here = name_here columns i c.column-item.result name (omega arith) c.column-item.is ∙ sym c.as_str.ensures.value in
    (λ e. absurd cc, λ h. c.if-not-is_name.ensures.1 (subst IsColumnName here (name_all IsColumnName (map string_bytes columns) i name within h)))

pub loop-column-preserved : goal.loop-column-preserved
loop-column-preserved c =
    let columns = c.args.columns.now in
    let i = c.loop-column.column-index in
    let is = c.as_str.ensures.value ∙ ap string_bytes c.column-item.is in
    names_more IsColumnName columns i c.column-item.result (omega arith) c.loop-column.invariant (subst IsColumnName is (c.is_name.ensures.0 c.if-not-is_name.false))

pub returns : goal.returns
returns c =
    let columns = c.args.columns.now in
    let whole : take c.loop-column.column-index columns ≡ columns = take_all _ columns (omega arith) in
    (λ e. subst (λ x. AllByRecursion IsColumnName (map string_bytes x)) whole c.loop-column.invariant, λ h. cc)
