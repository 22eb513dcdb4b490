-- `schema::are_apart`: the invariant of the loop at `column`, what it ensures.
use Rattle.std.proofs.Common.{◌≡◌, ◌<◌, length, map, take, string_bytes, sym, subst, ◌∙◌, arith}
use Rattle.std.specs.List.{AllPairs}
use Rattle.std.specs.Prelude.{◌≢◌}
use Rattle.std.proofs.lemmas.List.{length-map, take_all}
use Rattle.cs_rows.proofs.SchemaLemmas.{NamesSoFar-none, NamesSoFar-more, repeated, name_here, not_false, not_true}
use Rattle.cs_rows.proofs.schema.are_apart.Goals as goal

pub loop-column-init : goal.loop-column-init
loop-column-init c = NamesSoFar-none _ c.new-names.result c.new-names.ensures.empty

pub returns-then-not-branch : goal.returns-then-not-branch
returns-then-not-branch c =
    let columns = c.args.columns.now in
    let i = c.loop-column.column-index in
    let name = c.as_str.result in
    let within : i < length (map string_bytes columns) = rw length-map (omega arith) in
    let here = name_here columns i c.column-item.result name.now (omega arith) c.column-item.is ∙ sym c.as_str.ensures.value in (
      λ e. absurd cc,
      λ h. absurd (repeated (map string_bytes columns) i c.loop-column.names name within here c.loop-column.invariant (not_false _ (sym c.in_ok-insert.ensures.added ∙ c.if-not-branch.true)) h),
    )

pub loop-column-preserved : goal.loop-column-preserved
loop-column-preserved c =
    let columns = c.args.columns.now in
    let i = c.loop-column.column-index in
    let name = c.as_str.result in
    let within : i < length (map string_bytes columns) = rw length-map (omega arith) in
    let here = name_here columns i c.column-item.result name.now (omega arith) c.column-item.is ∙ sym c.as_str.ensures.value in
    NamesSoFar-more (map string_bytes columns) i c.loop-column.names name within here c.loop-column.invariant c.insert.new.self (not_true _ (sym c.in_ok-insert.ensures.added ∙ c.if-not-branch.false)) c.in_ok-insert.ensures.updates

pub returns : goal.returns
returns c =
    let names = map string_bytes c.args.columns.now in
    let whole : take c.loop-column.column-index names ≡ names = take_all _ names (rw length-map (omega arith)) in
    (λ e. subst (AllPairs ◌≢◌) whole c.loop-column.invariant.apart, λ h. cc)
