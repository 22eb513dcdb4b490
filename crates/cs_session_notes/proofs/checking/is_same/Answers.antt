-- `checking::is_same`: what it ensures.
use Rattle.std.proofs.Common.{sym, ◌∙◌}
use Rattle.cs_session_notes.proofs.SchemaLemmas.{AreColumns, same_columns, other_columns, same_schema, other_schema}
use Rattle.cs_session_notes.proofs.checking.is_same.Goals.{then-eq, else-eq}
use Rattle.cs_session_notes.proofs.checking.is_same.Goals as goal

pub returns-then-eq-2 : goal.returns-then-eq-2
returns-then-eq-2 c =
    let found : AreColumns c.args.schema.now c.args.other.now c.if-eq.value = elim c.if-eq.branch [
      | then-eq w ↦ same_columns c.args.schema.now c.args.other.now c.columns.result.now c.columns-2.result.now c.columns.ensures c.columns-2.ensures w.flags.result.now w.flags-then-eq.result.now
          w.flags.ensures.same w.flags-then-eq.ensures.same (sym c.eq.ensures ∙ w.if-eq.true) c.if-eq.value (w.value-is ∙ w.eq-then-eq.ensures)
      | else-eq w ↦ other_columns c.args.schema.now c.args.other.now c.columns.result.now c.columns-2.result.now c.columns.ensures c.columns-2.ensures (sym c.eq.ensures ∙ w.if-eq.false) c.if-eq.value (w.value-is ∙ w.if-eq.false)
    ] in
    rw c.eq-then-eq-2.ensures
    (same_schema c.args.schema.now c.args.other.now c.if-eq.value found c.if-eq-2.true c.refuses.result.now c.refuses-then-eq-2.result.now c.refuses.ensures c.refuses-then-eq-2.ensures)

pub returns-else-eq-2 : goal.returns-else-eq-2
returns-else-eq-2 c =
    let found : AreColumns c.args.schema.now c.args.other.now c.if-eq.value = elim c.if-eq.branch [
      | then-eq w ↦ same_columns c.args.schema.now c.args.other.now c.columns.result.now c.columns-2.result.now c.columns.ensures c.columns-2.ensures w.flags.result.now w.flags-then-eq.result.now
          w.flags.ensures.same w.flags-then-eq.ensures.same (sym c.eq.ensures ∙ w.if-eq.true) c.if-eq.value (w.value-is ∙ w.eq-then-eq.ensures)
      | else-eq w ↦ other_columns c.args.schema.now c.args.other.now c.columns.result.now c.columns-2.result.now c.columns.ensures c.columns-2.ensures (sym c.eq.ensures ∙ w.if-eq.false) c.if-eq.value (w.value-is ∙ w.if-eq.false)
    ] in
    other_schema c.args.schema.now c.args.other.now c.if-eq.value found c.if-eq-2.false
