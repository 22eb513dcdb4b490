-- `columns::have_same_columns`: what it ensures.
use Rattle.std.proofs.Common.{true≢false, sym, ◌∙◌, arith}
use Rattle.cs_group.proofs.KeyPlaceLemmas.{key_place_at, differ}
use Rattle.cs_group.proofs.columns.have_same_columns.Goals as goal

pub returns-then-is_of_key : goal.returns-then-is_of_key
returns-then-is_of_key c =
    let apart = differ c.is_of_key.result c.is_of_key-in-loop-column.result c.if-is_of_key.true in (
      λ no. absurd (true≢false (sym no)),
      λ same.
          let one = key_place_at c.args.flags.now c.args.other.now c.loop-column.column same c.loop-column-test.true (omega (arith, c.loop-column-test.true, c.if-flags-other.false)) in
          absurd (apart (c.is_of_key.ensures ∙ one ∙ sym c.is_of_key-in-loop-column.ensures)),
    )
