-- `writes::append_writes`: the invariant of the loop at `key`.
use Rattle.std.proofs.Common.{ℕ, List, [], ◌∷◌, ◌++◌, map, Option, append_assoc, rules, sym, ap, ◌∙◌}
use Rattle.cs_value.specs.declared.value.OwnedValue.{OwnedValue}
use Rattle.cs_rows.specs.Editing.{written_of}
use Rattle.cs_session_notes.specs.Images.{first_of}
use Rattle.cs_session_notes.specs.Views.{attached_of}
use Rattle.cs_session_notes.proofs.WritesLemmas.{key_more}
use Rattle.cs_session_notes.proofs.writes.append_writes.Goals as goal

abbrev Images : Type 0
Images = List (List ℕ × Option (List OwnedValue))

pub loop-key-preserved : goal.loop-key-preserved
loop-key-preserved c =
    let so = c.loop-key.invariant in
    let first = first_of (c.in-Some.key.now, c.in-Some.row.now) in
    let all = ap (λ (l : Images). so.0 ++ map first_of l) (sym c.in-Some.ensures.steps) ∙ so.1 in (
      so.0 ++ first ∷ [],
      append_assoc so.0 (first ∷ []) (map first_of c.next.new.self) ∙ all,
      key_more (attached_of c.args.table.now) (map written_of c.args.writes.now.items) c.loop-key.writes.items c.push.new.self.items so.0 first _ c.in_ok-push.ensures.items (search rules) so.2,
    )
