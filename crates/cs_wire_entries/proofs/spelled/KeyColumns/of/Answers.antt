-- `spelled::KeyColumns::of`: what it ensures of columns that are next to each other.
use Rattle.std.proofs.Common.{List, ℕ, false, drop, ap, sym, ◌∙◌, arith}
use Rattle.std.proofs.lemmas.List.{length-drop, take_all}
use Rattle.cs_value.specs.Spelling.{record_bytes}
use Rattle.cs_wire_entries.proofs.RunLemmas.{IsRun, key_run}
use Rattle.cs_wire_entries.proofs.spelled.KeyColumns.of.Goals as goal

pub returns : goal.returns
returns c =
    let flags = c.args.flags.now in
    let first = c.run_len-first.result in
    let count = c.run_len-count.result in
    let others = c.rest_from-others.ensures in
    let behind = c.rest_from-behind.ensures ∙ ap (λ (fs : List ℕ). drop count fs) others in
    let keys = rw others at c.run_len-count.ensures.run in
    let last : IsRun false (drop count (drop first flags)) = rw (take_all c.run_len.result c.rest_from-behind.result.now c.if-run_len-behind.false, behind) at c.run_len.ensures.run in record {
      within = omega (arith, c.run_len-first.ensures.within, rw others at c.run_len-count.ensures.within, length-drop first flags);
      key = λ fields width. ap record_bytes (key_run flags fields first count (sym width) c.run_len-first.ensures.run keys last);
    }
