-- `keyed::keys_of`: the invariant of the loop at `entry`.
use Rattle.std.proofs.Common.{ℕ, List, sym, ◌∙◌}
use Rattle.std.proofs.lemmas.List.{map-id}
use Rattle.cs_wire_entries.specs.declared.entry.Entry.{Entry}
use Rattle.cs_wire.specs.Entry.{key_of}
use Rattle.cs_group.proofs.SetLemmas.{text_listed}
use Rattle.cs_group.proofs.keyed.keys_of.Goals as goal

pub loop-entry-preserved : goal.loop-entry-preserved
loop-entry-preserved c =
    sym (map-id _)
    ∙ text_listed (λ (k : List ℕ). k) (λ (e : Entry). key_of c.args.group.now.header.flags e.change) c.entries-entries.result.now (rw (← c.entries-entries.ensures.same) at c.entries-entries.ensures.well_formed.once) c.loop-entry.entry-index c.entry-item.result c.loop-entry-test.true c.entry-item.is
    c.loop-entry.keys.keys c.insert.new.self.keys c.in_ok-key_of.field-0 (map-id _ ∙ c.loop-entry.invariant) c.in_ok-key_of.ensures c.in_ok-insert.ensures.keys
