-- `keyed::KeyedEntries::entry`: the clauses `some` and `found`.
use Rattle.std.proofs.Common.{◌≡◌, ◌<◌, ℕ, List, get_or, drop, sym, ap, ◌∙◌, subst, arith}
use Rattle.std.proofs.lemmas.List.{get_or_default}
use Rattle.cs_file_scan.specs.KeyedFile.{KeyedFile, AreKeyed, count_of}
use Rattle.cs_file_scan.specs.Tables.{TablesData, EntriesLeft, NextEntry}
use Rattle.cs_file_scan.proofs.KeyedLemmas.{entry_here, left_here}
use Rattle.cs_file_scan.proofs.keyed.KeyedEntries.entry.Goals as goal

pub returns-clause-some : goal.returns-clause-some
returns-clause-some c = λ entries groups keyed.
    let inside = c.self.inside in
    let index = c.args.index in
    let view : KeyedFile = record { file = inside.file.now; flags = inside.flags.now; bounds = inside.bounds.items; chains = inside.chains } in
    let own : AreKeyed view entries groups = subst (λ (k : KeyedFile). AreKeyed k entries groups) (sym c.self.view_is) keyed in
    let lt : index < count_of view = rw (← c.self.view_is) at c.requires in
    let here : c.index.result.now ≡ get_or inside.bounds.items index 0 = c.index.ensures ∙ sym (get_or_default inside.bounds.items index 0 c.index.result.now (omega (arith, lt, c.self.invariant))) in
    let left : EntriesLeft c.at.result (drop index entries) groups = rw (c.at.ensures, here) (left_here view entries groups own index lt) in
    let next : NextEntry inside.flags.now (drop index entries) groups c.next_entry.result c.next_entry.new.self =
    subst (λ (flags : List ℕ). NextEntry flags (drop index entries) groups c.next_entry.result c.next_entry.new.self) (ap (λ (t : TablesData). t.flags) c.at.ensures) (c.next_entry.ensures.next (drop index entries) groups left) in
    (entry_here view entries groups own index lt c.next_entry.result c.next_entry.new.self next).0
