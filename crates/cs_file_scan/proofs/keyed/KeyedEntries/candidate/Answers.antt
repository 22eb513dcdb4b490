-- `keyed::KeyedEntries::candidate`: the clause `absent`.
use Rattle.std.proofs.Common.{◌≡◌, ℕ, List, true≢false, sym, ap, ◌∙◌}
use Rattle.cs_wire_entries.specs.declared.entry.Entry.{Entry}
use Rattle.cs_wire.specs.Entry.{key_of}
use Rattle.cs_file_scan.proofs.keyed.KeyedEntries.candidate.Goals as goal

pub returns-in_default-clause-absent : goal.returns-in_default-clause-absent
returns-in_default-clause-absent c = λ entries groups keyed none.
    absurd (true≢false (sym (c.in_default.ensures.some entries groups keyed)))

pub returns-else-branch-clause-absent : goal.returns-else-branch-clause-absent
returns-else-branch-clause-absent c = λ entries groups keyed none.
    let seen = c.in-Some.entry in
    let at = c.in-Some.ensures.found entries groups keyed in record {
      within = at.within;
      holds = λ d same.
          let is : key_of seen.flags seen.entry.change ≡ c.args.key.now =
          ap (λ (flags : List ℕ). key_of flags seen.entry.change) c.in-Some.ensures.flags ∙ ap (λ (e : Entry). key_of c.args.self.now.flags e.change) (sym (at.holds d)) ∙ same in
          true≢false (sym (c.in_ok-has_key.ensures.1 is) ∙ c.if-branch.false);
    }
