-- `checked::pass_entry`: what is asked of calls, and what it ensures.
use Rattle.std.proofs.Common.{ℕ, List, ◌++◌, ap, ◌∙◌, arith}
use Rattle.cs_wire.specs.Entry.{entry_bytes, key_of}
use Rattle.cs_file_scan.specs.Distinct.{number_of}
use Rattle.cs_file_scan.proofs.checked.pass_entry.Goals as goal

pub key_number-requires : goal.key_number-requires
key_number-requires g c = rw c.in-Ok.ensures.flags c.requires.columns

pub visit_entry-requires-clause-entry : goal.visit_entry-requires-clause-entry
visit_entry-requires-clause-entry g c = rw c.in-Ok.ensures.flags c.in-Ok.ensures.well_formed

pub visit_entry-requires-clause-bytes : goal.visit_entry-requires-clause-bytes
visit_entry-requires-clause-bytes g c = c.part.ensures (entry_bytes c.in-Ok.seen.entry) c.in-Ok.ensures.found (omega (arith, c.requires.entry.within))

pub returns : goal.returns
returns g c =
    let v = g.V.Visit in
    let read = c.in-Ok.ensures in
    let entry = c.in-Ok.seen.entry in record {
      entry = entry;
      is_entry = read.well_formed;
      stands = read.found;
      number_is = c.in_ok-number.ensures ∙ ap (λ (fs : List ℕ). number_of (key_of fs entry.change)) read.flags;
      written = c.in_ok-visit_entry.ensures ∙ ap (λ (fs : List ℕ). v.written c.args.visitor.now ++ v.entry_text fs entry) read.flags;
    }
