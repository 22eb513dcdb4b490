-- `joining::entries::write_new`: the invariant of the loop, what it ensures.
use Rattle.std.proofs.Common.{◌≡◌, [], false, cond, get_or, refl, ap, ◌∙◌, arith}
use Rattle.std.proofs.lemmas.List.{get_or_default}
use Rattle.cs_wire_entries.specs.declared.entry.Entry.{Entry}
use Rattle.cs_wire.specs.Entry.{entry_bytes, key_of}
use Rattle.cs_file_scan.proofs.KeyedLemmas.{as_many}
use Rattle.cs_group.specs.Joining.{if_new}
use Rattle.cs_files.specs.Writing.{some_bytes}
use Rattle.cs_files.proofs.JoiningLemmas.{new_flat, no_entry, unmet_bytes}
use Rattle.cs_files.proofs.PassLemmas.{written_next, written_last}
use Rattle.cs_files.proofs.joining.entries.write_new.Goals as goal

pub loop-index-preserved : goal.loop-index-preserved
loop-index-preserved c = λ flags firsts others behind keyed so.
    let index = c.loop-index.index in
    let at = c.bytes.ensures others behind keyed in
    let entry = get_or others index no_entry in
    let is : entry ≡ get_or others index entry = get_or_default others index no_entry entry at.within in
    let piece = ap (cond (get_or c.args.met.now index false) []) (at.holds no_entry) ∙ unmet_bytes flags c.args.met.now firsts others index entry _ so at.within is refl in
    written_next (λ e. some_bytes entry_bytes (if_new (λ (f : Entry). key_of flags f.change) firsts e)) others index c.args.out.now.items c.loop-index.out.items (c.loop-index.invariant flags firsts others behind keyed so) entry
    c.write_unmet.new.out.items _ at.within is c.in_ok-write_unmet.ensures piece

pub returns : goal.returns
returns c = λ flags firsts others behind keyed so.
    written_last (λ e. some_bytes entry_bytes (if_new (λ (f : Entry). key_of flags f.change) firsts e)) others c.loop-index.index c.args.out.now.items c.loop-index.out.items (c.loop-index.invariant flags firsts others behind keyed so) _
    (omega (arith, c.loop-index-test.false, c.len-index-end.ensures, as_many c.args.seconds.now others behind keyed)) (new_flat entry_bytes (λ (f : Entry). key_of flags f.change) firsts others)
