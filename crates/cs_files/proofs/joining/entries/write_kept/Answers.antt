-- `joining::entries::write_kept`: the invariant of the loop, what it ensures.
use Rattle.std.proofs.Common.{◌≡◌, ◌≢◌, ◌++◌, All, true, false, length, replicate, refl, ap, ◌∙◌, rules}
use Rattle.std.specs.Prelude.{IsTrue, is_none}
use Rattle.std.proofs.lemmas.List.{length-replicate, length-set}
use Rattle.cs_wire_entries.specs.declared.entry.Entry.{Entry}
use Rattle.cs_wire.specs.Entry.{entry_bytes, key_of}
use Rattle.cs_wire.specs.Views.{IsIndexWhere}
use Rattle.cs_group.specs.Joining.{joined_entry, outcome}
use Rattle.cs_files.specs.Writing.{some_bytes}
use Rattle.cs_file_scan.proofs.KeyedLemmas.{as_many}
use Rattle.cs_file_scan.proofs.TablesLemmas.{PassedEntries-all}
use Rattle.cs_group.specs.Marks.{AreMet}
use Rattle.cs_group.proofs.MarkLemmas.{AreMet-none, AreMet-other, AreMet-marked, apart_of, keys_of, place_of}
use Rattle.cs_files.proofs.JoiningLemmas.{some_flat}
use Rattle.cs_files.proofs.PassLemmas.{WritesEntries-none, WritesEntries-next, WritesEntries-all}
use Rattle.cs_files.proofs.joining.entries.write_kept.Goals as goal

pub entries-init : goal.entries-init
entries-init c =
    let flags = c.args.firsts.flags in
    let seconds = c.args.seconds.now in
    let none = c.in_ok-met.ensures ∙ ap (λ n. replicate n false) c.len.ensures in (
      refl,
      ap length none ∙ length-replicate (length seconds.chains.numbers) false,
      λ entries others groups behind left keyed apart. (
        WritesEntries-none (λ e. some_bytes entry_bytes (outcome (λ (f : Entry). key_of flags f.change) (joined_entry flags) others e)) c.args.out.now.items c.args.firsts entries groups left,
        AreMet-none (λ (e : Entry). key_of flags e.change) others c.in_ok-met.met.items (none ∙ ap (λ n. replicate n false) (as_many seconds others behind keyed)),
      ),
    )

pub entries-preserved-in-Some-2 : goal.entries-preserved-in-Some-2
entries-preserved-in-Some-2 c =
    let flags = c.args.firsts.flags in
    let seconds = c.args.seconds.now in
    let so = c.entries.invariant in
    let seen = c.in-Some.entry in
    let here = c.in-Some.ensures.flags.1 ∙ so.0 in
    let index = c.in-Some-2.index in (
      c.in-Some.ensures.flags.0 ∙ so.0,
      length-set c.entries.met.items index true ∙ so.1,
      λ entries others groups behind left keyed apart.
          let both = so.2 entries others groups behind left keyed apart in
          let found : IsIndexWhere (λ e. key_of seconds.flags e.change ≡ key_of seen.flags seen.entry.change) others index = rw c.in-Some-2.is at (c.in_ok-index.ensures.found others behind keyed) in
          let at : IsIndexWhere (λ e. key_of seconds.flags e.change ≡ key_of flags seen.entry.change) others index = rw here at found in
          let width = so.1 ∙ as_many seconds others behind keyed in (
            WritesEntries-next (λ e. some_bytes entry_bytes (outcome (λ (f : Entry). key_of flags f.change) (joined_entry flags) others e)) flags c.args.out.now.items c.entries.out.items c.entries.left entries groups both.0
                c.write_outcome.new.out.items c.next_entry.new.self seen (c.in-Some.ensures.next both.0.passed.others groups both.0.passed.are_left) (rw here at (c.in_ok-index.ensures.written others behind keyed apart)),
            AreMet-marked (λ (e : Entry). key_of flags e.change) c.entries.met.items both.0.before others seen.entry both.1 index (apart_of seconds.flags flags others seen.entry c.requires.agree apart) width
                (place_of seconds.flags flags others seen.entry c.requires.agree index at),
          ),
    )

pub entries-preserved : goal.entries-preserved
entries-preserved c =
    let flags = c.args.firsts.flags in
    let seconds = c.args.seconds.now in
    let so = c.entries.invariant in
    let seen = c.in-Some.entry in
    let here = c.in-Some.ensures.flags.1 ∙ so.0 in
    let none : IsTrue (is_none c.in_ok-index.field-0) = search rules in (
      c.in-Some.ensures.flags.0 ∙ so.0,
      so.1,
      λ entries others groups behind left keyed apart.
          let both = so.2 entries others groups behind left keyed apart in
          let absent : All (λ e. key_of seconds.flags e.change ≢ key_of flags seen.entry.change) others = rw here at (c.in_ok-index.ensures.absent others behind keyed none) in (
            WritesEntries-next (λ e. some_bytes entry_bytes (outcome (λ (f : Entry). key_of flags f.change) (joined_entry flags) others e)) flags c.args.out.now.items c.entries.out.items c.entries.left entries groups both.0
                c.write_outcome.new.out.items c.next_entry.new.self seen (c.in-Some.ensures.next both.0.passed.others groups both.0.passed.are_left) (rw here at (c.in_ok-index.ensures.written others behind keyed apart)),
            AreMet-other (λ (e : Entry). key_of flags e.change) c.entries.met.items both.0.before others seen.entry both.1 (keys_of seconds.flags flags others seen.entry c.requires.agree absent),
          ),
    )

pub returns-clause-written : goal.returns-clause-written
returns-clause-written c = λ entries others groups behind left keyed apart.
    let flags = c.args.firsts.flags in
    let text = λ (e : Entry). some_bytes entry_bytes (outcome (λ (f : Entry). key_of flags f.change) (joined_entry flags) others e) in
    let so = (c.entries.invariant.2 entries others groups behind left keyed apart).0 in
    let none = c.in_default.ensures.next so.passed.others groups so.passed.are_left in
    WritesEntries-all text flags c.args.out.now.items c.entries.out.items c.entries.left entries groups so none.0
    ∙ ap (λ l. c.args.out.now.items ++ l) (some_flat entry_bytes (outcome (λ (f : Entry). key_of flags f.change) (joined_entry flags) others) entries)

pub returns-clause-met : goal.returns-clause-met
returns-clause-met c = λ entries others groups behind left keyed apart.
    let key = λ (e : Entry). key_of c.args.firsts.flags e.change in
    let both = c.entries.invariant.2 entries others groups behind left keyed apart in
    let so = both.0 in
    let none = c.in_default.ensures.next so.passed.others groups so.passed.are_left in
    let all = PassedEntries-all so.before c.entries.left entries groups so.passed none.0 in
    let met : AreMet key c.entries.met.items entries others = rw all both.1 in
    met
