-- `joining::entries::write_joined`: what it ensures.
use Rattle.std.proofs.Common.{◌≢◌, AllPairs}
use Rattle.std.specs.Prelude.{filter, filter_map}
use Rattle.cs_wire_entries.specs.declared.entry.Entry.{Entry}
use Rattle.cs_wire.specs.Entry.{entry_bytes, key_of}
use Rattle.cs_group.specs.Joining.{is_new, joined_entry, outcome}
use Rattle.cs_group.specs.Marks.{AreMet}
use Rattle.cs_files.proofs.JoiningLemmas.{joined_bytes}
use Rattle.cs_files.proofs.joining.entries.write_joined.Goals as goal

pub returns : goal.returns
returns c = λ entries others groups behind left right apart.
    let flags = c.args.firsts.flags in
    let key = λ (e : Entry). key_of flags e.change in
    let own = c.in_ok-keyed.ensures.flags in
    let all = c.in_ok-keyed.ensures.entries others behind right in
    let seconds = c.in_ok-keyed.keyed in
    let distinct : AllPairs (λ d e. key_of seconds.flags d.change ≢ key_of seconds.flags e.change) others = rw own apart in
    let met : AreMet key c.as_slice.result.now entries others = rw c.as_slice.ensures.value (c.in_ok-met.ensures.met entries others groups behind left all distinct) in
    joined_bytes entry_bytes c.args.out.now.items c.write_kept.new.out.items c.write_new.new.out.items (filter_map (outcome key (joined_entry flags) others) entries) (filter (is_new key entries) others)
    (c.in_ok-met.ensures.written entries others groups behind left all distinct) (c.in_ok-write_new.ensures flags entries others behind all met)
