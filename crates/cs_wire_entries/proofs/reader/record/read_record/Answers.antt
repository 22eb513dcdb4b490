-- `reader::record::read_record`: the clauses `found`, `spelled` and `only`.
use Rattle.std.proofs.Common.{sym, ap, ◌∙◌}
use Rattle.cs_value.specs.Spelling.{record_bytes}
use Rattle.cs_wire_entries.proofs.ItemLemmas.{fields_in-record}
use Rattle.cs_wire_entries.proofs.reader.record.read_record.Goals as goal

pub returns-clause-found : goal.returns-clause-found
returns-clause-found c =
    let found = c.in_ok-end.ensures.found in
    let same = fields_in-record c.args.columns c.args.flags.now c.args.file.now c.args.at c.in_ok-end.end found.0 _ found.1 (c.part.ensures (record_bytes found.0) found.1.stands) in
    rw same found.1

pub returns-clause-spelled : goal.returns-clause-spelled
returns-clause-spelled c =
    let found = c.in_ok-end.ensures.found in
    let is = c.part.ensures (record_bytes found.0) found.1.stands in
    let same = fields_in-record c.args.columns c.args.flags.now c.args.file.now c.args.at c.in_ok-end.end found.0 _ found.1 is in
    is ∙ sym (ap record_bytes same)

pub returns-clause-only : goal.returns-clause-only
returns-clause-only c = λ all rest h met e.
    let stands = c.in_ok-end.ensures.only all rest h met e in
    fields_in-record c.args.columns c.args.flags.now c.args.file.now c.args.at c.in_ok-end.end all _ (record { is_record = h; wanted = met; stands = stands }) (c.part.ensures (record_bytes all) stands)
