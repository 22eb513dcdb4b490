-- `value::find_record`: the record before a change.
use Rattle.std.proofs.Common.{length, sym, subst}
use Rattle.cs_file_iterator.specs.declared.value.Side.{Side}
use Rattle.cs_file_iterator.specs.Steps.{HasRecord, record_on}
use Rattle.cs_file_iterator.proofs.ValueLemmas.{old_found}
use Rattle.cs_file_iterator.proofs.value.find_record.Goals as goal

pub returns-in-Old-clause-record : goal.returns-in-Old-clause-record
returns-in-Old-clause-record c = λ shown shows.
    subst (λ (side : Side). HasRecord c.args.file.now (length shown.header.flags) (record_on side shown.entry.change) c.find_old.result) (sym c.in-Old.is)
    (old_found c.args.file.now c.args.change.now shown.header.flags shown.entry.change _ c.find_old.result shows.is_entry shows.operation c.find_old.ensures.insert c.find_old.ensures.other shows.records)
