-- `spelled::KeyColumns::slice`: what it ensures.
use Rattle.std.proofs.Common.{sym, ◌∙◌, arith, length}
use Rattle.cs_wire_entries.specs.Items.{fields_in}
use Rattle.cs_wire_entries.proofs.ItemLemmas.{length-fields_in}
use Rattle.cs_wire_entries.proofs.spelled.KeyColumns.slice.Goals as goal

pub returns : goal.returns
returns c = λ flags are is_record spelled.
    let fields = fields_in (length flags) c.args.bytes.now in
    let width = length-fields_in (length flags) c.args.bytes.now in
    c.columns_in.ensures fields is_record (omega (arith, width, are.within)) spelled ∙ sym (are.key fields width)
