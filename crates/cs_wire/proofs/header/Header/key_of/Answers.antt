-- `header::Header::key_of`: what `of_image` and `of_row` ask for, what it ensures.
use Rattle.std.proofs.Common.{◌∙◌, ap}
use Rattle.std.proofs.lemmas.Result.{IfOk-weaker}
use Rattle.std.proofs.Common.{ℕ, List}
use Rattle.cs_value.specs.Key.{row_key}
use Rattle.cs_wire_entries.proofs.EntryLemmas.{length-IsOf, key_of-IsOf, length-Update}
use Rattle.cs_wire.proofs.header.Header.key_of.Goals as goal

pub of_image-requires : goal.of_image-requires
of_image-requires c = rw c.flags.ensures.same (length-Update c.args.self.now.flags c.args.entry.now.change c.in-Update.old c.in-Update.new c.in-Update.is c.requires)

pub of_row-requires : goal.of_row-requires
of_row-requires c = rw c.flags-in-Insert.ensures.same (length-IsOf c.args.self.now.flags c.args.entry.now.change c.in-Insert.row c.in-Insert.is c.requires)

pub returns-in-Insert : goal.returns-in-Insert
returns-in-Insert c =
    let row = c.in-Insert.row in
    let same = ap (λ (f : List ℕ). row_key f row) c.flags-in-Insert.ensures.same ∙ key_of-IsOf c.args.self.now.flags c.args.entry.now.change row c.in-Insert.is in
    IfOk-weaker c.of_row.result _ _ (λ key is. is ∙ same) c.of_row.ensures
