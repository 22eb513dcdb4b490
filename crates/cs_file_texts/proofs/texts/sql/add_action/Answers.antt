-- `texts::sql::add_action`: what it ensures of a delete.
use Rattle.std.proofs.Common.{Some, sym, ap, ◌∙◌}
use Rattle.cs_wire.specs.Items.{new_record}
use Rattle.cs_file_texts.specs.Pieces.{action_text}
use Rattle.cs_file_texts.proofs.GatherLemmas.{Gathers-is}
use Rattle.cs_file_texts.proofs.texts.sql.add_action.Goals as goal

pub returns-in-Some-None : goal.returns-in-Some-None
returns-in-Some-None g c =
    let change = c.args.entry.now.entry.change in
    let old = sym c.old_fields.ensures.fields ∙ c.in-Some-None.is-0 in
    let new = sym c.new_fields.ensures.fields ∙ c.in-Some-None.is-1 in
    Gathers-is _ (ap (λ o. action_text c.args.name.now o (new_record change)) old ∙ ap (λ n. action_text c.args.name.now (Some c.in-Some-None.field-0-0) n) new) c.add_with_name.ensures
