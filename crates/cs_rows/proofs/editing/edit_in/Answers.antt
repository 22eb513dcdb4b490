-- `editing::edit_in`: the clause `refused`.
use Rattle.cs_rows.proofs.editing.edit_in.Goals as goal

pub returns-in-Update-clause-refused : goal.returns-in-Update-clause-refused
returns-in-Update-clause-refused g c = rw (c.in-Update.is, ← c.as_str-in-Update.ensures.value) c.update_row.ensures.refused
