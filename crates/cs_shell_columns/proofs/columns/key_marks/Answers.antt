-- `columns::key_marks`: the clause `marked`.
use Rattle.std.proofs.Common.{map, string_bytes, ap, ◌∙◌}
use Rattle.cs_shell_columns.specs.Names.{texts_of}
use Rattle.cs_shell_columns.proofs.ColumnLemmas.{marked_as}
use Rattle.cs_shell_columns.proofs.columns.key_marks.Goals as goal

pub returns-clause-marked : goal.returns-clause-marked
returns-clause-marked c =
    c.in_ok-missing.ensures
    ∙ marked_as (map string_bytes c.args.columns.now) (map string_bytes c.args.keys.now) _ _ _ c.in_ok-others.others c.in_ok-others.ensures.others
    (ap texts_of c.deref.ensures.value ∙ c.in_ok-names.ensures)
    (ap texts_of c.deref-2.ensures.value ∙ c.in_ok-borrowed_names.ensures)
    (ap texts_of c.deref-3.ensures.value ∙ c.in_ok-names.ensures)
