-- `columns::check_conditions`: each column of the key is named where the set has no others.
use Rattle.std.proofs.Common.{map, ap, sym, ◌∙◌, true≢false}
use Rattle.cs_shell_grammar.specs.Commands.{assignment_of}
use Rattle.cs_shell_columns.specs.Names.{texts_of}
use Rattle.cs_shell_columns.proofs.ColumnLemmas.{names_key, names_no_key}
use Rattle.cs_shell_columns.proofs.columns.check_conditions.Goals as goal

pub returns-then-is_empty-clause-named : goal.returns-then-is_empty-clause-named
returns-then-is_empty-clause-named c =
    names_key c.args.schema.now (map assignment_of c.args.conditions.now) _ _ c.in_ok-others.others
    (ap texts_of c.deref.ensures.value ∙ c.in_ok-key.ensures)
    (ap texts_of c.deref-2.ensures.value ∙ c.in_ok-assigned_names.ensures)
    c.in_ok-others.ensures.others c.in_ok-others.ensures.known (c.is_empty.ensures.0 c.if-is_empty.true)

pub returns-clause-refused : goal.returns-clause-refused
returns-clause-refused c =
    names_no_key c.args.schema.now (map assignment_of c.args.conditions.now) _ _ c.in_ok-others.others
    (ap texts_of c.deref.ensures.value ∙ c.in_ok-key.ensures)
    (ap texts_of c.deref-2.ensures.value ∙ c.in_ok-assigned_names.ensures)
    c.in_ok-others.ensures.others (λ e. true≢false (sym (c.is_empty.ensures.1 e) ∙ c.if-is_empty.false))
