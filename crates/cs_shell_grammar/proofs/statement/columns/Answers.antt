-- `statement::columns`: what was read so far is in front of what the rest reads.
use Rattle.std.proofs.Common.{◌≡◌, None, Some, map, option_map, string_bytes, ap, sym, ◌∙◌, arith}
use Rattle.std.proofs.lemmas.Grind.{common_steps}
use Rattle.std.proofs.lemmas.List.{map_push}
use Rattle.cs_shell_tokens.specs.Reading.{tokens_of}
use Rattle.cs_shell_grammar.specs.StatementReading.{onto, column_of, column_with, column_in, columns_in, columns_behind}
use Rattle.cs_shell_grammar.proofs.ColumnLemmas.{columns_start, columns_go, columns_end, no_column}
use Rattle.cs_shell_grammar.proofs.statement.columns.Goals as goal

pub loop-next-init : goal.loop-next-init
loop-next-init c =
    columns_start _ _ _ _ _ c.in_ok-name.ensures.read c.in_ok-refuses.ensures.read
    ∙ ap (λ items. onto (map column_of items) (columns_behind (Some (column_with (string_bytes c.in_ok-name.name) c.in_ok-refuses.refuses)) (tokens_of c.in_ok-refuses.rest.now))) (sym c.new-columns.ensures.items)

pub loop-next-preserved : goal.loop-next-preserved
loop-next-preserved c =
    columns_go (map column_of c.loop-next.columns.items) (column_of c.in-Some.column_read) (tokens_of c.loop-next.rest.now) (tokens_of c.in_ok-next.field-0-1.now) (option_map column_of c.in_ok-next.field-0-0) _
    (c.loop-next.invariant ∙ ap (λ n. onto (map column_of c.loop-next.columns.items) (columns_behind (option_map column_of n) (tokens_of c.loop-next.rest.now))) c.in-Some.is)
    c.in_ok-next.ensures.read
    ∙ ap (λ items. onto items (columns_behind (option_map column_of c.in_ok-next.field-0-0) (tokens_of c.in_ok-next.field-0-1.now)))
    (sym (ap (λ items. map column_of items) c.in_ok-push.ensures.items ∙ map_push column_of c.loop-next.columns.items c.in-Some.column_read))

pub returns-in_err-name : goal.returns-in_err-name
unfolding columns_in
returns-in_err-name c = grind (arith, common_steps)

pub returns-in_err-refuses : goal.returns-in_err-refuses
unfolding columns_in
returns-in_err-refuses c = grind (arith, common_steps)

pub returns : goal.returns
returns c =
    columns_end (map column_of c.loop-next.columns.items) (tokens_of c.loop-next.rest.now) (columns_in (tokens_of c.args.line.now))
    (c.loop-next.invariant ∙ ap (λ n. onto (map column_of c.loop-next.columns.items) (columns_behind (option_map column_of n) (tokens_of c.loop-next.rest.now))) c.in_default.is)

pub returns-in_err-next : goal.returns-in_err-next
returns-in_err-next c =
    let none : column_in (tokens_of c.loop-next.rest.now) ≡ None → columns_in (tokens_of c.args.line.now) ≡ None =
    no_column (map column_of c.loop-next.columns.items) (column_of c.in-Some.column_read) (tokens_of c.loop-next.rest.now) _
    (c.loop-next.invariant ∙ ap (λ n. onto (map column_of c.loop-next.columns.items) (columns_behind (option_map column_of n) (tokens_of c.loop-next.rest.now))) c.in-Some.is) in
    grind (arith, common_steps, none)
