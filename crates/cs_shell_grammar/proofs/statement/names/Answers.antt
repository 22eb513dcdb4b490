-- `statement::names`: what was read so far is in front of what the rest reads.
use Rattle.std.proofs.Common.{◌≡◌, None, map, string_bytes, ap, sym, ◌∙◌, arith}
use Rattle.std.proofs.lemmas.Grind.{common_steps}
use Rattle.std.proofs.lemmas.List.{map_push}
use Rattle.cs_shell_tokens.specs.Reading.{tokens_of}
use Rattle.cs_shell_grammar.specs.StatementReading.{onto, going, name_in, names_in, turn_in}
use Rattle.cs_shell_tokens.specs.declared.symbol.Symbol.TheVariants as symbol
use Rattle.cs_shell_grammar.proofs.StatementLemmas.{names_unfold, loop_goes, no_item, no_turn}
use Rattle.cs_shell_grammar.proofs.statement.names.Goals as goal

pub loop-more-preserved : goal.loop-more-preserved
loop-more-preserved c =
    loop_goes names_in name_in (turn_in symbol.Comma symbol.Close) names_unfold _ _ _ _ _ _ _ _ c.loop-more.invariant c.loop-more-test.true c.in_ok-name.ensures.read c.in_ok-more.ensures.read
    ∙ ap (λ items. onto items (going c.in_ok-more.field-0-0 (tokens_of c.in_ok-more.field-0-1.now) (names_in (tokens_of c.in_ok-more.field-0-1.now)))) (sym (ap (λ names. map string_bytes names) c.in_ok-push.ensures.items ∙ map_push string_bytes c.loop-more.names.items c.in_ok-name.name))

pub returns-in_err-name : goal.returns-in_err-name
returns-in_err-name c =
    let none : name_in (tokens_of c.loop-more.rest.now) ≡ None → names_in (tokens_of c.args.line.now) ≡ None =
    no_item names_in name_in (turn_in symbol.Comma symbol.Close) names_unfold _ _ _ _ c.loop-more.invariant c.loop-more-test.true in
    grind (arith, common_steps, none)

pub returns-in_err-more : goal.returns-in_err-more
returns-in_err-more c =
    let none : (turn_in symbol.Comma symbol.Close) (tokens_of c.in_ok-name.after.now) ≡ None → names_in (tokens_of c.args.line.now) ≡ None =
    no_turn names_in name_in (turn_in symbol.Comma symbol.Close) names_unfold _ _ _ _ _ _ c.loop-more.invariant c.loop-more-test.true c.in_ok-name.ensures.read in
    grind (arith, common_steps, none)
