-- `statement::values`: what was read so far is in front of what the rest reads.
use Rattle.std.proofs.Common.{◌≡◌, None, ap, sym, ◌∙◌, arith}
use Rattle.std.proofs.lemmas.Grind.{common_steps}
use Rattle.cs_shell_tokens.specs.Reading.{tokens_of}
use Rattle.cs_shell_grammar.specs.StatementReading.{onto, going, value_in, values_in, turn_in}
use Rattle.cs_shell_tokens.specs.declared.symbol.Symbol.TheVariants as symbol
use Rattle.cs_shell_grammar.proofs.StatementLemmas.{values_unfold, loop_goes, no_item, no_turn}
use Rattle.cs_shell_grammar.proofs.statement.values.Goals as goal

pub loop-more-preserved : goal.loop-more-preserved
loop-more-preserved c =
    loop_goes values_in value_in (turn_in symbol.Comma symbol.Close) values_unfold _ _ _ _ _ _ _ _ c.loop-more.invariant c.loop-more-test.true c.in_ok-value.ensures.read c.in_ok-more.ensures.read
    ∙ ap (λ items. onto items (going c.in_ok-more.field-0-0 (tokens_of c.in_ok-more.field-0-1.now) (values_in (tokens_of c.in_ok-more.field-0-1.now)))) (sym (c.in_ok-push.ensures.items))

pub returns-in_err-value : goal.returns-in_err-value
returns-in_err-value c =
    let none : value_in (tokens_of c.loop-more.rest.now) ≡ None → values_in (tokens_of c.args.line.now) ≡ None =
    no_item values_in value_in (turn_in symbol.Comma symbol.Close) values_unfold _ _ _ _ c.loop-more.invariant c.loop-more-test.true in
    grind (arith, common_steps, none)

pub returns-in_err-more : goal.returns-in_err-more
returns-in_err-more c =
    let none : (turn_in symbol.Comma symbol.Close) (tokens_of c.in_ok-value.after.now) ≡ None → values_in (tokens_of c.args.line.now) ≡ None =
    no_turn values_in value_in (turn_in symbol.Comma symbol.Close) values_unfold _ _ _ _ _ _ c.loop-more.invariant c.loop-more-test.true c.in_ok-value.ensures.read in
    grind (arith, common_steps, none)
