-- `statement::assignments`: what was read so far is in front of what the rest reads.
use Rattle.std.proofs.Common.{◌≡◌, None, map, ap, sym, ◌∙◌, arith}
use Rattle.std.proofs.lemmas.Grind.{common_steps}
use Rattle.std.proofs.lemmas.List.{map_push}
use Rattle.cs_shell_grammar.specs.Commands.{assignment_of}
use Rattle.cs_shell_tokens.specs.Reading.{tokens_of}
use Rattle.cs_shell_grammar.specs.StatementReading.{onto, going, assignment_in, assignments_in, turn_in}
use Rattle.cs_shell_grammar.proofs.StatementLemmas.{assignments_unfold, loop_goes, no_item, no_turn}
use Rattle.cs_shell_grammar.proofs.statement.assignments.Goals as goal

pub loop-more-preserved : goal.loop-more-preserved
loop-more-preserved c =
    loop_goes (assignments_in c.args.between c.args.last) assignment_in (turn_in c.args.between c.args.last) (assignments_unfold c.args.between c.args.last) _ _ _ _ _ _ _ _ c.loop-more.invariant c.loop-more-test.true c.in_ok-assignment.ensures.read c.in_ok-more.ensures.read
    ∙ ap (λ items. onto items (going c.in_ok-more.field-0-0 (tokens_of c.in_ok-more.field-0-1.now) ((assignments_in c.args.between c.args.last) (tokens_of c.in_ok-more.field-0-1.now)))) (sym (ap (λ items. map assignment_of items) c.in_ok-push.ensures.items ∙ map_push assignment_of c.loop-more.assignments.items c.in_ok-assignment.assignment))

pub returns-in_err-assignment : goal.returns-in_err-assignment
returns-in_err-assignment c =
    let none : assignment_in (tokens_of c.loop-more.rest.now) ≡ None → (assignments_in c.args.between c.args.last) (tokens_of c.args.line.now) ≡ None =
    no_item (assignments_in c.args.between c.args.last) assignment_in (turn_in c.args.between c.args.last) (assignments_unfold c.args.between c.args.last) _ _ _ _ c.loop-more.invariant c.loop-more-test.true in
    grind (arith, common_steps, none)

pub returns-in_err-more : goal.returns-in_err-more
returns-in_err-more c =
    let none : (turn_in c.args.between c.args.last) (tokens_of c.in_ok-assignment.after.now) ≡ None → (assignments_in c.args.between c.args.last) (tokens_of c.args.line.now) ≡ None =
    no_turn (assignments_in c.args.between c.args.last) assignment_in (turn_in c.args.between c.args.last) (assignments_unfold c.args.between c.args.last) _ _ _ _ _ _ c.loop-more.invariant c.loop-more-test.true c.in_ok-assignment.ensures.read in
    grind (arith, common_steps, none)
