-- `line::parse_line`: what is read is what the line is spelled as.
use Rattle.std.proofs.Common.{sym, ap, subst, ◌∙◌, ◌≤◌, ◌+◌, length}
use Rattle.cs_shell_grammar.specs.Commands.{command_of}
use Rattle.cs_shell_grammar.specs.Lines.{IsNothing}
use Rattle.cs_shell_grammar.specs.LineReading.{line_in}
use Rattle.cs_shell_tokens.specs.Faults.{Misfits}
use Rattle.cs_value.specs.declared.refusal.OrNoMemory.TheVariants as refusal
use Rattle.cs_shell_grammar.proofs.LineLaws.{line_taken, line_again, spelled_is_some, refused}
use Rattle.cs_shell_grammar.proofs.line.parse_line.Goals as goal

pub returns-then-is_nothing-clause-only : goal.returns-then-is_nothing-clause-only
returns-then-is_nothing-clause-only c command spelled =
    absurd (spelled_is_some c.args.line.now command spelled (subst (λ line. IsNothing line) c.as_bytes-line.ensures.value (c.is_nothing.ensures.0 c.if-is_nothing.true)))

pub returns-in-Ok-clause-asked : goal.returns-in-Ok-clause-asked
returns-in-Ok-clause-asked c = line_taken c.args.line.now (command_of c.in-Ok.command) c.utf8.line (ap line_in (sym c.as_bytes-line.ensures.value) ∙ c.in-Ok.ensures)

pub returns-in-Ok-clause-only : goal.returns-in-Ok-clause-only
returns-in-Ok-clause-only c command spelled =
    sym (ap line_in (sym c.as_bytes-line.ensures.value) ∙ c.in-Ok.ensures) ∙ line_again c.args.line.now command c.utf8.line spelled

pub returns-in-Err-Fault-clause-refused : goal.returns-in-Err-Fault-clause-refused
returns-in-Err-Fault-clause-refused c = (
  λ nothing. let t = c.is_nothing.ensures.1 (subst (λ line. IsNothing line) (sym c.as_bytes-line.ensures.value) nothing) in let f = c.if-is_nothing.false in absurd (cc),
  refused c.args.line.now c.utf8.line (let none : Misfits (line_in c.as_bytes-line.result.now) (refusal.Fault c.in-Err-Fault.misfit) = subst (λ stop. Misfits (line_in c.as_bytes-line.result.now) stop) c.in-Err-Fault.field-0-is c.in-Err-Fault.ensures in
      ap line_in (sym c.as_bytes-line.ensures.value) ∙ none),
  c.column.ensures.low,
  subst (λ line. c.column.result ≤ length line + 1) c.as_bytes-line.ensures.value c.column.ensures.high,
)
