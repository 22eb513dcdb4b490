-- `parse::action_of`: what it ensures.
use Rattle.std.proofs.Common.{◌∙◌, [], sym, codes, rules}
use Rattle.clap.specs.Words.{found_of, rows_of}
use Rattle.clap.proofs.WalkLemmas.{raw_values-rows}
use Rattle.cs_shell_command_line.proofs.WordsLemmas.{asked_with}
use Rattle.cs_shell_command_line.proofs.parse.action_of.Goals as goal

pub returns-in-Some : goal.returns-in-Some
returns-in-Some c =
    let found = found_of c.args.matches.now in
    let arguments = sym (raw_values-rows found (codes "ARG")) ∙ sym c.get_strs.ensures in
    c.command_of.ensures
    ∙ sym (asked_with (rows_of found) c.in_ok-policy.policy c.noop_of-noop.result c.in_ok-file.file.now c.in_ok-name.name.now _ (search rules) (sym c.noop_of-noop.ensures) (search rules) (search rules) (search rules))

pub returns-in-None : goal.returns-in-None
returns-in-None c =
    let found = found_of c.args.matches.now in
    let arguments = sym (raw_values-rows found (codes "ARG")) ∙ sym c.get_strs.ensures in
    c.bare_command.ensures
    ∙ sym (asked_with (rows_of found) c.in_ok-policy.policy c.noop_of-noop.result c.in_ok-file.file.now c.in_ok-name.name.now [] (search rules) (sym c.noop_of-noop.ensures) (search rules) (search rules) (search rules))
