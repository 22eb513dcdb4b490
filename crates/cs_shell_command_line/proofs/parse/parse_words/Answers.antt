-- `parse::parse_words`: what it ensures.
use Rattle.std.proofs.Common.{◌≡◌, ◌∙◌, map, ap, sym, subst, arith, option_map}
use Rattle.std.specs.Prelude.{string_bytes}
use Rattle.std.proofs.lemmas.List.{length-map}
use Rattle.std.proofs.lemmas.Result.{err_from_is_err_and}
use Rattle.clap.specs.Words.{App, HasKind, app_of, fault_of, kind_of, is_simple, matches_of, takes, found_of, rows_of}
use Rattle.clap.specs.Faults.{is_simple_and_free}
use Rattle.cs_shell_command_line.specs.Words.{asked_by, asked_of, command_app}
use Rattle.cs_shell_command_line.proofs.WordsLemmas.{is_simple_app, is_free_app, refuses_kind, refuses_misfit, asked_fit}
use Rattle.cs_shell_command_line.proofs.parse.parse_words.Goals as goal

pub returns-in_err-matches-clause-refused : goal.returns-in_err-matches-clause-refused
returns-in_err-matches-clause-refused c =
    let app : app_of c.in_ok-command_line.field-0 ≡ command_app = c.in_ok-command_line.ensures in
    let words = map string_bytes c.args.words.now in
    let p = err_from_is_err_and c.from_residual-in_err-matches.result c.from_residual-in_err-matches.ensures.1 in
    rw (p.1, p.2) (refuses_kind words (kind_of c.in_err-matches.field-0.0) (omega (arith, c.if-words-le1.false, length-map c.args.words.now string_bytes))
    (λ taken. c.in_err-matches.ensures.passes (ap (λ (a : App). takes a words) app ∙ taken))
    (subst (λ (a : App). HasKind (fault_of a words) c.in_err-matches.field-0.0) app (c.in_err-matches.ensures.kinds (ap is_simple_and_free app ∙ is_free_app))))

pub returns-in-Some-clause-asked : goal.returns-in-Some-clause-asked
returns-in-Some-clause-asked c =
    let app : app_of c.in_ok-command_line.field-0 ≡ command_app = c.in_ok-command_line.ensures in
    let words = map string_bytes c.args.words.now in
    let rows : rows_of (found_of c.in_ok-matches.matches) ≡ matches_of command_app words =
    (c.in_ok-matches.ensures.matches (ap is_simple app ∙ is_simple_app)).0 ∙ ap (λ (a : App). matches_of a words) app in
    asked_fit words (asked_of c.in-Some.action) (omega (arith, c.if-words-le1.false, length-map c.args.words.now string_bytes))
    (ap (λ (a : App). fault_of a words) (sym app) ∙ c.in_ok-matches.ensures.kinds (ap is_simple_and_free app ∙ is_free_app))
    (ap asked_by (sym rows) ∙ sym c.action_of.ensures ∙ ap (option_map asked_of) c.in-Some.is)

pub returns-clause-refused : goal.returns-clause-refused
returns-clause-refused c =
    let app : app_of c.in_ok-command_line.field-0 ≡ command_app = c.in_ok-command_line.ensures in
    let words = map string_bytes c.args.words.now in
    let rows : rows_of (found_of c.in_ok-matches.matches) ≡ matches_of command_app words =
    (c.in_ok-matches.ensures.matches (ap is_simple app ∙ is_simple_app)).0 ∙ ap (λ (a : App). matches_of a words) app in
    refuses_misfit words (omega (arith, c.if-words-le1.false, length-map c.args.words.now string_bytes))
    (ap (λ (a : App). fault_of a words) (sym app) ∙ c.in_ok-matches.ensures.kinds (ap is_simple_and_free app ∙ is_free_app))
    (ap asked_by (sym rows) ∙ sym c.action_of.ensures ∙ ap (option_map asked_of) c.in-None.is)
