-- Command lines, and what they ask for.
use Rattle.std.proofs.Common.{◌≡◌, refl, [], ◌∷◌, None, Some, true, codes}
use Rattle.clap.specs.Words.{takes, fault_of}
use Rattle.clap.specs.declared.error.kind.ErrorKind.TheVariants as kind
use Rattle.clap.proofs.OnLiterals.{clap_on_literals}
use Rattle.cs_apply_conflict_kinds.specs.declared.conflict.Choice.{Choice}
use Rattle.cs_apply_conflict_kinds.specs.declared.conflict.Choice.TheVariants as choice
use Rattle.cs_apply_conflict_kinds.specs.declared.conflict.Noop.TheVariants.{Report, Ignore}
use Rattle.cs_apply_engine.specs.declared.policy.Policy.{Policy}
use Rattle.cs_shell_command_line.specs.Words.{asked, command_app, Apply, Concat, Dump, Sql, Invert, Shell}

abbrev policy : Choice → Choice → Choice → Choice → Policy
policy on_data on_notfound on_conflict on_constraint = record { on_data = on_data; on_notfound = on_notfound; on_conflict = on_conflict; on_constraint = on_constraint }

-- no word, and only the name
no_word : asked [] ≡ Some (Shell (codes ":memory:"))
no_word = refl

the_name_alone : asked (codes "changeset" ∷ []) ≡ Some (Shell (codes ":memory:"))
the_name_alone = refl

-- ---- each command

applies : asked (codes "changeset" ∷ codes "a.cs" ∷ codes "apply" ∷ codes "s" ∷ []) ≡ Some (Apply (codes "a.cs") (codes "s") (policy choice.Abort choice.Abort choice.Abort choice.Abort) Report)
unfolding clap_on_literals
applies = refl

joins : asked (codes "changeset" ∷ codes "a.cs" ∷ codes "concat" ∷ codes "b.cs" ∷ codes "o" ∷ []) ≡ Some (Concat (codes "a.cs") (codes "b.cs") (codes "o"))
unfolding clap_on_literals
joins = refl

dumps : asked (codes "changeset" ∷ codes "a.cs" ∷ codes "dump" ∷ []) ≡ Some (Dump (codes "a.cs"))
unfolding clap_on_literals
dumps = refl

prints_sql : asked (codes "changeset" ∷ codes "a.cs" ∷ codes "sql" ∷ []) ≡ Some (Sql (codes "a.cs"))
unfolding clap_on_literals
prints_sql = refl

inverts : asked (codes "changeset" ∷ codes "a.cs" ∷ codes "invert" ∷ codes "o" ∷ []) ≡ Some (Invert (codes "a.cs") (codes "o"))
unfolding clap_on_literals
inverts = refl

runs_a_shell : asked (codes "changeset" ∷ codes "s" ∷ codes "shell" ∷ []) ≡ Some (Shell (codes "s"))
unfolding clap_on_literals
runs_a_shell = refl

-- ---- policies

omits_data : asked (codes "changeset" ∷ codes "--data" ∷ codes "omit" ∷ codes "a.cs" ∷ codes "apply" ∷ codes "s" ∷ []) ≡ Some (Apply (codes "a.cs") (codes "s") (policy choice.Omit choice.Abort choice.Abort choice.Abort) Report)
unfolding clap_on_literals
omits_data = refl

replaces_notfound : asked (codes "changeset" ∷ codes "--notfound=replace" ∷ codes "a.cs" ∷ codes "apply" ∷ codes "s" ∷ []) ≡ Some (Apply (codes "a.cs") (codes "s") (policy choice.Abort choice.Replace choice.Abort choice.Abort) Report)
unfolding clap_on_literals
replaces_notfound = refl

replaces_conflict : asked (codes "changeset" ∷ codes "a.cs" ∷ codes "apply" ∷ codes "s" ∷ codes "--conflict" ∷ codes "replace" ∷ []) ≡ Some (Apply (codes "a.cs") (codes "s") (policy choice.Abort choice.Abort choice.Replace choice.Abort) Report)
unfolding clap_on_literals
replaces_conflict = refl

replaces_what_a_table_refuses : asked (codes "changeset" ∷ codes "--constraint" ∷ codes "replace" ∷ codes "a.cs" ∷ codes "apply" ∷ codes "s" ∷ []) ≡ Some (Apply (codes "a.cs") (codes "s") (policy choice.Abort choice.Abort choice.Abort choice.Replace) Report)
unfolding clap_on_literals
replaces_what_a_table_refuses = refl

omits_what_a_table_refuses_behind : asked (codes "changeset" ∷ codes "a.cs" ∷ codes "apply" ∷ codes "s" ∷ codes "--constraint=omit" ∷ codes "--conflict=replace" ∷ []) ≡ Some (Apply (codes "a.cs") (codes "s") (policy choice.Abort choice.Abort choice.Replace choice.Omit) Report)
unfolding clap_on_literals
omits_what_a_table_refuses_behind = refl

ignores_noops : asked (codes "changeset" ∷ codes "--ignore-noop" ∷ codes "a.cs" ∷ codes "apply" ∷ codes "s" ∷ []) ≡ Some (Apply (codes "a.cs") (codes "s") (policy choice.Abort choice.Abort choice.Abort choice.Abort) Ignore)
unfolding clap_on_literals
ignores_noops = refl

ignores_noops_between : asked (codes "changeset" ∷ codes "a.cs" ∷ codes "--ignore-noop" ∷ codes "apply" ∷ codes "s" ∷ []) ≡ Some (Apply (codes "a.cs") (codes "s") (policy choice.Abort choice.Abort choice.Abort choice.Abort) Ignore)
unfolding clap_on_literals
ignores_noops_between = refl

ignores_noops_behind : asked (codes "changeset" ∷ codes "a.cs" ∷ codes "apply" ∷ codes "s" ∷ codes "--ignore-noop" ∷ []) ≡ Some (Apply (codes "a.cs") (codes "s") (policy choice.Abort choice.Abort choice.Abort choice.Abort) Ignore)
unfolding clap_on_literals
ignores_noops_behind = refl

ignores_noops_and_omits_data : asked (codes "changeset" ∷ codes "--data" ∷ codes "omit" ∷ codes "--ignore-noop" ∷ codes "a.cs" ∷ codes "apply" ∷ codes "s" ∷ []) ≡ Some (Apply (codes "a.cs") (codes "s") (policy choice.Omit choice.Abort choice.Abort choice.Abort) Ignore)
unfolding clap_on_literals
ignores_noops_and_omits_data = refl

dumps_with_the_flag : asked (codes "changeset" ∷ codes "--ignore-noop" ∷ codes "a.cs" ∷ codes "dump" ∷ []) ≡ Some (Dump (codes "a.cs"))
unfolding clap_on_literals
dumps_with_the_flag = refl

dumps_with_an_option : asked (codes "changeset" ∷ codes "--data" ∷ codes "omit" ∷ codes "a.cs" ∷ codes "dump" ∷ []) ≡ Some (Dump (codes "a.cs"))
unfolding clap_on_literals
dumps_with_an_option = refl

dumps_a_file_of_an_options_name : asked (codes "changeset" ∷ codes "--" ∷ codes "--data" ∷ codes "dump" ∷ []) ≡ Some (Dump (codes "--data"))
unfolding clap_on_literals
dumps_a_file_of_an_options_name = refl

-- ---- what asks for nothing

no_choice : asked (codes "changeset" ∷ codes "--data" ∷ codes "maybe" ∷ codes "a.cs" ∷ codes "dump" ∷ []) ≡ None
unfolding clap_on_literals
no_choice = refl

an_option_twice : asked (codes "changeset" ∷ codes "--data" ∷ codes "omit" ∷ codes "--data" ∷ codes "omit" ∷ codes "a.cs" ∷ codes "dump" ∷ []) ≡ None
unfolding clap_on_literals
an_option_twice = refl

no_choice_for_what_a_table_refuses : asked (codes "changeset" ∷ codes "--constraint" ∷ codes "maybe" ∷ codes "a.cs" ∷ codes "dump" ∷ []) ≡ None
unfolding clap_on_literals
no_choice_for_what_a_table_refuses = refl

that_choice_twice : asked (codes "changeset" ∷ codes "--constraint" ∷ codes "omit" ∷ codes "--constraint=omit" ∷ codes "a.cs" ∷ codes "apply" ∷ codes "s" ∷ []) ≡ None
unfolding clap_on_literals
that_choice_twice = refl

the_flag_twice : asked (codes "changeset" ∷ codes "--ignore-noop" ∷ codes "a.cs" ∷ codes "apply" ∷ codes "s" ∷ codes "--ignore-noop" ∷ []) ≡ None
unfolding clap_on_literals
the_flag_twice = refl

the_flag_with_a_value : asked (codes "changeset" ∷ codes "--ignore-noop=true" ∷ codes "a.cs" ∷ codes "apply" ∷ codes "s" ∷ []) ≡ None
unfolding clap_on_literals
the_flag_with_a_value = refl

the_flag_with_another_name : asked (codes "changeset" ∷ codes "--noop" ∷ codes "a.cs" ∷ codes "apply" ∷ codes "s" ∷ []) ≡ None
unfolding clap_on_literals
the_flag_with_another_name = refl

no_command : asked (codes "changeset" ∷ codes "a.cs" ∷ []) ≡ None
unfolding clap_on_literals
no_command = refl

an_unknown_command : asked (codes "changeset" ∷ codes "a.cs" ∷ codes "frob" ∷ []) ≡ None
unfolding clap_on_literals
an_unknown_command = refl

an_argument_too_many : asked (codes "changeset" ∷ codes "a.cs" ∷ codes "dump" ∷ codes "x" ∷ []) ≡ None
unfolding clap_on_literals
an_argument_too_many = refl

an_argument_too_few : asked (codes "changeset" ∷ codes "a.cs" ∷ codes "apply" ∷ []) ≡ None
unfolding clap_on_literals
an_argument_too_few = refl

an_unknown_option : asked (codes "changeset" ∷ codes "--dta" ∷ codes "omit" ∷ codes "a.cs" ∷ codes "dump" ∷ []) ≡ None
unfolding clap_on_literals
an_unknown_option = refl

-- the one thing that clap may answer then is help
asks_for_help : fault_of command_app (codes "changeset" ∷ codes "--help" ∷ []) ≡ kind.DisplayHelp ∷ []
unfolding clap_on_literals
asks_for_help = refl

asks_for_help_shortly : fault_of command_app (codes "changeset" ∷ codes "a.cs" ∷ codes "-h" ∷ []) ≡ kind.DisplayHelp ∷ []
unfolding clap_on_literals
asks_for_help_shortly = refl

-- the flag twice, and with a value
faults_the_flag_twice : fault_of command_app (codes "changeset" ∷ codes "--ignore-noop" ∷ codes "a.cs" ∷ codes "apply" ∷ codes "s" ∷ codes "--ignore-noop" ∷ []) ≡ kind.ArgumentConflict ∷ []
unfolding clap_on_literals
faults_the_flag_twice = refl

faults_the_flag_with_a_value : fault_of command_app (codes "changeset" ∷ codes "--ignore-noop=true" ∷ codes "a.cs" ∷ codes "apply" ∷ codes "s" ∷ []) ≡ kind.TooManyValues ∷ []
unfolding clap_on_literals
faults_the_flag_with_a_value = refl

-- clap takes the words of a command that there is not
takes_any_command : takes command_app (codes "changeset" ∷ codes "a.cs" ∷ codes "frob" ∷ []) ≡ true
unfolding clap_on_literals
takes_any_command = refl
