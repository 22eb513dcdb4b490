-- What a line and a script do with a store and a workspace: the vocabulary of private contracts.
use Rattle.std.specs.Prelude.{ℕ, ◌||◌, Bool, List, Option}
use Rattle.sqlite.specs.State as sqlite
use Rattle.cs_value.specs.State.{State}
use Rattle.cs_shell_replies.specs.Replies.{Reply}
use Rattle.cs_shell_executor.specs.declared.workspace.Workspace.{Workspace}
use Rattle.cs_shell_executor.specs.LineAnswers.{LineGives}
use Rattle.cs_store.specs.Turns.{Known, TurnsBetween}
use Rattle.cs_shell_executor.specs.Works.{GaveOn, IsHere, seen}
use Rattle.cs_shell_script.specs.Runs.{Runs}
use Rattle.cs_shell_script.specs.declared.script.Status.{Status}
use Rattle.cs_file_texts.specs.declared.told.Told.{Told}

-- a line gave this reply, over a store that was at rest, or not, and is, or not; one that is at rest stays so
abbrev pub Answers : sqlite.State → sqlite.State → Bool → Bool → Workspace → Workspace → List ℕ → Reply → Type 0
Answers old new was is before after line reply = (rests : Bool)
    → TurnsBetween old new (Known (rests || was) old) (Known (rests || is) new)
    (GaveOn before.slots after.slots before.session after.session (λ state. LineGives state line) reply)

-- a script was run, from these tables to those, whose session, if one was open, has its tables there
abbrev pub RunsShell : {R W : Type 0} → (R → Option (List ℕ)) → (W → Option (List ℕ)) → Status
    → Workspace → Workspace → Told R → Told R → Told W → Told W → State → State → Type 0
RunsShell remaining contents status work kept input_before input_after out_before out_after before after =
    IsHere before work.session → Runs remaining contents LineGives status
    (seen before work.slots work.session) (seen after kept.slots kept.session)
    input_before input_after out_before out_after
