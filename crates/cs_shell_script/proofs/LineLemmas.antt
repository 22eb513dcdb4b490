-- Lines that are answered over a store, as a script sees them.
use Rattle.std.proofs.Common.{◌≡◌, inl, inr, ℕ, ◌||◌, Bool, true, List, [], ◌∷◌, Option, None, refl, sym, subst, ◌∙◌}
use Rattle.std.specs.FinMap.{empty}
use Rattle.sqlite.specs.State as sqlite
use Rattle.sqlite.specs.State.{HasCleanDisk}
use Rattle.cs_value.specs.State.{State}
use Rattle.cs_store.specs.Store.{tables_in}
use Rattle.cs_file_texts.specs.declared.told.Told.{Told}
use Rattle.cs_shell_script.specs.declared.script.Status.{Status}
use Rattle.cs_shell_executor.specs.declared.workspace.Workspace.{Workspace}
use Rattle.cs_shell_replies.specs.declared.refusal.Refusal.{Refusal}
use Rattle.cs_shell_replies.specs.Replies.{Reply, Refused}
use Rattle.cs_shell_script.specs.Runs.{LinesGive, Runs}
use Rattle.cs_shell_executor.specs.LineAnswers.{IsResource, LineGives, unanswered}
use Rattle.cs_shell_executor.specs.ShellState.{ShellState}
use Rattle.cs_shell_script.specs.StoreRuns.{HasReply, IsSettled, RunsScript, Shows, beginning}
use Rattle.cs_store.specs.Turns.{AreSame, Known, Stands, TurnsBetween}
use Rattle.cs_shell_executor.specs.Works.{GaveOn, OrUnable, WorksOn, IsHere, seen, seen_session}
use Rattle.cs_shell_script.specs.Shells.{Answers, RunsShell}
use Rattle.cs_shell_script.proofs.RunLemmas.{Runs-answered}
use Rattle.cs_shell_executor.proofs.TurnLemmas.{between_at_rest, between_still, between_then, between_weaker, known_shows, unable_as}

-- a line before which the store refused to be at rest
pub line_not_at_rest : (old new : sqlite.State) (was is : Bool) (work : Workspace) (line : List ℕ) (why : Refusal) → IsResource why
    → ((rests : Bool) → TurnsBetween old new (Known (rests || was) old) (Known (rests || is) new) AreSame) → Answers old new was is work work line (Refused why)
line_not_at_rest old new was is work line why resource turns = λ rests.
    between_weaker (Known (rests || was) old) (Known (rests || is) new) AreSame (GaveOn work.slots work.slots work.session work.session (λ state. LineGives state line) (Refused why)) old new
    (λ t u same. subst (λ (s : State). GaveOn work.slots work.slots work.session work.session (λ state. LineGives state line) (Refused why) t s) (sym same)
    (λ here. (here, unable_as (λ state. LineGives state line) (seen t work.slots work.session) why resource))) (turns rests)

-- a line over a store that is at rest
pub line_at_rest : (old mid new : sqlite.State) (was is : Bool) (before after : Workspace) (line : List ℕ) (reply : Reply) → is ≡ true
    → ((rests : Bool) → TurnsBetween old mid (Known (rests || was) old) (Known (rests || is) mid) AreSame)
    → WorksOn mid new before.slots after.slots before.session after.session (λ state. LineGives state line) reply → Answers old new was is before after line reply
line_at_rest old mid new was is before after line reply at_rest turns works = λ rests.
    between_then (Known (rests || was) old) (Known (rests || is) mid) (Known (rests || is) new) AreSame
    (GaveOn before.slots after.slots before.session after.session (λ state. LineGives state line) reply) (GaveOn before.slots after.slots before.session after.session (λ state. LineGives state line) reply) old mid new (turns rests)
    (between_at_rest rests is (GaveOn before.slots after.slots before.session after.session (λ state. LineGives state line) reply) mid new at_rest works)
    (λ t u v same work. subst (λ (s : State). GaveOn before.slots after.slots before.session after.session (λ state. LineGives state line) reply s v) same work)

-- any line may be refused for memory or by the database
pub line_gives : (line : List ℕ) (old : ShellState) (reply : Reply) (new : ShellState) → OrUnable (λ state. LineGives state line) old reply new → LineGives old line reply new
line_gives line old reply new (inl gives) = gives
line_gives line old reply new (inr unable) =
    subst (λ (s : ShellState). LineGives old line reply s) (sym unable.same)
    (subst (λ (r : Reply). LineGives old line r old) (sym unable.refused) (unanswered old line unable.why unable.resource))

module _ {M : Type 0} (gives : M → List ℕ → Reply → M → Type 0) where
  -- what each line keeps, all keep
  pub lines_keep : {X : Type 0} (name : M → X) → ((a b : M) (line : List ℕ) (reply : Reply) → gives a line reply b → name b ≡ name a)
      → (lines : List (List ℕ)) (replies : List Reply) (a b : M) → LinesGive gives a lines replies b → name b ≡ name a
  lines_keep name kept [] [] a b given = subst (λ (m : M). name m ≡ name a) (sym given) refl
  lines_keep name kept [] (reply ∷ replies) a b given = absurd given
  lines_keep name kept (line ∷ lines) [] a b given = absurd given
  lines_keep name kept (line ∷ lines) (reply ∷ replies) a b given =
      lines_keep name kept lines replies given.0 b given.2 ∙ kept a given.0 line reply given.1

  module _ (conn : M → sqlite.State) (known : M → State → Type 0) (work : M → Workspace)
      (answers : (a b : M) (line : List ℕ) (reply : Reply) → gives a line reply b
      → TurnsBetween (conn a) (conn b) (known a) (known b) (GaveOn (work a).slots (work b).slots (work a).session (work b).session (λ state. LineGives state line) reply)) where
    abbrev sees : State → M → ShellState
    sees t m = seen t (work m).slots (work m).session

    -- lines gave these replies, over these tables, whose session has its tables there
    abbrev Given : List (List ℕ) → List Reply → M → M → State → State → Type 0
    Given lines replies a b t u = IsHere t (work a).session → IsHere u (work b).session × LinesGive LineGives (sees t a) lines replies (sees u b)

    -- lines in turn are one turn
    pub lines_turn : (lines : List (List ℕ)) (replies : List Reply) (a b : M) → LinesGive gives a lines replies b → TurnsBetween (conn a) (conn b) (known a) (known b) (Given lines replies a b)
    lines_turn [] [] a b given =
        subst (λ (m : M). TurnsBetween (conn a) (conn m) (known a) (known m) (Given [] [] a m)) (sym given) (between_still (known a) (Given [] [] a a) (conn a) (λ t here. (here, refl)))
    lines_turn [] (reply ∷ replies) a b given = absurd given
    lines_turn (line ∷ lines) [] a b given = absurd given
    lines_turn (line ∷ lines) (reply ∷ replies) a b given =
        between_then (known a) (known given.0) (known b) (GaveOn (work a).slots (work given.0).slots (work a).session (work given.0).session (λ state. LineGives state line) reply) (Given lines replies given.0 b) (Given (line ∷ lines) (reply ∷ replies) a b)
        (conn a) (conn given.0) (conn b) (answers a given.0 line reply given.1) (lines_turn lines replies given.0 b given.2)
        (λ t u v first others here.
        let one = first here in
        let more = others one.0 in
        (more.0, (sees u given.0, line_gives line (sees t a) reply (sees u given.0) one.1, more.1)))

-- ---- runs

-- each line has a reply
pub any_replies : {M : Type 0} (gives : M → List ℕ → Reply → M → Type 0) (a b : M) (lines : List (List ℕ)) (replies : List Reply) → LinesGive gives a lines replies b
    → LinesGive HasReply tt lines replies tt
any_replies gives a b [] [] given = refl
any_replies gives a b [] (reply ∷ replies) given = absurd given
any_replies gives a b (line ∷ lines) [] given = absurd given
any_replies gives a b (line ∷ lines) (reply ∷ replies) given = (tt, tt, any_replies gives given.0 b lines replies given.2)

module _ {R W M : Type 0} (remaining : R → Option (List ℕ)) (contents : W → Option (List ℕ)) (gives : M → List ℕ → Reply → M → Type 0) (conn : M → sqlite.State) (known : M → State → Type 0) (work : M → Workspace)
    (answers : (a b : M) (line : List ℕ) (reply : Reply) → gives a line reply b
    → TurnsBetween (conn a) (conn b) (known a) (known b) (GaveOn (work a).slots (work b).slots (work a).session (work b).session (λ state. LineGives state line) reply)) where
  -- a run over a store, as a script sees it
  pub shell_runs : (status : Status) (start final : M) (a b : Told R) (x y : Told W) → Runs remaining contents gives status start final a b x y
      → TurnsBetween (conn start) (conn final) (known start) (known final) (RunsShell remaining contents status (work start) (work final) a b x y)
  shell_runs status start final a b x y runs =
      let some = Runs-answered remaining contents gives LineGives status start final a b x y runs in
      between_weaker (known start) (known final) (Given gives conn known work answers some.lines some.replies start final) (RunsShell remaining contents status (work start) (work final) a b x y) (conn start) (conn final)
      (λ t u holds here. some.seen (sees gives conn known work answers t start) (sees gives conn known work answers u final) (holds here).1)
      (lines_turn gives conn known work answers some.lines some.replies start final some.given)

-- a script begins with no slot and no session
pub begins : {R W : Type 0} (remaining : R → Option (List ℕ)) (contents : W → Option (List ℕ)) (status : Status) (at_rest : Bool) (old new : sqlite.State) (work after : Workspace) (a b : Told R) (x y : Told W)
    → work.slots ≡ empty → work.session ≡ None → TurnsBetween old new (Shows old) (Known at_rest new) (RunsShell remaining contents status work after a b x y)
    → HasCleanDisk new → (t : State) → Shows old t → RunsScript remaining contents status a b x y t new
begins remaining contents status at_rest old new work after a b x y slots session turns clean t shows =
    let done = turns.done clean t shows in
    let here : IsHere t work.session = rw session tt in
    let start : seen t work.slots work.session ≡ beginning t = λ i. record { tables = t; slots = slots i; session = seen_session t (session i) } in
    record {
      last = seen done.0 after.slots after.session;
      runs = subst (λ (s : ShellState). Runs remaining contents LineGives status s (seen done.0 after.slots after.session) a b x y) start (done.2 here);
      shows = known_shows at_rest new done.0 done.1;
    }

-- a store that was at rest is at rest
pub stays_at_rest : (old new : sqlite.State) (Holds : State → State → Type 0) → TurnsBetween old new (Stands old) (Stands new) Holds → HasCleanDisk new → IsSettled old → IsSettled new
stays_at_rest old new Holds turns clean rests = λ is_open. ((turns.done clean (tables_in old.now) (λ was_open. (rests was_open, refl))).1 is_open).0
