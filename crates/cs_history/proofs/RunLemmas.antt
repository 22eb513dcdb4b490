-- Histories stay sound over a run, and what an undo and a redo restore.
use Rattle.std.proofs.Common.{◌≡◌, ◌-◌, inl, inr, ℕ, zero, suc, Bool, true, false, List, [], ◌∷◌, ◌++◌, refl, sym, ap, subst, ◌∙◌}
use Rattle.std.specs.Prelude.{leb, length}
use Rattle.cs_value.specs.State.{State, RowMap}
use Rattle.cs_apply_engine.specs.Running.{Leads}
use Rattle.cs_wire.specs.Laws.{ChangesetFiles}
use Rattle.cs_history.specs.Stored.{ActionData, actions_of, done_actions, undone_actions}
use Rattle.cs_history.specs.Actions.{others, Acts, UndoesLast, RedoesNext, newest}
use Rattle.cs_history.specs.Runs.{LeadsBack, LeadsOn, IsSound, Step, BeginsSound, ForgetsSound, MovesSound, RunsSound, SameTables, ThereAndBack, UndoRestores, RedoRestores, IsBack}
use Rattle.cs_history.proofs.ApartLemmas.{leads_once}

module _ (name : List ℕ) (origin : State) where
  -- the tables and the actions of one state are those of another
  sound_as : (n : State) (now : State) (done undone : List ActionData) → others n name ≡ now → done_actions n name ≡ done → undone_actions n name ≡ undone
      → LeadsBack name origin done now → LeadsOn name undone now → IsSound name origin n
  sound_as n now done undone here is_done is_undone back on = record {
    done = subst (λ (t : State). LeadsBack name origin (done_actions n name) t) (sym here) (subst (λ (l : List ActionData). LeadsBack name origin l now) (sym is_done) back);
    undone = subst (λ (t : State). LeadsOn name (undone_actions n name) t) (sym here) (subst (λ (l : List ActionData). LeadsOn name l now) (sym is_undone) on);
  }

  undo_sound : (m n : State) → IsSound name origin m → UndoesLast name m n → IsSound name origin n
  undo_sound m n sound it =
      let back = subst (λ (l : List ActionData). LeadsBack name origin l (others m name)) it.first sound.done in
      let moved = it.moved back.0 back.1 in
      sound_as n back.0 it.rest (it.action ∷ undone_actions m name) moved.0 moved.1 moved.2 back.2 (others m name, back.1, sound.undone)

  redo_sound : (m n : State) → IsSound name origin m → RedoesNext name m n → IsSound name origin n
  redo_sound m n sound it =
      let on = subst (λ (l : List ActionData). LeadsOn name l (others m name)) it.first sound.undone in
      let moved = it.moved on.0 on.1 in
      sound_as n on.0 (it.action ∷ done_actions m name) it.rest moved.0 moved.2 moved.1 (others m name, on.1, sound.done) on.2

  act_sound : (label changeset : List ℕ) (m after n : State) → IsSound name origin m → Acts name label changeset m after n → IsSound name origin n
  act_sound label changeset m after n sound it =
      sound_as n (others after name) (record { label = label; changeset = changeset } ∷ done_actions after name) [] it.same it.done it.undone
      (others m name, it.leads, subst (λ (rows : RowMap). LeadsBack name origin (actions_of true rows) (others m name)) it.kept sound.done) tt

  back_once : ChangesetFiles → (actions : List ActionData) (s t : State) → LeadsBack name origin actions s → LeadsBack name origin actions t → s ≡ t
  back_once law [] s t one two = one ∙ sym two
  back_once law (action ∷ actions) s t one two =
      let same = back_once law actions one.0 two.0 one.2 two.2 in
      leads_once law action.changeset one.0 s t one.1.leads (subst (λ (b : State). Leads action.changeset b t) (sym same) two.1.leads)

pub begins_sound : BeginsSound
begins_sound name state done undone = sound_as name (others state name) state (others state name) [] [] refl done undone refl tt

pub moves_sound : MovesSound
moves_sound name origin m action rest sound = (
  λ first. let back = subst (λ (l : List ActionData). LeadsBack name origin l (others m name)) first sound.done in
      record { action = action; rest = rest; first = first; reached = back.0; turns = back.1 },
  λ first. let on = subst (λ (l : List ActionData). LeadsOn name l (others m name)) first sound.undone in
      record { action = action; rest = rest; first = first; reached = on.0; turns = on.1 },
)

-- the newest actions lead back to where the last of them began, and the others from there to the beginning
abbrev Parts : List ℕ → State → List ActionData → List ActionData → State → Type 0
Parts name origin actions kept now = (later : State) × (gone : List ActionData) × (actions ≡ kept ++ gone) × LeadsBack name origin gone later × LeadsBack name later kept now

newest_back : (name : List ℕ) (keep bytes : ℕ) (origin : State) (actions : List ActionData) (now : State) → LeadsBack name origin actions now → Parts name origin actions (newest keep bytes actions) now
newest_back name keep bytes origin [] now back = (now, [], refl, back, refl)
newest_back name zero bytes origin (action ∷ actions) now back = (now, action ∷ actions, refl, back, refl)
newest_back name (suc keep) bytes origin (action ∷ actions) now back =
    at (leb (length action.changeset) bytes) refl (newest_back name keep (bytes - length action.changeset) origin actions back.0 back.2)
  where
    at : (b : Bool) → leb (length action.changeset) bytes ≡ b → Parts name origin actions (newest keep (bytes - length action.changeset) actions) back.0
        → Parts name origin (action ∷ actions) (newest (suc keep) bytes (action ∷ actions)) now
    at true fits rest = rw fits (rest.0, rest.1, ap (λ (l : List ActionData). action ∷ l) rest.2, rest.3, (back.0, back.1, rest.4))
    at false full rest = rw full (now, action ∷ actions, refl, back, refl)

pub forgets_sound : ForgetsSound
forgets_sound name origin m n keep bytes sound it =
    let back = newest_back name keep bytes origin (done_actions m name) (others m name) sound.done in (
      back.0,
      back.1,
      back.2 ∙ ap (λ (l : List ActionData). l ++ back.1) (sym it.done),
      back.3,
      sound_as name back.0 n (others m name) (newest keep bytes (done_actions m name)) (undone_actions m name) it.same it.done it.undone back.4 sound.undone,
    )

step_sound : (name : List ℕ) (origin m n : State) → IsSound name origin m → Step name m n → (beginning : State) × IsSound name beginning n
step_sound name origin m n sound (inl it) = (origin, act_sound name origin it.0 it.1 m it.2 n sound it.3)
step_sound name origin m n sound (inr (inl it)) = (origin, subst (λ (s : State). IsSound name origin s) (it.1.nothing ∙ sym it.1.same) sound)
step_sound name origin m n sound (inr (inr (inl it))) = (origin, undo_sound name origin m n sound it)
step_sound name origin m n sound (inr (inr (inr (inl it)))) = (origin, redo_sound name origin m n sound it)
step_sound name origin m n sound (inr (inr (inr (inr (inl it))))) = let forgot = forgets_sound name origin m n it.0 it.1 sound it.2 in (forgot.0, forgot.4)
step_sound name origin m n sound (inr (inr (inr (inr (inr same))))) = (origin, subst (λ (s : State). IsSound name origin s) (sym same) sound)

pub runs_sound : RunsSound
runs_sound name origin m [] sound run = (origin, sound)
runs_sound name origin m (n ∷ later) sound run =
    let next = step_sound name origin m n sound run.0 in
    runs_sound name next.0 n later next.1 run.1

pub same_tables : ChangesetFiles → SameTables
same_tables law name origin m n one two same =
    back_once name origin law (done_actions n name) (others m name) (others n name)
    (subst (λ (l : List ActionData). LeadsBack name origin l (others m name)) same one.done) two.done

pub undo_restores : UndoRestores
undo_restores name label changeset m after n back acts undoes =
    let action : ActionData = record { label = label; changeset = changeset } in
    let same : undoes.action ∷ undoes.rest ≡ action ∷ done_actions after name = sym undoes.first ∙ acts.done in
    let first : undoes.action ≡ action = cc in
    let rest : undoes.rest ≡ done_actions after name = cc in
    let moved = undoes.moved (others m name) (rw (first, acts.same) acts.leads) in
    record {
      others = moved.0;
      done = moved.1 ∙ rest ∙ ap (actions_of true) (sym acts.kept);
      undone = moved.2 ∙ (λ i. first i ∷ acts.undone i);
    }

-- a redo restores what an undo has changed, from any moment with the tables and the actions after it
redo_back : (name : List ℕ) (origin m back same on : State) → IsSound name origin m → UndoesLast name m back → IsBack name back same → RedoesNext name same on → IsBack name m on
redo_back name origin m back same on sound undoes is_back redoes =
    let before = subst (λ (l : List ActionData). LeadsBack name origin l (others m name)) undoes.first sound.done in
    let undone = undoes.moved before.0 before.1 in
    let actions : redoes.action ∷ redoes.rest ≡ undoes.action ∷ undone_actions m name = sym redoes.first ∙ is_back.undone ∙ undone.2 in
    let first : redoes.action ≡ undoes.action = cc in
    let rest : redoes.rest ≡ undone_actions m name = cc in
    let moved = redoes.moved (others m name) (rw (first, is_back.others ∙ undone.0) before.1) in
    record {
      others = moved.0;
      done = moved.2 ∙ (λ i. first i ∷ (is_back.done ∙ undone.1) i) ∙ sym undoes.first;
      undone = moved.1 ∙ rest;
    }

pub redo_restores : RedoRestores
redo_restores name origin m back on sound undoes redoes = redo_back name origin m back back on sound undoes (record { others = refl; done = refl; undone = refl }) redoes

pub there_and_back : ThereAndBack
there_and_back name origin zero m back on sound undone redone =
    let same = redone ∙ undone in
    record { others = ap (λ (s : State). others s name) same; done = ap (λ (s : State). done_actions s name) same; undone = ap (λ (s : State). undone_actions s name) same }
there_and_back name origin (suc count) m back on sound undone redone =
    redo_back name origin m undone.0 redone.0 on sound undone.1 (there_and_back name origin count undone.0 back redone.0 (undo_sound name origin m undone.0 sound undone.1) undone.2 redone.1) redone.2
