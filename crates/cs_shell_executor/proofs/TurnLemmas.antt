-- What calls of a store and of a session do, as turns of a script.
use Rattle.std.proofs.Common.{◌≡◌, ◌⊎◌, inl, inr, Bool, true, false, ◌||◌, Option, Result, Ok, Err, OnErr, IsTrue, refl, sym, ap, subst, ◌∙◌, arith}
use Rattle.sqlite_disk.specs.Disk.{MoreFaults}
use Rattle.sqlite_trees.specs.Tree.{Trees}
use Rattle.sqlite.specs.Effect.{Database, IsDatabase}
use Rattle.sqlite.specs.State.{State, HasCleanDisk, Survives}
use Rattle.cs_value.specs.State as tables
use Rattle.cs_rows.specs.declared.fault.StoreError.{StoreError}
use Rattle.cs_rows.specs.declared.fault.StoreError.TheVariants as store
use Rattle.cs_store.specs.Faults as faults
use Rattle.cs_store.specs.Faults.{refused_for}
use Rattle.cs_store.specs.Laws.{was_clean}
use Rattle.cs_store.specs.Records.{KeepsContent, KeepsCrash, KeepsOthers, IsUndone}
use Rattle.cs_store.specs.Store.{Begins, IsAtRest, KeepsStore, tables_in}
use Rattle.cs_apply_engine.specs.declared.fault.ApplyFault.{ApplyFault}
use Rattle.cs_apply_engine.specs.declared.fault.ApplyFault.TheVariants as apply
use Rattle.cs_apply_engine.specs.Running as applies
use Rattle.cs_session_notes.specs.declared.fault.SessionFault.{SessionFault}
use Rattle.cs_session_notes.specs.declared.fault.SessionFault.TheVariants as session
use Rattle.cs_session_notes.specs.Changes as sessions
use Rattle.cs_session_notes.specs.FirstImages.{Notes}
use Rattle.cs_shell_replies.specs.declared.refusal.Refusal.{Refusal}
use Rattle.cs_shell_replies.specs.declared.refusal.Refusal.TheVariants.{NoMemory, Store}
use Rattle.cs_shell_replies.specs.ErrorLines.{of_store, of_apply, of_session}
use Rattle.cs_shell_replies.specs.Replies.{Reply, Refused}
use Rattle.cs_shell_executor.specs.LineAnswers.{IsResource, IsOfStore}
use Rattle.cs_shell_executor.specs.ShellState.{SlotMap, ShellState}
use Rattle.cs_store.proofs.TurnLemmas.{spares_then}
use Rattle.cs_store.specs.Turns.{Shows, SparesOthers, SparesStore, TellsFailures, by_nothing, by_each, Stands, Known, TurnsBetween, AreSame, Turns, Reads}
use Rattle.cs_shell_executor.specs.Works.{OrUnable, Gave, Works, IsHere, seen}

-- what holds in any case holds at Err
pub on_err : {X E : Type 0} {P : Type 0} (result : Result X E) → P → OnErr result P
on_err (Ok x) h = tt
on_err (Err e) h = h

-- ---- the tables that a store has

-- where the content is kept
stands_kept : (old new : State) (t : tables.State) → KeepsContent old new → Stands old t → Stands new t
stands_kept old new t kept stands is_open =
    let was = stands (kept.was_open is_open) in (
      record {
        is_open = is_open;
        autocommit = kept.mode ∙ was.0.autocommit;
        committed = kept.committed is_open ∙ was.0.committed ∙ sym (kept.now is_open);
      },
      ap (λ (db : Database). tables_in db) (kept.now is_open) ∙ was.1,
    )

-- where the store is read
stands_read : (old new : State) (t : tables.State) → KeepsStore old new → HasCleanDisk new → Stands old t → Stands new t
stands_read old new t kept clean stands is_open =
    let rest = (stands ((kept.commit clean).was_open is_open)).0 in
    stands_kept old new t (kept.outside clean rest.autocommit (λ k. sym rest.committed)) stands is_open

-- what holds of the tables that an open store shows, and of any where it is shut
holds_of : (old : State) (Holds : tables.State → Type 0) → (IsAtRest old → Holds (tables_in old.now)) → (old.is_open ≡ false → (t : tables.State) → Holds t)
    → (t : tables.State) → Stands old t → Holds t
holds_of old Holds shown shut t stands = at old.is_open refl
  where
    at : (is_open : Bool) → old.is_open ≡ is_open → Holds t
    at true is = let was = stands is in subst Holds was.1 (shown was.0)
    at false is = shut is t

-- ---- what is known of a store, at rest or not

pub known_shows : (at_rest : Bool) (store : State) (t : tables.State) → Known at_rest store t → Shows store t
known_shows true store t stands = λ is_open. (stands is_open).1
known_shows false store t shows = shows

stands_known : (at_rest : Bool) (store : State) (t : tables.State) → Stands store t → Known at_rest store t
stands_known true store t stands = stands
stands_known false store t stands = λ is_open. (stands is_open).1

known_kept : (at_rest : Bool) (old new : State) (t : tables.State) → KeepsContent old new → Known at_rest old t → Known at_rest new t
known_kept true old new t kept stands = stands_kept old new t kept stands
known_kept false old new t kept shows = λ is_open. ap (λ (db : Database). tables_in db) (kept.now is_open) ∙ shows (kept.was_open is_open)

-- ---- all but the records

-- a call that keeps the content
spares_kept : (old new : State) → (IsTrue new.is_open → IsTrue old.is_open) → (IsTrue new.is_open → new.now ≡ old.now) → SparesStore old new
spares_kept old new was_open same = record {
  was_open = was_open;
  others = λ is_open. subst (SparesOthers old.now) (sym (same is_open)) by_nothing;
}

-- a call that reads
spares_read : (old new : State) (t : tables.State) → KeepsStore old new → HasCleanDisk new → Stands old t → SparesStore old new
spares_read old new t kept clean stands = spares_kept old new (kept.commit clean).was_open (λ is_open.
    let rest = (stands ((kept.commit clean).was_open is_open)).0 in
    (kept.outside clean rest.autocommit (λ k. sym rest.committed)).now is_open)

-- a call that commits: a store that is shut does not
spares_done : (old new : State) → (old.is_open ≡ false → ⊥) → (IsTrue old.is_open → IsDatabase old.now) → KeepsOthers old.now new.now → SparesStore old new
spares_done old new shut sound keeps = record {
  was_open = λ is_open. at old.is_open refl;
  others = λ is_open. by_each old.now new.now by_nothing (sound (at old.is_open refl)) keeps;
}
  where
    at : (is_open : Bool) → old.is_open ≡ is_open → IsTrue old.is_open
    at true is = is
    at false is = absurd (shut is)

-- ---- turns

survives_tells : {P : Trees → Type 0} (old new : State) → Survives old new P → TellsFailures old new
survives_tells old new survives = record { clean = survives.clean; counts = survives.counts; closes = survives.closes }

tells_then : (a b c : State) → TellsFailures a b → TellsFailures b c → TellsFailures a c
tells_then a b c one two = record {
  clean = omega (arith, one.clean, two.clean);
  counts = omega (arith, one.counts, two.counts);
  closes = λ clean is_open. on (one.closes (omega (arith, two.clean, clean)) is_open) clean;
}
  where
    after : IsTrue c.is_open ⊎ MoreFaults b.faults c.faults → IsTrue c.is_open ⊎ MoreFaults a.faults c.faults
    after (inl is_open) = inl is_open
    after (inr more) = inr (omega (arith, one.counts, more))

    on : IsTrue b.is_open ⊎ MoreFaults a.faults b.faults → HasCleanDisk c → IsTrue c.is_open ⊎ MoreFaults a.faults c.faults
    on (inl is_open) clean = after (two.closes clean is_open)
    on (inr more) clean = inr (omega (arith, two.counts, more))

-- nothing was called
pub between_still : (P : tables.State → Type 0) (Holds : tables.State → tables.State → Type 0) (store : State) → ((t : tables.State) → Holds t t) → TurnsBetween store store P P Holds
between_still P Holds store holds = record {
  disk = record { clean = omega arith; counts = omega arith; closes = λ clean is_open. inl is_open };
  done = λ clean t known. (t, known, holds t);
  others = λ clean t known. spares_kept store store (λ is_open. is_open) (λ is_open. refl);
}

module _ (Holds : tables.State → tables.State → Type 0) where
  -- a call that commits, and did: a store that is shut does not
  pub turns_done : {P : Trees → Type 0} (old new : State) → Survives old new P → (HasCleanDisk new → IsAtRest new) → (HasCleanDisk new → old.is_open ≡ false → ⊥)
      → (HasCleanDisk old → IsTrue old.is_open → IsDatabase old.now) → (HasCleanDisk new → KeepsOthers old.now new.now) → (HasCleanDisk new → IsAtRest old → Holds (tables_in old.now) (tables_in new.now)) → Turns old new Holds
  turns_done old new survives rests shut sound others holds = record {
    disk = survives_tells old new survives;
    done = λ clean t stands. (
      tables_in new.now,
      (λ is_open. (rests clean, refl)),
      holds_of old (λ before. Holds before (tables_in new.now)) (holds clean) (λ is before. absurd (shut clean is)) t stands,
    );
    others = λ clean t stands. spares_done old new (shut clean) (sound (omega (arith, survives.clean, clean))) (others clean);
  }

  -- a call that commits, and was refused
  pub turns_refused : {P : Trees → Type 0} (old new : State) → Survives old new P → (HasCleanDisk new → KeepsContent old new)
      → (HasCleanDisk new → old.is_open ≡ false → (t : tables.State) → Holds t t) → (HasCleanDisk new → Holds (tables_in old.now) (tables_in old.now)) → Turns old new Holds
  turns_refused old new survives kept shut holds = record {
    disk = survives_tells old new survives;
    done = λ clean t stands. (t, stands_kept old new t (kept clean) stands, holds_of old (λ t. Holds t t) (λ rest. holds clean) (shut clean) t stands);
    others = λ clean t stands. spares_kept old new (kept clean).was_open (kept clean).now;
  }

  -- a call that reads
  pub turns_read : (old new : State) → KeepsStore old new → (HasCleanDisk new → old.is_open ≡ false → (t : tables.State) → Holds t t)
      → (HasCleanDisk new → IsAtRest old → Holds (tables_in old.now) (tables_in old.now)) → Turns old new Holds
  turns_read old new kept shut holds = record {
    disk = survives_tells old new kept.crash;
    done = λ clean t stands. (t, stands_read old new t kept clean stands, holds_of old (λ t. Holds t t) (holds clean) (shut clean) t stands);
    others = λ clean t stands. spares_read old new t kept clean stands;
  }

  pub turns_still : (store : State) → ((t : tables.State) → Holds t t) → Turns store store Holds
  turns_still store holds = between_still (Stands store) Holds store holds

-- one turn after another
pub between_then : (P Q R : tables.State → Type 0) (A B C : tables.State → tables.State → Type 0) (a b c : State) → TurnsBetween a b P Q A → TurnsBetween b c Q R B
    → ((t u v : tables.State) → A t u → B u v → C t v) → TurnsBetween a c P R C
between_then P Q R A B C a b c one two both = record {
  disk = tells_then a b c one.disk two.disk;
  done = λ clean t known.
      let first = one.done (omega (arith, two.disk.clean, clean)) t known in
      let second = two.done clean first.0 first.1 in
      (second.0, second.1, both t first.0 second.0 first.2 second.2);
  others = λ clean t known.
      let was : HasCleanDisk b = omega (arith, two.disk.clean, clean) in
      let done = one.done was t known in
      let first = one.others was t known in
      let second = two.others clean done.0 done.1 in
      record {
        was_open = λ is_open. first.was_open (second.was_open is_open);
        others = λ is_open. spares_then a.now b.now c.now (first.others (second.was_open is_open)) (second.others is_open);
      };
}

pub turns_then : (A B C : tables.State → tables.State → Type 0) (a b c : State) → Turns a b A → Turns b c B
    → ((t u v : tables.State) → A t u → B u v → C t v) → Turns a c C
turns_then A B C a b c one two both = between_then (Stands a) (Stands b) (Stands c) A B C a b c one two both

pub between_weaker : (P Q : tables.State → Type 0) (A B : tables.State → tables.State → Type 0) (old new : State) → ((t u : tables.State) → A t u → B t u) → TurnsBetween old new P Q A
    → TurnsBetween old new P Q B
between_weaker P Q A B old new weaker turns = record {
  disk = turns.disk;
  done = λ clean t known. let done = turns.done clean t known in (done.0, done.1, weaker t done.0 done.2);
  others = turns.others;
}

pub turns_weaker : (A B : tables.State → tables.State → Type 0) (old new : State) → ((t u : tables.State) → A t u → B t u) → Turns old new A → Turns old new B
turns_weaker A B old new weaker turns = between_weaker (Stands old) (Stands new) A B old new weaker turns

-- ---- an empty batch, which settles a store

-- it is refused
pub batch_refused : (old new : State) → KeepsCrash old new → (HasCleanDisk new → KeepsContent old new) → (at_rest : Bool) → TurnsBetween old new (Known at_rest old) (Known at_rest new) AreSame
batch_refused old new survives kept at_rest = record {
  disk = survives_tells old new survives;
  done = λ clean t known. (t, known_kept at_rest old new t (kept clean) known, refl);
  others = λ clean t known. spares_kept old new (kept clean).was_open (kept clean).now;
}

-- it is begun and taken back
pub batch_undone : (old begun new : State) → KeepsCrash old begun → (HasCleanDisk begun → Begins old begun) → KeepsCrash begun new → (HasCleanDisk new → IsUndone begun new)
    → TurnsBetween old new (Shows old) (Stands new) AreSame
batch_undone old begun new begins begun_as drops undone = record {
  disk = tells_then old begun new (survives_tells old begun begins) (survives_tells begun new drops);
  done = λ clean t shows.
      let first = begun_as (was_clean begun new drops clean) in
      let last = undone clean in (
        t,
        (λ is_open. (
          record { is_open = is_open; autocommit = last.autocommit; committed = last.committed is_open ∙ sym (last.now is_open) },
          ap (λ (db : Database). tables_in db) (last.now is_open ∙ first.shown.committed_is ∙ sym first.settled) ∙ shows first.shown.was_open,
        )),
        refl,
      );
  others = λ clean t shows.
      let first = begun_as (was_clean begun new drops clean) in
      spares_kept old new (λ is_open. first.shown.was_open) (λ is_open. (undone clean).now is_open ∙ first.shown.committed_is ∙ sym first.settled);
}

-- where it is at rest, whatever else is known
known_stands : (rests is : Bool) (store : State) (t : tables.State) → is ≡ true → Known (rests || is) store t → Stands store t
known_stands true is store t at_rest known = known
known_stands false is store t at_rest known = subst (λ b. Known b store t) at_rest known

-- a call on a store that is at rest
pub between_at_rest : (rests is : Bool) (A : tables.State → tables.State → Type 0) (old new : State) → is ≡ true → Turns old new A
    → TurnsBetween old new (Known (rests || is) old) (Known (rests || is) new) A
between_at_rest rests is A old new at_rest turns = record {
  disk = turns.disk;
  done = λ clean t known. let done = turns.done clean t (known_stands rests is old t at_rest known) in (done.0, stands_known (rests || is) new done.0 done.1, done.2);
  others = λ clean t known. turns.others clean t (known_stands rests is old t at_rest known);
}

-- more was known before, or less is after
pub between_known : (was is : Bool) (A : tables.State → tables.State → Type 0) (old new : State) → TurnsBetween old new (Shows old) (Stands new) A
    → TurnsBetween old new (Known was old) (Known is new) A
between_known was is A old new turns = record {
  disk = turns.disk;
  done = λ clean t known. let done = turns.done clean t (known_shows was old t known) in (done.0, stands_known is new done.0 done.1, done.2);
  others = λ clean t known. turns.others clean t (known_shows was old t known);
}

-- ---- what a script sees of them

-- a command that is refused for memory or by the database
pub unable_as : (Gives : ShellState → Reply → ShellState → Type 0) (state : ShellState) (why : Refusal) → IsResource why → OrUnable Gives state (Refused why) state
unable_as Gives state why resource = inr (record { why = why; resource = resource; refused = refl; same = refl })

pub no_memory : (Gives : ShellState → Reply → ShellState → Type 0) (state : ShellState) → OrUnable Gives state (Refused NoMemory) state
no_memory Gives state = unable_as Gives state NoMemory (inl refl)

-- a refusal of a store is one of its own, or memory was refused
of_store_cases : (e : StoreError) → (of_store e ≡ Store e) ⊎ (e ≡ store.NoMemory)
of_store_cases store.NoMemory = inr refl
of_store_cases store.TableExists = inl refl
of_store_cases store.NoTable = inl refl
of_store_cases store.BadSchema = inl refl
of_store_cases store.KeyTaken = inl refl
of_store_cases store.NoRow = inl refl
of_store_cases store.RowWidth = inl refl
of_store_cases store.NullInKey = inl refl
of_store_cases store.NotNull = inl refl
of_store_cases store.DamagedStore = inl refl
of_store_cases (store.StoreFault cause) = inl refl

-- and the database refuses as that of a store
fault_of_store : (e : StoreError) → faults.IsStoreFault e → IsOfStore faults.IsStoreFault (of_store e)
fault_of_store e (refused_for cause) = refused_for cause

fault_of_apply : (e : ApplyFault) → applies.IsOfStore faults.IsStoreFault e → IsOfStore faults.IsStoreFault (of_apply e)
fault_of_apply (apply.Read fault) none = absurd none
fault_of_apply (apply.Wider place) none = absurd none
fault_of_apply (apply.Abort conflict) none = absurd none
fault_of_apply (apply.Misuse conflict) none = absurd none
fault_of_apply (apply.Store e) is = fault_of_store e is
fault_of_apply apply.NoMemory none = absurd none

fault_of_session : (e : SessionFault) → sessions.IsOfStore faults.IsStoreFault e → IsOfStore faults.IsStoreFault (of_session e)
fault_of_session (session.Store e) is = fault_of_store e is
fault_of_session (session.Apply fault) none = absurd none
fault_of_session session.AlreadyAttached none = absurd none
fault_of_session session.WrongStore none = absurd none
fault_of_session session.NoMemory none = absurd none

pub resource_of_store : (e : StoreError) → faults.IsResource e → IsResource (of_store e)
resource_of_store e (inl is) = rw is (inl refl)
resource_of_store e (inr is) = inr (fault_of_store e is)

pub resource_of_apply : (e : ApplyFault) → applies.IsResource e → IsResource (of_apply e)
resource_of_apply e (inl is) = rw is (inl refl)
resource_of_apply e (inr is) = inr (fault_of_apply e is)

pub resource_of_session : (e : SessionFault) → sessions.IsResource e → IsResource (of_session e)
resource_of_session e (inl is) = rw is (inl refl)
resource_of_session e (inr is) = inr (fault_of_session e is)

-- a command that a store refuses
pub or_store : (Gives : ShellState → Reply → ShellState → Type 0) (state : ShellState) (e : StoreError) → Gives state (Refused (Store e)) state ⊎ faults.IsResource e
    → OrUnable Gives state (Refused (of_store e)) state
or_store Gives state e (inr resource) = unable_as Gives state (of_store e) (resource_of_store e resource)
or_store Gives state e (inl gives) = at (of_store_cases e)
  where
    at : (of_store e ≡ Store e) ⊎ (e ≡ store.NoMemory) → OrUnable Gives state (Refused (of_store e)) state
    at (inl same) = rw same (inl gives)
    at (inr none) = unable_as Gives state (of_store e) (resource_of_store e (inl none))

-- ---- calls, as commands

module _ (Gives : ShellState → Reply → ShellState → Type 0) (session : Option Notes) (reply : Reply) where
  -- whatever the tables are, for a store that is shut
  pub gave : ((state : ShellState) → OrUnable Gives state reply state) → (t : tables.State) → Gave session session Gives reply t t
  gave gives t here = (here, λ slots. gives (seen t slots session))

  -- a call that reads, and leaves what a script sees
  pub works_read : (old new : State) → KeepsStore old new → (HasCleanDisk new → old.is_open ≡ false → (state : ShellState) → OrUnable Gives state reply state)
      → (HasCleanDisk new → (slots : SlotMap) → OrUnable Gives (seen (tables_in old.now) slots session) reply (seen (tables_in old.now) slots session))
      → Works old new session session Gives reply
  works_read old new kept shut gives =
      turns_read (Gave session session Gives reply) old new kept (λ clean is. gave (shut clean is)) (λ clean rest here. (here, gives clean))

  -- a call that commits, and was refused
  pub works_refused : {P : Trees → Type 0} (old new : State) → Survives old new P → (HasCleanDisk new → KeepsContent old new)
      → (HasCleanDisk new → old.is_open ≡ false → (state : ShellState) → OrUnable Gives state reply state)
      → (HasCleanDisk new → IsHere (tables_in old.now) session → (slots : SlotMap) → OrUnable Gives (seen (tables_in old.now) slots session) reply (seen (tables_in old.now) slots session))
      → Works old new session session Gives reply
  works_refused old new survives kept shut gives =
      turns_refused (Gave session session Gives reply) old new survives kept (λ clean is. gave (shut clean is)) (λ clean here. (here, gives clean here))

  -- nothing was called
  pub works_still : (store : State) → ((t : tables.State) (slots : SlotMap) → OrUnable Gives (seen t slots session) reply (seen t slots session))
      → Works store store session session Gives reply
  works_still store gives = turns_still (Gave session session Gives reply) store (λ t here. (here, gives t))

-- ---- a reading, and then more

pub or_weaker : (Gives More : ShellState → Reply → ShellState → Type 0) (old : ShellState) (reply : Reply) (new : ShellState) → (More old reply new → Gives old reply new)
    → OrUnable More old reply new → OrUnable Gives old reply new
or_weaker Gives More old reply new weaker (inl more) = inl (weaker more)
or_weaker Gives More old reply new weaker (inr unable) = inr unable

abbrev Read : (tables.State → Type 0) → tables.State → tables.State → Type 0
Read P before after = (after ≡ before) × P before

-- this holds of what is read, and of any tables where the store is shut
pub reads : (P : tables.State → Type 0) (old new : State) → KeepsStore old new → (HasCleanDisk new → old.is_open ≡ false → (t : tables.State) → P t)
    → (HasCleanDisk new → P (tables_in old.now)) → Reads old new P
reads P old new kept shut holds = turns_read (Read P) old new kept (λ clean is t. (refl, shut clean is t)) (λ clean rest. (refl, holds clean))

pub reads_then : (P Q : tables.State → Type 0) (a b c : State) → Reads a b P → Reads b c Q → Reads a c (λ t. P t × Q t)
reads_then P Q a b c one two =
    turns_then (Read P) (Read Q) (Read (λ t. P t × Q t)) a b c one two (λ t u v first second. (second.0 ∙ first.0, (first.1, subst Q first.0 second.1)))

-- what is only read is answered of what was there
pub works_of_read : (P : tables.State → Type 0) (Gives : ShellState → Reply → ShellState → Type 0) (a b : State) (session : Option Notes) (reply : Reply) → Reads a b P
    → ((t : tables.State) → P t → (slots : SlotMap) → OrUnable Gives (seen t slots session) reply (seen t slots session))
    → Works a b session session Gives reply
works_of_read P Gives a b session reply read gives =
    turns_weaker (Read P) (Gave session session Gives reply) a b (λ t u was. subst (λ (s : tables.State). Gave session session Gives reply t s) (sym was.0) (λ here. (here, gives t was.1))) read

pub works_after_read : (P : tables.State → Type 0) (Gives More : ShellState → Reply → ShellState → Type 0) (a b c : State) (before after : Option Notes) (reply : Reply) → Reads a b P
    → Works b c before after More reply
    → ((t : tables.State) → P t → (slots : SlotMap) (new : ShellState) → More (seen t slots before) reply new → Gives (seen t slots before) reply new)
    → Works a c before after Gives reply
works_after_read P Gives More a b c before after reply read works gives =
    turns_then (Read P) (Gave before after More reply) (Gave before after Gives reply) a b c read works (λ t u v was work here.
    let done = (subst (λ (s : tables.State). Gave before after More reply s v) was.0 work) here in
    (done.0, λ slots. or_weaker Gives More (seen t slots before) reply (seen v slots after) (gives t was.1 slots (seen v slots after)) (done.1 slots)))
