-- Parts of a call, one after another, and the call itself.
use Rattle.std.proofs.Common.{◌≡◌, inl, true, IsTrue, List, Result, Ok, Err, IfOk, OnOk, is_ok, refl, ◌∙◌}
use Rattle.std.proofs.Common.{Bor, Option, Some, None}
use Rattle.std.specs.Option.{option_copied, option_map}
use Rattle.std.specs.Prelude.{IsErrAnd}
use Rattle.sqlite.specs.Effect.{Database}
use Rattle.sqlite.specs.State.{State, Savepoint, HasCleanDisk, IsUnchanged, Shows}
use Rattle.cs_value.specs.State as tables
use Rattle.cs_rows.specs.declared.fault.StoreError.{StoreError}
use Rattle.cs_rows.specs.Faults.{is_answered}
use Rattle.cs_store_sql.specs.Marks.{IsMarked}
use Rattle.cs_store_sql.specs.Records.{IsUndone, KeepsCrash, KeepsOthers}
use Rattle.cs_store_tables.specs.Laws.{keeps_then, was_clean}
use Rattle.cs_store_tables.specs.Store.{HoldsState, IsInside, KeepsStore, tables_in}
use Rattle.cs_store.specs.Within.{EndsCall, Within}
use Rattle.cs_store.proofs.WithinLemmas.{call_within, ended_within, unreleased_within}
use Rattle.cs_history.specs.Carrying.{Carries, Works}

abbrev Makes : Type 0 → Type 1
Makes X = X → tables.State → tables.State → Type 0

-- ---- parts

-- a value that is borrowed is seen as it is
pub seen : {X : Type 0} (o : Option (Bor X)) → option_map (λ r. r.now) o ≡ option_copied o
seen None = refl
seen (Some r) = refl

-- a part is refused after another one
pub refused_then : {X Y E F : Type 0} {P : Makes X} {Q : Makes Y} {R : Result X F} {a b c : State} (e : E) → Works P a b R → KeepsStore b c → Works Q a c (Err e)
refused_then e one two = record { kept = keeps_then one.kept two; made = λ clean inside. tt }

-- one is refused, as its error is converted
pub works_err : {X E : Type 0} {Q : Makes X} {a b : State} (r : Result X E) (P : E → Type 0) → IsErrAnd r P → KeepsStore a b → Works Q a b r
works_err (Ok x) P is kept = absurd is
works_err (Err e) P is kept = record { kept = kept; made = λ clean inside. tt }

-- what a part makes is made in other words
pub works_so : {X E : Type 0} {P Q : Makes X} {a b : State} (r : Result X E) → ((x : X) → P x (tables_in a.now) (tables_in b.now) → Q x (tables_in a.now) (tables_in b.now)) → Works P a b r → Works Q a b r
works_so (Ok x) so it = record { kept = it.kept; made = λ clean inside. let made = it.made clean inside in (made.0, so x made.1) }
works_so (Err e) so it = record { kept = it.kept; made = λ clean inside. tt }

-- a call of the store that reads
pub reads_work : {X : Type 0} (M : Makes X) (r : Result X StoreError) {a b : State} → KeepsStore a b → (HasCleanDisk b → is_answered r ≡ true → IsUnchanged a b)
    → (HasCleanDisk b → IfOk r (λ x. M x (tables_in a.now) (tables_in b.now))) → Works M a b r
reads_work M (Ok x) kept reads makes = record { kept = kept; made = λ clean inside. ((reads clean refl).0.mode ∙ inside, makes clean) }
reads_work M (Err e) kept reads makes = record { kept = kept; made = λ clean inside. tt }

-- one that writes
pub writes_work : {X E : Type 0} (M : Makes X) (r : Result X E) {N : tables.State → Type 0} {MayEnd : E → Type 0} {a b : State} → Within N MayEnd a b r
    → (HasCleanDisk b → IfOk r (λ x. M x (tables_in a.now) (tables_in b.now))) → Works M a b r
writes_work M (Ok x) within makes = record { kept = within.kept; made = λ clean inside. ((within.made clean).0.inside, makes clean) }
writes_work M (Err e) within makes = record { kept = within.kept; made = λ clean inside. tt }

-- the work is a call's by itself
pub works_ok : {X E F : Type 0} {M : Makes X} {a b : State} {x : X} → Works {E = E} M a b (Ok x) → Works {E = F} M a b (Ok x)
works_ok it = record { kept = it.kept; made = it.made }

-- one after another
pub works_then : {X Y Z E F G : Type 0} {P : Makes X} {Q : Makes Y} (R : Makes Z) {a b c : State} {x : X} {y : Y} (z : Z) → Works {E = E} P a b (Ok x) → Works {E = F} Q b c (Ok y)
    → (P x (tables_in a.now) (tables_in b.now) → Q y (tables_in b.now) (tables_in c.now) → R z (tables_in a.now) (tables_in c.now)) → Works {E = G} R a c (Ok z)
works_then R {a} {b} {c} z one two both = record {
  kept = keeps_then one.kept two.kept;
  made = λ clean inside.
      let first = one.made (was_clean b c two.kept.crash clean) inside in
      let second = two.made clean first.0 in
      (second.0, both first.1 second.1);
}

pub works_on : {X Z E F : Type 0} {P : Makes X} {Q : Makes Z} (R : Makes Z) {a b c : State} {x : X} (r : Result Z F) → Works {E = E} P a b (Ok x) → Works Q b c r
    → ((z : Z) → P x (tables_in a.now) (tables_in b.now) → Q z (tables_in b.now) (tables_in c.now) → R z (tables_in a.now) (tables_in c.now)) → Works R a c r
works_on R (Ok z) one two both = works_then R z one two (both z)
works_on R (Err e) one two both = refused_then e one two.kept

-- what is made of the answer of a part, without another call
pub works_after : {X Z E F : Type 0} {P : Makes X} (R : Makes Z) {a b : State} {x : X} (r : Result Z F) → Works {E = E} P a b (Ok x)
    → (HasCleanDisk b → IsTrue a.in_transaction → P x (tables_in a.now) (tables_in b.now) → IfOk r (λ z. R z (tables_in a.now) (tables_in b.now))) → Works R a b r
works_after R (Ok z) one so = record { kept = one.kept; made = λ clean inside. let made = one.made clean inside in (made.0, so clean inside made.1) }
works_after R (Err e) one so = record { kept = one.kept; made = λ clean inside. tt }

-- the tables that a transaction shows are those of a state
pub shown_state : (a b : State) → KeepsStore a b → (HasCleanDisk a → IsTrue a.is_open → HoldsState a.now × KeepsOthers a.committed a.now) → (HasCleanDisk a → IsTrue a.in_transaction → IsTrue a.is_open)
    → HasCleanDisk b → IsTrue a.in_transaction → tables.IsState (tables_in a.now)
shown_state a b kept holds inside clean is = let was = was_clean a b kept.crash clean in (holds was (inside was is)).0.stores.is_state

-- so what is made may rest on that
pub works_shown : {X E : Type 0} (R : Makes X) (a b : State) (r : Result X E) → (HasCleanDisk a → IsTrue a.is_open → HoldsState a.now × KeepsOthers a.committed a.now)
    → (HasCleanDisk a → IsTrue a.in_transaction → IsTrue a.is_open) → Works (λ x s t. tables.IsState s → R x s t) a b r → Works R a b r
works_shown R a b (Ok x) holds inside it = record { kept = it.kept; made = λ clean is. let made = it.made clean is in (made.0, made.1 (shown_state a b it.kept holds inside clean is)) }
works_shown R a b (Err e) holds inside it = record { kept = it.kept; made = λ clean is. tt }

-- ---- calls

module _ (old marked mid : State)
    (is_marked : HasCleanDisk marked → IsTrue old.in_transaction × Shows old marked old.now old.committed true × IsMarked old.marks old.now marked)
    (starts : KeepsCrash old marked) (new : State) where
  carries : {X E : Type 0} (M : Makes X) (MayEnd : E → Type 0) (r : Result X E) (N : tables.State → tables.State → Type 0) → Within (N (tables_in old.now)) MayEnd old new r
      → (HasCleanDisk new → OnOk r (IsInside new × N (tables_in old.now) (tables_in new.now)) → IfOk r (λ x. IsInside new × M x (tables_in old.now) (tables_in new.now)))
      → Carries M old new r
  carries M MayEnd r N it makes = record { kept = it.kept; made = λ clean. makes clean (it.made clean); back = it.back; ended = it.ended }

  -- a call ends as its work did
  pub call_carries : {X E : Type 0} (M : Makes X) (r : Result X E) → Works M marked mid r → KeepsCrash mid new
      → ((before : List Savepoint) (db : Database) → (IsTrue mid.in_transaction → IsMarked before db mid) → HasCleanDisk new → EndsCall (is_ok r) before db mid new) → Carries M old new r
  call_carries {E = E} M (Ok x) works ends end =
      let it : Within (M x (tables_in old.now)) (λ (e : E). Unit {0}) old new (Ok x) =
      call_within old marked mid is_marked starts works.kept new (Ok x) (M x) (λ (e : E). Unit {0}) ends
      (λ clean. works.made clean (is_marked (was_clean marked mid works.kept.crash clean)).1.mode) (λ clean. tt) end in
      carries M (λ (e : E). Unit {0}) (Ok x) (M x) it (λ clean made. made)
  call_carries {X} {E} M (Err e) works ends end =
      let it : Within {X = X} (λ left. ⊥) (λ (e : E). Unit {0}) old new (Err e) =
      call_within old marked mid is_marked starts works.kept new (Err e) (λ old left. ⊥) (λ (e : E). Unit {0}) ends (λ clean. tt) (λ clean. inl tt) end in
      carries M (λ (e : E). Unit {0}) (Err e) (λ old left. ⊥) it (λ clean made. tt)

  -- the mark is not dropped, and the transaction ends
  pub unreleased_carries : {X Y E F : Type 0} (M : Makes X) {L : Makes Y} (r : Result Y F) (q : Result X E) (P : E → Type 0) → IsErrAnd q P → Works L marked mid r
      → KeepsCrash mid new → (HasCleanDisk new → IsUndone mid new) → Carries M old new q
  unreleased_carries M r (Ok x) P is works ends undone = absurd is
  unreleased_carries {X} {E = E} M r (Err e) P is works ends undone =
      let it : Within {X = X} (λ left. ⊥) (λ (e : E). Unit {0}) old new (Err e) =
      unreleased_within old marked mid is_marked starts works.kept new e (λ left. ⊥) (λ (e : E). Unit {0}) tt ends undone in
      carries M (λ (e : E). Unit {0}) (Err e) (λ old left. ⊥) it (λ clean made. tt)

-- no mark is set, and the transaction ends
pub ended_carries : {X E : Type 0} (M : Makes X) (q : Result X E) (P : E → Type 0) → IsErrAnd q P → (old new : State) → KeepsCrash old new → (HasCleanDisk new → IsUndone old new) → Carries M old new q
ended_carries M (Ok x) P is old new crash undone = absurd is
ended_carries {X} {E} M (Err e) P is old new crash undone =
    let it : Within {X = X} (λ left. ⊥) (λ (e : E). Unit {0}) old new (Err e) = ended_within e (λ left. ⊥) (λ (e : E). Unit {0}) old new (λ clean. inl tt) crash undone in
    record { kept = it.kept; made = λ clean. tt; back = it.back; ended = it.ended }
