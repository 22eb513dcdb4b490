-- An apply after a mark, to which the transaction goes back.
use Rattle.std.proofs.Common.{◌≡◌, ◌⊎◌, inr, List, IsTrue, false, true, true≢false, Result, Ok, Err, IfErr, OnOk, sym, ap, ◌∙◌}
use Rattle.sqlite.specs.Effect.{Database}
use Rattle.sqlite.specs.State as sqlite
use Rattle.sqlite.specs.State.{HasCleanDisk, Savepoint, Shows}
use Rattle.cs_value.specs.State.{State}
use Rattle.cs_store.specs.Laws.{was_clean}
use Rattle.cs_store.specs.Records.{KeepsCrash}
use Rattle.cs_store.specs.Store.{KeepsStore, tables_in}
use Rattle.cs_store.specs.Within.{EndsCall, Within}
use Rattle.cs_store.proofs.WithinLemmas.{back_within, call_within, mark_there}
use Rattle.cs_store_sql.specs.Marks.{IsMarked}
use Rattle.cs_apply_engine.specs.declared.fault.ApplyFault.{ApplyFault}
use Rattle.cs_apply_engine.specs.declared.fault.ApplyFault.TheVariants.{NoMemory}
use Rattle.cs_apply_engine.specs.declared.report.Report.{Report}
use Rattle.cs_apply_engine.specs.Steps.{IsStoreRefusal}
use Rattle.cs_apply_rehearsal.specs.Shown.{ShowsAgain}

module _ (old marked mid new : sqlite.State)
    (is_marked : HasCleanDisk marked → IsTrue old.in_transaction × Shows old marked old.now old.committed true × IsMarked old.marks old.now marked)
    (starts : KeepsCrash old marked) (keeps : KeepsStore marked mid) (ends : KeepsCrash mid new)
    (end : (before : List Savepoint) (db : Database) → (IsTrue mid.in_transaction → IsMarked before db mid) → HasCleanDisk new → EndsCall false before db mid new) where
  -- the transaction is still open after the apply, and goes back
  goes_back : (HasCleanDisk mid → IsTrue mid.in_transaction) → HasCleanDisk new → IsTrue mid.in_transaction × Shows mid new old.now mid.committed true × (new.marks ≡ old.marks)
  goes_back inside clean =
      let was = was_clean mid new ends clean in
      let on = (end old.marks old.now (mark_there old marked mid is_marked starts keeps was) clean).goes_on (inside was) in
      (inside was, on.0, on.1)

  pub shown_again : (HasCleanDisk mid → IsTrue mid.in_transaction) → HasCleanDisk new → ShowsAgain old new
  shown_again inside clean =
      let was = was_clean mid new ends clean in
      let shown = (is_marked (was_clean marked mid keeps.crash was)).1 in
      let back = goes_back inside clean in (
        record {
          was_open = shown.was_open;
          is_open = back.1.is_open;
          now_is = back.1.now_is;
          committed_is = back.1.committed_is ∙ (keeps.commit was).committed back.1.was_open ∙ shown.committed_is;
          mode = back.1.mode;
        },
        back.2,
      )

  -- the transaction shows the tables that it showed, or the apply is refused
  pub tried_within : (r : Result Report ApplyFault) → (HasCleanDisk mid → OnOk r (IsTrue mid.in_transaction)) → (HasCleanDisk mid → IfErr r (λ e. IsStoreRefusal e ⊎ IsTrue mid.in_transaction))
      → Within (λ left. left ≡ tables_in old.now) IsStoreRefusal old new r
  tried_within (Ok report) inside may =
      let back = back_within old marked mid is_marked starts keeps new {X = Report} NoMemory (λ left. left ≡ tables_in old.now) IsStoreRefusal ends (goes_back inside) in
      record {
        kept = back.kept;
        made = λ clean. let shown = (shown_again inside clean).0 in (record { is_open = shown.is_open; inside = shown.mode }, ap tables_in shown.now_is);
        back = λ clean. tt;
        ended = λ clean. tt;
        goes_on = λ clean was. tt;
      }
  tried_within (Err e) inside may = call_within old marked mid is_marked starts keeps new {X = Report} (Err e) (λ before left. left ≡ before) IsStoreRefusal ends (λ clean. tt) may (λ before db marks clean. end before db marks clean)

  pub tried_shown : (r : Result Report ApplyFault) → (HasCleanDisk mid → OnOk r (IsTrue mid.in_transaction)) → HasCleanDisk new → OnOk r (ShowsAgain old new)
  tried_shown (Ok report) inside clean = shown_again inside clean
  tried_shown (Err e) inside clean = tt

-- what is refused after the transaction has gone back leaves it as it was
pub unlisted_within : {X Y : Type 0} (x : X) (e : ApplyFault) (Makes : State → Type 0) (old new : sqlite.State) → Within Makes IsStoreRefusal old new (Ok x) → (HasCleanDisk new → ShowsAgain old new) → Within {X = Y} Makes IsStoreRefusal old new (Err e)
unlisted_within x e Makes old new it shown = record {
  kept = it.kept;
  made = λ clean. tt;
  back = λ clean inside. (shown clean).0.now_is;
  ended = λ clean out. absurd (true≢false (sym (it.made clean).0.inside ∙ out));
  goes_on = λ clean was. inr (it.made clean).0.inside;
}

-- what was made of no value in it is made with another
pub listed_within : {X Y : Type 0} (x : X) (y : Y) (Makes : State → Type 0) (old new : sqlite.State) → Within Makes IsStoreRefusal old new (Ok x) → Within Makes IsStoreRefusal old new (Ok y)
listed_within x y Makes old new it = record { kept = it.kept; made = it.made; back = λ clean. tt; ended = λ clean. tt; goes_on = λ clean was. tt }

-- a transaction that has ended is not rehearsed in
pub not_over : {X Y : Type 0} (x : X) (Makes : State → Type 0) (old new : sqlite.State) → Within Makes IsStoreRefusal old new (Ok x) → HasCleanDisk new → old.in_transaction ≡ false → Y
not_over x Makes old new it clean out = absurd (true≢false (sym (it.kept.inside clean (it.made clean).0.inside) ∙ out))
