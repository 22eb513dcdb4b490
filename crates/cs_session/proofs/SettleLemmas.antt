-- What a session has noted when a call ends: what its work noted if the call is accepted, and else what it had.
use Rattle.std.proofs.Common.{◌≡◌, Bool, List, map, Result, Ok, Err, if◌then◌else◌, sym, ◌∙◌, subst}
use Rattle.std.specs.Prelude.{OnOk, OnErr, IfOk, is_ok}
use Rattle.std.specs.List.{AllByRecursion}
use Rattle.cs_session_notes.specs.declared.attached.Attached.{Attached}
use Rattle.cs_session_notes.specs.FirstImages.{Notes, IsNotes}
use Rattle.cs_session_notes.specs.Views.{attached_of, kept_of, HasNonePending}
use Rattle.cs_session_notes.proofs.NotingLemmas.{settled_kept}

module _ {X E : Type 0} (old mid new : List Attached) (none : AllByRecursion HasNonePending old) (kept : map kept_of mid ≡ map kept_of old) where
  abbrev Settled : Result X E → Bool → Type 0
  Settled r accepted = (accepted ≡ is_ok r) × (map attached_of new ≡ (if accepted then map attached_of mid else map kept_of mid))

  -- a refused call notes nothing
  pub same_notes : (r : Result X E) (accepted : Bool) → Settled r accepted → OnErr r (map attached_of new ≡ map attached_of old)
  same_notes (Ok x) accepted settled = tt
  same_notes (Err e) accepted settled =
      subst (λ (b : Bool). map attached_of new ≡ (if b then map attached_of mid else map kept_of mid)) settled.0 settled.1 ∙ kept ∙ sym (settled_kept old none)

  made_notes : (r : Result X E) (accepted : Bool) → Settled r accepted → OnOk r (map attached_of mid ≡ map attached_of new)
  made_notes (Ok x) accepted settled = sym (subst (λ (b : Bool). map attached_of new ≡ (if b then map attached_of mid else map kept_of mid)) settled.0 settled.1)
  made_notes (Err e) accepted settled = tt

  -- what holds of the notes of the work holds of those of the call
  pub on_notes : (r : Result X E) (accepted : Bool) → Settled r accepted → (P : Notes → Type 0) → OnOk r (P (map attached_of mid)) → OnOk r (P (map attached_of new))
  on_notes (Ok x) accepted settled P holds = subst P (made_notes (Ok x) accepted settled) holds
  on_notes (Err e) accepted settled P holds = tt

  pub if_notes : (r : Result X E) (accepted : Bool) → Settled r accepted → (P : X → Notes → Type 0) → IfOk r (λ x. P x (map attached_of mid)) → IfOk r (λ x. P x (map attached_of new))
  if_notes (Ok x) accepted settled P holds = subst (P x) (made_notes (Ok x) accepted settled) holds
  if_notes (Err e) accepted settled P holds = tt

  -- the notes are well formed
  pub are_notes : (r : Result X E) (accepted : Bool) → Settled r accepted → IsNotes (map attached_of old) → OnOk r (IsNotes (map attached_of mid)) → IsNotes (map attached_of new)
  are_notes (Ok x) accepted settled was is = subst IsNotes (made_notes (Ok x) accepted settled) is
  are_notes (Err e) accepted settled was is = subst IsNotes (sym (same_notes (Err e) accepted settled)) was
