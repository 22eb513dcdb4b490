-- What a `Handle` owns at its machine value.
use Rattle.vollikash.proofs.HandleSteps.{◌≡◌, List, [], ◌∷◌, ◌++◌, ◌&&◌, true, refl, sym, ap, subst, ◌∙◌, ℕ, lit<, Val, Ptr, RawPtr, ptr_val, block_ptr, null_ptr, in_a_block, ent, fst∗, never, sem, chunk, heap, bare, layout, T₀, ◌$◌, drop, fsplit, fjoin, fpick, feq_i, feq_l, nothing, held_at, Held, T', has_ty, WT, ty_ptr}
use seplogic.Ra.Ura.{Ura}
use base.Logic.{guard, guard_i, snd∗, via}
use contract.Monad.{fact_use}
use base.Fraction.{full_share}
use denote.RawPtr.{Testable, lies_at}
use mir.Syntax.{ptr_eq}
use mir.Val.{op2_val, vbool, vnull}
use types.Kit.{given, learn, rewrite, use1}
use Rattle.std.proofs.GlobalToken.{dealloc_token_start}
use mir.Val.{vstruct, of_list, vcons, vnil}
use types.Logic.{Logic}
use types.Kit.{Goal, Seq, Step, step, Item, ‵, fpack}
use denote.RattleType.{Valss}
use denote.Struct.Struct.{within}
use denote.Struct.Owning.{shape}
use Rattle.std.specs.Prelude.{Option, Some, None, IsSome, Bool, is_none, not, ◌<◌, ◌^◌}
use Rattle.std_alloc.proofs.ResultValues.{and_tt}
use Rattle.vollikash.specs.contracts.handle.Handle as handle

abbrev pub word : Ptr → Val
word p = vstruct (vcons (ptr_val p) vnil)

pub good_word : (p : Ptr) → T' (has_ty ty_ptr (ptr_val p)) × WT (ptr_val p) → T' (has_ty ty_ptr (ptr_val p) && true) × WT (word p)
good_word p fine = (and_tt (has_ty ty_ptr (ptr_val p)) fine.0, (fine.1, tt))

pub some_is : (v : Option Held) → IsSome v → (x : Held) × (v ≡ Some x)
some_is (Some x) h = (x, refl)
some_is None h = absurd (subst (λ (b : Bool). T' (not b)) h tt)

-- what is freed lies at the start of its block
starts : {M : Type 1} {𝓤 : Ura M} (𝓛 : Logic 𝓤) (x : Held) (b o : ℕ) → ent 𝓤 (sem 𝓛 (held_at (Some x) (block_ptr b o))) (guard 𝓤 (o ≡ 0) (sem 𝓛 (held_at (Some x) (block_ptr b o))))
starts {𝓤 = 𝓤} 𝓛 x b o = let q : Ptr = block_ptr b o in let B = sem 𝓛 (held_at (Some x) q) in
    fact_use 𝓤 (o ≡ 0) (via 𝓤 _ (snd∗ 𝓤 (sem 𝓛 (lies_at T₀ full_share q x)) (sem 𝓛 (chunk (bare (layout T₀)) q))) (dealloc_token_start 𝓛 heap (bare (layout T₀)) q)) (guard_i 𝓤 (o ≡ 0) B)

module _ {M : Type 1} {𝓤 : Ura M} {𝓛 : Logic 𝓤} {K : Type 0} {Γ : List (Item 𝓤)} {G : Goal 𝓤 𝓛.H} where
  pub handle_out : K → (d : (handle.the_row).Denot) (vs : List Val) → (vs ≡ word d.at ∷ [] → Seq K 𝓛 (‵ (held_at d.value d.at) ∷ Γ) G) → Seq K 𝓛 (‵ ((handle.the_row).own_val d vs) ∷ Γ) G
  handle_out t d vs k = fsplit t $ fpick t (λ vss. fsplit t $ feq_l t (λ ev. fsplit t $ feq_l t (λ ep. drop t $ k (ev ∙ ap (λ (ws : List Val). vstruct (of_list (ws ++ [])) ∷ []) ep))))

  pub handle_in : K → (v : Option Held) (p : Ptr) → Step K 𝓛 (‵ ((handle.the_row).own_val (record { at = p; value = v }) (word p ∷ [])) ∷ Γ) G (‵ (held_at v p) ∷ Γ) G
  handle_in t v p = step (λ s. nothing t $ feq_i t (List Val) (ptr_val p ∷ []) (ptr_val p ∷ []) refl $ fjoin t $ feq_i t (List Val) (word p ∷ []) (word p ∷ []) refl $ fjoin t $
      fpack t (Valss (RawPtr ∷ [])) (within (shape handle.the_type) (p, tt) (word p ∷ [])) (ptr_val p ∷ [], tt) $ fjoin t $ s)

  -- a handle's pointer may be compared with null, and is null if the handle has no value
  pub handle_tested : K → (v : Option Held) (p : Ptr) → (Testable p → op2_val ptr_eq (ptr_val p) vnull ≡ vbool (is_none v) → Seq K 𝓛 (‵ (held_at v p) ∷ Γ) G) → Seq K 𝓛 (‵ (held_at v p) ∷ Γ) G
  handle_tested t None p k = feq_l t (λ e. feq_i t Ptr p null_ptr e $ k (subst Testable (sym e) (lit< tt)) (ap (λ (q : Ptr). op2_val ptr_eq (ptr_val q) vnull) e))
  handle_tested t (Some x) p k = in_a_block t p (λ q. held_at (Some x) q) (fst∗ 𝓤 (never 𝓤) (sem 𝓛 (chunk (bare (layout T₀)) null_ptr))) (λ b o e. let q : Ptr = block_ptr b o in
      use1 𝓛 (given (o ≡ 0) (‵ (held_at (Some x) q))) (starts 𝓛 x b o) $ learn t (λ start.
      rewrite t 0 (λ (s : Ptr). ‵ (held_at (Some x) s)) (sym e) refl $ k (subst Testable (sym e) (subst (λ (n : ℕ). n < 2 ^ 63) (sym start) (lit< tt))) (ap (λ (s : Ptr). op2_val ptr_eq (ptr_val s) vnull) e)))
