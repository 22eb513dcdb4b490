-- `of` takes the box apart: a walk to the call of `Box::into_raw`.
use Rattle.vollikash.proofs.HandleSteps.{List, [], ◌∷◌, ◌++◌, refl, sym, ap, subst, Val, SProp, ent, emp, id⊢, ftrue, flft, full_share, WpFn, ‵, raw, ◌⊛◌, some, later, ◌$◌, ◌∵◌, !, qed, by, move, keep, drop, split, join, fsplit, fjoin, pick, suffices, use0, use1, use2, await, feq_l, lft_new, of_opd, no_more, and_then, returns, enter, alloc_all, pass_all, free_all, look_at, get, sets, lands_as, Lfts, fact, fact_i, ◌⊑◌, ⊑_static, tables, yes, owns, Ptr, RawPtr, ptr_val, rawptr_Lawful, types_at, plain, nothing, only, Lasts, lasts, Args, triple_of, calls_at, framed, Stays, stay_dropped, Goes-dropped, walk_of, proved_at, leaves, ghosts, dict, box_out, box_in, held_at, T, T-laws, A, A-laws, drops, E, B, good}
use denote.Param.NoDrop.{glues}
use types.Part.{agg}
use Rattle.std.proofs.Common.{◌≡◌}
use Rattle.std.specs.Prelude.{Some}
use Rattle.vollikash.proofs.HandleParts.{word, good_word, handle_in}
use Rattle.std_alloc.proofs.BoxSteps.Form.{word as box_word}
use Rattle.std.proofs.impls.GlobalAllocator.TheImpl.Met.{passed}
use Rattle.std_alloc.specs.contracts.boxed.Box.into_raw as callee
use Rattle.std_alloc.proofs.boxed.Box.into_raw.Met.{met}
use Rattle.vollikash.proofs.HandleGlue.{held_drops, held_glue}
use Rattle.vollikash.specs.contracts.handle.Handle.of as f
use Rattle.vollikash.proofs.handle.Handle.of.Statement.{statement}
use Rattle.vollikash.proofs.handle.Handle.of.Code as code
use Rattle.vollikash.proofs.Destruct++none.drop.Code.{code as none-code}

abbrev stayed : Stays f.ended.signature.params f.ended.kept
stayed = (stay_dropped _ yes, tt)

pub of_spec : {M : Type 1} → statement M
unfolding none-code
of_spec {M = M} 𝓤 𝓛 𝓜 𝓡 wired =
    let 𝓣 = tables 𝓤 𝓛.H 𝓜 𝓡 𝓡.env in let c = f.clauses 𝓛 𝓜.mem 𝓡.returns in
    let k = triple_of 𝓛 (callee.signature T A ghosts dict drops held_drops) (callee.spec T A ghosts dict drops held_drops 𝓛 𝓜.mem 𝓡.returns) in
    let known = met 𝓤 𝓛 𝓜 𝓡 (code.calls-std_alloc::boxed::Box::into_raw 𝓡.env wired) T A T-laws A-laws ghosts dict drops held_drops
    (passed 𝓡.env (code.calls-std_heap::GlobalAllocator::allocate 𝓡.env wired) (code.calls-std_heap::GlobalAllocator::deallocate 𝓡.env wired) (code.calls-std_heap::GlobalAllocator::grow 𝓡.env wired) (code.calls-std_heap::GlobalAllocator::shrink 𝓡.env wired) M 𝓤 𝓛 𝓜 𝓡)
    (glues "vollikash::Destruct++none::drop" 𝓡.env (code.calls-vollikash::Destruct++none::drop 𝓡.env wired) A A-laws M 𝓤 𝓛 𝓜 𝓡)
    (held_glue 𝓤 𝓛 𝓜 𝓡 (code.calls-vollikash::vollikash++held++Held+Destruct::drop 𝓡.env wired)) in
    proved_at 𝓛 f.ended stayed c 𝓜 𝓡 (Goes-dropped 𝓛 0 (plain (λ _. B)) yes (λ κs x w. refl), tt)
    f.Key.name code.function (code.unfolded 𝓤 𝓛.H 𝓜 𝓡 wired) (λ z are.
    let d = z.0.3.0 in let us = z.0.4.0 in
    let Post : Val → SProp 𝓤 = (walk_of 𝓛 f.ended stayed c).post z in let Run : List Val → SProp 𝓤 = λ ws. WpFn 𝓤 𝓛.H 𝓣.C 𝓣.Λ code.function ws Post in
    qed 𝓛 ((‵ ftrue ⊛ ‵ (owns (types_at f.ended.signature.params tt) z.0.3 z.0.4)) ∷ ‵ ftrue ∷ []) ∵ split ! $ drop ! $ fsplit ! $
    box_out E ! d us (λ b o h e is fits. box_in E ! d b o d.value e refl $ let v : Val = box_word E h b o in
    suffices ! (Run (v ∷ [])) (subst (λ (ws : List Val). ent 𝓤 (Run (v ∷ [])) (Run ws)) (sym (λ i. is i ++ [])) (id⊢ 𝓤 (Run (v ∷ [])))) $ let fine = good h b o v refl fits in
    enter ! _ _ _ _ _ $ alloc_all ! (λ l. pass_all ! refl (fine, tt) $ sets ! (of_opd ! (get ! refl)) refl fine $
    lft_new ! tt (λ α. lft_new ! tt (λ β.
    let κs : Lfts 2 = (α ∷ [], (β ∷ [], tt)) in let args : Args (callee.signature T A ghosts dict drops held_drops) κs = (d, tt) in let y : k.Ghost = ((κs, (full_share, (full_share, tt)), tt, args, (v ∷ [], tt)), tt) in
    let toks = ‵ (flft (α ∷ []) full_share) ⊛ ‵ (flft (β ∷ []) full_share) ⊛ ‵ ftrue in let Ce = callee.ended T A ghosts dict drops held_drops in
    -- [two tokens; the box]
    nothing ! $ move ! (3 ∷ 0 ∷ []) $ fjoin ! $ nothing ! $ move ! (2 ∷ 0 ∷ []) $ join ! $ move ! (2 ∷ 0 ∷ []) $ join ! $ join ! $
    nothing ! $ use0 𝓛 (raw (fact 𝓤 ((β ∷ []) ⊑ A.lives))) (fact_i 𝓤 ((β ∷ []) ⊑ A.lives) (emp 𝓤) (⊑_static (β ∷ []))) $ join ! $
    use0 𝓛 (raw (fact 𝓤 ((α ∷ []) ⊑ T.lives))) (fact_i 𝓤 ((α ∷ []) ⊑ T.lives) (emp 𝓤) (⊑_static (α ∷ []))) $ join ! $ move ! (1 ∷ 0 ∷ []) $ use2 𝓛 (raw (k.pre y)) (id⊢ 𝓤 _) $
    calls_at ! (framed 𝓤 𝓛.H 𝓜 𝓣) k known y (and_then ! (get ! refl) (no_more !)) (λ u.
    use1 𝓛 (later (some (λ (r : Ptr). (toks ⊛ ‵ (RawPtr.own_val r (u ∷ []))) ⊛ some (λ (ls : Lasts Ce κs args). ‵ (lasts Ce κs args ls) ⊛ ‵ (held_at (Some d.value) r))))) (id⊢ 𝓤 (k.post y u)) $
    await ! tt $ pick ! (λ r. split ! $ split ! $ drop ! $ feq_l ! (λ eu. pick ! (λ _. split ! $ drop ! $
    -- [the value, with the right to free]
    let ptr = ((rawptr_Lawful 𝓛).typed r (ptr_val r ∷ []) refl).0 in
    let g = good_word r ptr in
    lands_as ! (ap only eu) refl ptr $ sets ! (of_opd ! (get ! refl)) refl ptr $ sets ! (agg ! (and_then ! (get ! refl) (no_more !))) refl g $
    returns ! (look_at ! 0 refl) $ free_all ! refl $ handle_in ! (Some d.value) r $ nothing ! $ nothing ! $ fjoin ! $ nothing ! $
    use0 𝓛 (raw (fact 𝓤 (Some d.value ≡ Some d.value))) (fact_i 𝓤 _ (emp 𝓤) refl) $ keep ! (1 ∷ 2 ∷ 3 ∷ 0 ∷ []) $
    by ! (leaves 𝓛 f.ended stayed c z (word r) (record { at = r; value = Some d.value }) (tt, tt) (tt, tt)))))))))))
