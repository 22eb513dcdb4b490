-- `into_box` makes the box again: a walk to the call of `Box::from_raw`.
use Rattle.vollikash.proofs.HandleSteps.{◌≡◌, List, [], ◌∷◌, ◌++◌, refl, sym, subst, Val, SProp, ent, emp, id⊢, ftrue, flft, full_share, WpFn, ‵, raw, ◌⊛◌, some, later, at_ret, ◌$◌, ◌∵◌, !, qed, by, move, keep, drop, split, split3, join, fsplit, fjoin, pick, suffices, use0, use1, use2, await, rewrite, feq_i, lft_new, of_opd, no_more, and_then, first, blocks, exec, returns, enter, alloc_all, pass_all, free_all, look_at, get, sets, lands_last, env, Lfts, fact, fact_i, ◌⊑◌, ⊑_static, tables, yes, owns, ptr_val, rawptr_Lawful, types_at, plain, nothing, Lasts, lasts, Args, triple_of, calls_at_last, framed, Stays, stay_dropped, Goes-dropped, walk_of, handle_tells, proved_at, leaves, A₀, ghosts, dict, box_out, box_in, held_at, T, T-laws, A, A-laws, drops, E, B, good}
use denote.Param.NoDrop.{glues}
use types.Part.{sub, whole}
use types.Run.{stop, fld}
use types.ByLocal.{get_in}
use denote.Steps.{heard}
use Rattle.std.proofs.Common.{◌∙◌, ap, ◌≡◌}
use Rattle.std.specs.Prelude.{Option, Some, IsSome}
use Rattle.vollikash.specs.declared.held.Held.{Held}
use Rattle.vollikash.specs.contracts.handle.Handle as handle
use Rattle.vollikash.proofs.HandleParts.{word, good_word, some_is, handle_out}
use Rattle.std.proofs.impls.GlobalAllocator.TheImpl.Met.{passed}
use Rattle.std_alloc.specs.contracts.boxed.Box.from_raw as callee
use Rattle.std_alloc.proofs.boxed.Box.from_raw.Met.{met}
use Rattle.vollikash.specs.contracts.handle.Handle.into_box as f
use Rattle.vollikash.proofs.handle.Handle.into_box.Statement.{statement}
use Rattle.vollikash.proofs.handle.Handle.into_box.Code as code
use Rattle.vollikash.proofs.Destruct++none.drop.Code.{code as none-code}

abbrev stayed : Stays f.ended.signature.params f.ended.kept
stayed = (stay_dropped _ yes, (stay_dropped _ yes, tt))

pub into_box_spec : {M : Type 1} → statement M
unfolding none-code
into_box_spec {M = M} 𝓤 𝓛 𝓜 𝓡 wired =
    let 𝓣 = tables 𝓤 𝓛.H 𝓜 𝓡 𝓡.env in let c = f.clauses 𝓛 𝓜.mem 𝓡.returns in
    let k = triple_of 𝓛 (callee.signature T A ghosts dict drops) (callee.spec T A ghosts dict drops 𝓛 𝓜.mem 𝓡.returns) in
    let known = met 𝓤 𝓛 𝓜 𝓡 (code.calls-std_alloc::boxed::Box::from_raw 𝓡.env wired) T A T-laws A-laws ghosts dict drops
    (passed 𝓡.env (code.calls-std_heap::GlobalAllocator::allocate 𝓡.env wired) (code.calls-std_heap::GlobalAllocator::deallocate 𝓡.env wired) (code.calls-std_heap::GlobalAllocator::grow 𝓡.env wired) (code.calls-std_heap::GlobalAllocator::shrink 𝓡.env wired) M 𝓤 𝓛 𝓜 𝓡)
    (glues "vollikash::Destruct++none::drop" 𝓡.env (code.calls-vollikash::Destruct++none::drop 𝓡.env wired) A A-laws M 𝓤 𝓛 𝓜 𝓡) in
    proved_at 𝓛 f.ended stayed c 𝓜 𝓡 (Goes-dropped 𝓛 0 (plain (λ _. handle.the_row)) yes (λ κs x w. refl), (Goes-dropped 𝓛 0 (plain (λ _. A₀)) yes (λ κs x w. refl), tt))
    f.Key.name code.function (code.unfolded 𝓤 𝓛.H 𝓜 𝓡 wired) (λ z are.
    let d = z.0.3.0 in let a = z.0.3.1.0 in let p = d.at in let vs = z.0.4.0 in let us = z.0.4.1.0 in
    let Post : Val → SProp 𝓤 = (walk_of 𝓛 f.ended stayed c).post z in let Run : List Val → SProp 𝓤 = λ ws. WpFn 𝓤 𝓛.H 𝓣.C 𝓣.Λ code.function ws Post in
    qed 𝓛 ((‵ ftrue ⊛ ‵ (owns (types_at f.ended.signature.params tt) z.0.3 z.0.4)) ∷ raw (fact 𝓤 (IsSome d.value)) ∷ []) ∵ move ! (1 ∷ []) $ heard ! _ (λ has. let got = some_is d.value has in let x = got.0 in split ! $ drop ! $ fsplit ! $
    handle_out ! d vs (λ ev. rewrite ! 0 (λ (v : Option Held). ‵ (held_at v p)) got.1 refl $ move ! (1 ∷ []) $ fsplit ! $ handle_tells E.al ! a us (λ hv ea fa. move ! (1 ∷ []) $ drop ! $
    suffices ! (Run (word p ∷ hv ∷ [])) (subst (λ (ws : List Val). ent 𝓤 (Run (word p ∷ hv ∷ [])) (Run ws)) (sym (λ i. ev i ++ (ea i ++ []))) (id⊢ 𝓤 (Run (word p ∷ hv ∷ [])))) $
    -- [the handle; the box's memory]
    enter ! _ _ _ _ _ $ alloc_all ! (λ l. let ptr = (rawptr_Lawful 𝓛).typed p (ptr_val p ∷ []) refl in pass_all ! refl (good_word p ptr.0, (fa, tt)) $
    let Ev = env code.function.locals l in
    first ! $ blocks ! $ sets ! (of_opd ! (get_in ! (fld ! refl (stop !)) (sub ! 0 refl (whole !)))) refl ptr.0 $
    lft_new ! tt (λ α. lft_new ! tt (λ β.
    let κs : Lfts 2 = (α ∷ [], (β ∷ [], tt)) in let args : Args (callee.signature T A ghosts dict drops) κs = (a, (p, tt)) in let y : k.Ghost = ((κs, (full_share, (full_share, tt)), tt, args, (hv ∷ [], (ptr_val p ∷ [], tt))), x) in
    let toks = ‵ (flft (α ∷ []) full_share) ⊛ ‵ (flft (β ∷ []) full_share) ⊛ ‵ ftrue in let Ce = callee.ended T A ghosts dict drops in
    -- [two tokens; the handle; the box's memory]
    move ! (3 ∷ []) $ use0 𝓛 (raw (fact 𝓤 ((β ∷ []) ⊑ A.lives))) (fact_i 𝓤 ((β ∷ []) ⊑ A.lives) (emp 𝓤) (⊑_static (β ∷ []))) $ join ! $
    use0 𝓛 (raw (fact 𝓤 ((α ∷ []) ⊑ T.lives))) (fact_i 𝓤 ((α ∷ []) ⊑ T.lives) (emp 𝓤) (⊑_static (α ∷ []))) $ join ! $
    nothing ! $ feq_i ! (List Val) (ptr_val p ∷ []) (ptr_val p ∷ []) refl $ fjoin ! $ move ! (4 ∷ 0 ∷ []) $ fjoin ! $
    nothing ! $ move ! (3 ∷ 0 ∷ []) $ join ! $ move ! (3 ∷ 0 ∷ []) $ join ! $ join ! $ use2 𝓛 (raw (k.pre y)) (id⊢ 𝓤 _) $
    calls_at_last ! (framed 𝓤 𝓛.H 𝓜 𝓣) k known y (and_then ! (get ! refl) (and_then ! (get ! refl) (no_more !))) (λ u.
    use1 𝓛 (later (some (λ (r : B.Denot). (toks ⊛ ‵ (B.own_val r (u ∷ []))) ⊛ some (λ (ls : Lasts Ce κs args). ‵ (lasts Ce κs args ls) ⊛ (raw (fact 𝓤 (r.value ≡ x)) ⊛ raw (fact 𝓤 (r.alloc ≡ a))))))) (id⊢ 𝓤 (k.post y u)) $
    await ! tt $ pick ! (λ r. split ! $ move ! (1 ∷ []) $ pick ! (λ _. split3 ! $ drop ! $ move ! (2 ∷ []) $ split ! $ move ! (1 ∷ []) $
    -- [the new box; two tokens; its value; its allocator]
    box_out E ! r (u ∷ []) (λ b o h e is fits. box_in E ! r b o r.value e refl $ rewrite ! 0 (λ (xs : List Val). ‵ (B.own_val r xs)) (sym is) refl $
    let fine = good h b o u is fits in lands_last ! refl fine $ exec ! 𝓣.C 𝓣.Λ Ev code.Mir.t-2 (at_ret Ev Post) $ sets ! (of_opd ! (get ! refl)) refl fine $
    move ! (2 ∷ []) $ heard ! _ (λ same. use0 𝓛 (raw (fact 𝓤 (Some r.value ≡ d.value))) (fact_i 𝓤 _ (emp 𝓤) (ap (λ (y : Held). Some y) same ∙ sym got.1)) $ move ! (1 ∷ 2 ∷ 0 ∷ []) $
    returns ! (look_at ! 0 refl) $ free_all ! refl $ nothing ! $ nothing ! $ fjoin ! $ nothing ! $ fjoin ! $ nothing ! $ keep ! (0 ∷ 1 ∷ 2 ∷ 4 ∷ []) $
    by ! (leaves 𝓛 f.ended stayed c z u r (tt, (tt, tt)) (tt, (tt, tt)))))))))))))))
