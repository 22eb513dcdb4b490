-- `as_mut` lends the value, and the handle follows it.
use Rattle.vollikash.proofs.HandleSteps.{◌≡◌, ℕ, List, [], ◌∷◌, refl, sym, ap, ◌∙◌, named, Val, vptr, ent, emp, fst∗, never, GName, Fml, ftrue, flft, fsep, full_share, sem, ‵, raw, ◌⊛◌, some, later, at_ret, ◌$◌, ◌∵◌, !, qed, by, done, move, keep, split, split3, join, fsplit, fsplit3, fjoin, pick, use0, use1, await, rewrite, stop, fld, addr, of_opd, first, blocks, exec, returns, enter, alloc_all, pass_all, free_all, look_at, get, through, sets, sets_last, env, fact, fact_i, tables, no, mem, Ptr, block_ptr, null_ptr, in_a_block, MutRef, plain, nothing, heard, opens, Stays, stay_dropped, walk_of, proved, leaves, T₀, chunk, bare, layout, held_at, Held}
use seplogic.Ra.Ura.{Ura}
use types.Logic.{Logic}
use types.Kit.{group, fpack}
use types.Part.{sub, whole, look_in}
use types.Run.{load}
use denote.Follow.{follows, lends_Part}
use denote.Memory.{cell_at, part_of, part_at}
use denote.Ref.{mut_vals, mut_Tells}
use denote.Signature.{mut_ref_to}
use denote.Triple.Walked.{Goes-spent_ref}
use Rattle.std.specs.Prelude.{Option, Some, IsSome}
use Rattle.vollikash.specs.declared.handle.Handle.{Handle}
use Rattle.vollikash.specs.contracts.handle.Handle.{the_row as R}
use Rattle.vollikash.specs.Follows.{with_held}
use Rattle.vollikash.proofs.HandleParts.{word, some_is, handle_in, handle_out}
use Rattle.vollikash.specs.contracts.handle.Handle.as_mut as f
use Rattle.vollikash.proofs.handle.Handle.as_mut.Statement.{statement}
use Rattle.vollikash.proofs.handle.Handle.as_mut.Code as code

abbrev stayed : Stays f.ended.signature.params f.ended.kept
stayed = (stay_dropped (mut_ref_to (0 ∷ []) tt (plain (λ _. R))) no, tt)

-- all of the handle but its value
abbrev Rest : ℕ → ℕ → ℕ → ℕ → Fml
Rest rb ro b o = fsep (chunk (bare (layout T₀)) (block_ptr b o)) (cell_at full_share R.mir (word (block_ptr b o) ∷ []) rb ro)

back : {M : Type 1} {𝓤 : Ura M} (𝓛 : Logic 𝓤) (rb ro b o : ℕ) (g : Handle) → g.at ≡ block_ptr b o → (w : Held)
    → ent 𝓤 (base.Logic.sep 𝓤 (sem 𝓛 ((mem T₀).own_at w b o)) (sem 𝓛 (Rest rb ro b o))) (sem 𝓛 ((mem R).own_at (with_held g w) rb ro))
unfolding part_of
back 𝓛 rb ro b o g e w = qed 𝓛 (‵ (part_at T₀ full_share w b o) ∷ ‵ (Rest rb ro b o) ∷ []) ∵ move ! (1 ∷ []) $ fsplit ! $ move ! (2 ∷ 0 ∷ []) $ fjoin ! $ handle_in ! (Some w) (block_ptr b o) $
    rewrite ! 0 (λ (p : Ptr). ‵ (R.own_val (record { at = p; value = Some w }) (word (block_ptr b o) ∷ []))) (sym e) refl $ move ! (1 ∷ 0 ∷ []) $ fjoin ! $
    fpack ! (List Val) (λ us. fsep (cell_at full_share R.mir us rb ro) (R.own_val (with_held g w) us)) (word (block_ptr b o) ∷ []) $ done !

pub as_mut_spec : {M : Type 1} → statement M
as_mut_spec 𝓤 𝓛 𝓜 𝓡 wired =
    let 𝓣 = tables 𝓤 𝓛.H 𝓜 𝓡 𝓡.env in let c = f.clauses 𝓛 𝓜.mem 𝓡.returns in let W = walk_of 𝓛 f.ended stayed c in
    proved 𝓛 f.ended stayed c 𝓜 𝓡 (Goes-spent_ref 𝓛 1 (0 ∷ []) tt (plain (λ _. R)), tt) f.Key.name code.function (code.unfolded 𝓤 𝓛.H 𝓜 𝓡 wired)
    (λ κs. (mut_vals, tt)) (λ κs. (mut_Tells (named 0) κs.0 R, tt)) (λ κs qs bounds a t are.
    let κ = κs.0 in let q = qs.0 in let r = a.0 in let rb = r.ref_ptr.0 in let ro = r.ref_ptr.1 in let g = r.now in
    let y : W.Ghost = ((κs, qs, bounds, a, (mut_vals r, tt)), t) in
    qed 𝓛 (((‵ (flft κ q) ⊛ ‵ ftrue) ⊛ ‵ ((MutRef (named 0) κ R).own_val r (mut_vals r)) ⊛ ‵ ftrue) ∷ raw (fact 𝓤 (IsSome g.value)) ∷ []) ∵ move ! (1 ∷ []) $ heard ! _ (λ has. let got = some_is g.value has in let x = got.0 in
    split ! $ split ! $ move ! (2 ∷ []) $ split ! $ fsplit3 ! $ keep ! (1 ∷ 2 ∷ 4 ∷ []) $
    enter ! _ _ _ _ _ $ alloc_all ! (λ l. pass_all ! refl ((tt, tt), tt) $ let Ev = env code.function.locals l in
    opens ! tt R rb ro (λ us. move ! (1 ∷ []) $ handle_out ! g us (λ eu. rewrite ! 0 (λ (v : Option Held). ‵ (held_at v g.at)) got.1 refl $
    in_a_block ! g.at (λ p. held_at (Some x) p) (fst∗ 𝓤 (never 𝓤) (sem 𝓛 (chunk (bare (layout T₀)) null_ptr))) (λ b o e. fsplit ! $
    rewrite ! 2 (λ (ws : List Val). ‵ (cell_at full_share R.mir ws rb ro)) (eu ∙ ap (λ (p : Ptr). word p ∷ []) e) refl $
    -- [the value; the right to free; the handle's cell; the open borrow, in three entries]
    first ! $ blocks ! $ sets ! (of_opd ! (load ! (through ! refl (fld ! refl (stop !))) (look_in ! 2 (sub ! 0 refl (whole !))))) refl (tt, tt) $ sets ! (of_opd ! (get ! refl)) refl (tt, tt) $ sets_last ! (addr ! (through ! refl (stop !))) refl (tt, tt) $
    exec ! 𝓣.C 𝓣.Λ Ev code.Mir.t-2 (at_ret Ev (W.post y)) $ sets ! (of_opd ! (get ! refl)) refl (tt, tt) $
    move ! (1 ∷ 2 ∷ []) $ fjoin ! $ move ! (2 ∷ 3 ∷ 4 ∷ 1 ∷ 0 ∷ []) $ group ! 5 $
    use1 𝓛 (later (some (λ (δ : GName). ‵ ((MutRef (named 0) κ T₀).own_val (record { ref_ptr = (b, o); ghost_name = δ; now = x }) (vptr b o ∷ [])) ⊛ ‵ (flft κ q) ⊛ ‵ (follows R T₀ r.ghost_name δ (with_held g)))))
    (lends_Part 𝓛 R T₀ (with_held g) (named 0) κ q rb ro b o r.ghost_name (sem 𝓛 (Rest rb ro b o)) (back 𝓛 rb ro b o g e) (R.coded.code g) (R.coded.code g) x) $ await ! tt $ pick ! (λ δ. split3 ! $
    returns ! (look_at ! 0 refl) $ free_all ! refl $ move ! (2 ∷ []) $
    use0 𝓛 (raw (fact 𝓤 (Some x ≡ g.value))) (fact_i 𝓤 _ (emp 𝓤) (sym got.1)) $ move ! (1 ∷ 0 ∷ []) $ join ! $ nothing ! $ nothing ! $ fjoin ! $ nothing ! $ move ! (4 ∷ 0 ∷ []) $ join ! $ keep ! (0 ∷ 1 ∷ 3 ∷ 2 ∷ []) $
    by ! (leaves 𝓛 f.ended stayed c y (vptr b o) (record { ref_ptr = (b, o); ghost_name = δ; now = x }) (tt, tt) (tt, tt)))))))))
