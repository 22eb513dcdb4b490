-- `is_null` compares the pointer with null, and the handle stays.
use Rattle.vollikash.proofs.HandleSteps.{◌≡◌, List, [], ◌∷◌, refl, Val, emp, ftrue, flft, full_share, ‵, raw, ◌⊛◌, ◌$◌, ◌∵◌, !, qed, by, move, keep, split, join, fsplit3, fjoin, fjoin3, use0, rewrite, feq_i, stop, fld, of_opd, lit, returns, enter, alloc_all, pass_all, free_all, look_at, get, through, sets, fact, fact_i, tables, named, ptr_val, rawptr_Lawful, MutRef, plain, nothing, opens, closes, Stays, walk_of, proved, leaves, stay_ref, Goes-ref}
use denote.Memory.{cell_at}
use denote.RawPtr.{tests_null}
use denote.Ref.{mut_vals, mut_Tells}
use mir.Val.{vbool, vptr}
use types.ByLocal.{is}
use types.Part.{sub, whole, look_in}
use types.Run.{bin, load}
use Rattle.std.specs.Prelude.{Bool, is_none}
use Rattle.vollikash.specs.contracts.handle.Handle.{the_row as R}
use Rattle.vollikash.proofs.HandleParts.{word, handle_in, handle_out, handle_tested}
use Rattle.vollikash.specs.contracts.handle.Handle.is_null as f
use Rattle.vollikash.proofs.handle.Handle.is_null.Statement.{statement}
use Rattle.vollikash.proofs.handle.Handle.is_null.Code as code

abbrev stayed : Stays f.ended.signature.params f.ended.kept
stayed = (stay_ref (0 ∷ []) tt (plain (λ _. R)), tt)

pub is_null_spec : {M : Type 1} → statement M
is_null_spec 𝓤 𝓛 𝓜 𝓡 wired =
    let 𝓣 = tables 𝓤 𝓛.H 𝓜 𝓡 𝓡.env in let c = f.clauses 𝓛 𝓜.mem 𝓡.returns in let W = walk_of 𝓛 f.ended stayed c in
    proved 𝓛 f.ended stayed c 𝓜 𝓡 (Goes-ref 𝓛 1 0 tt (plain (λ _. R)), tt) f.Key.name code.function (code.unfolded 𝓤 𝓛.H 𝓜 𝓡 wired)
    (λ κs. (mut_vals, tt)) (λ κs. (mut_Tells (named 0) κs.0 R, tt)) (λ κs qs bounds a t are.
    let κ = κs.0 in let q = qs.0 in let r = a.0 in let rb = r.ref_ptr.0 in let ro = r.ref_ptr.1 in let g = r.now in let p = g.at in let n : Bool = is_none g.value in
    let y : W.Ghost = ((κs, qs, bounds, a, (mut_vals r, tt)), t) in
    qed 𝓛 (((‵ (flft κ q) ⊛ ‵ ftrue) ⊛ ‵ ((MutRef (named 0) κ R).own_val r (mut_vals r)) ⊛ ‵ ftrue) ∷ ‵ ftrue ∷ []) ∵
    split ! $ split ! $ move ! (2 ∷ []) $ split ! $ fsplit3 ! $ keep ! (1 ∷ 2 ∷ 4 ∷ []) $
    enter ! _ _ _ _ _ $ alloc_all ! (λ l. pass_all ! refl ((tt, tt), tt) $
    opens ! tt R rb ro (λ us. move ! (1 ∷ []) $ handle_out ! g us (λ eu. handle_tested ! g.value p (λ may same.
    rewrite ! 1 (λ (ws : List Val). ‵ (cell_at full_share R.mir ws rb ro)) eu refl $
    -- [what is held; the handle's cell; the open borrow, in three entries]
    let ptr = (rawptr_Lawful 𝓛).typed p (ptr_val p ∷ []) refl in
    sets ! (of_opd ! (load ! (through ! refl (fld ! refl (stop !))) (look_in ! 1 (sub ! 0 refl (whole !))))) refl ptr.0 $
    sets ! (is ! (bin ! (get ! refl) (lit ! tt) (tests_null p may)) same) refl (tt, tt) $
    handle_in ! g.value p $ move ! (1 ∷ 0 ∷ []) $ closes ! tt R g (word p ∷ []) rb ro $
    feq_i ! (List Val) (vptr rb ro ∷ []) (vptr rb ro ∷ []) refl $ fjoin3 ! $ nothing ! $ move ! (1 ∷ 0 ∷ []) $ fjoin ! $ nothing ! $ move ! (2 ∷ 0 ∷ []) $ join ! $
    feq_i ! (List Val) (vbool n ∷ []) (vbool n ∷ []) refl $
    use0 𝓛 (raw (fact 𝓤 (g ≡ g))) (fact_i 𝓤 (g ≡ g) (emp 𝓤) refl) $ use0 𝓛 (raw (fact 𝓤 (n ≡ n))) (fact_i 𝓤 (n ≡ n) (emp 𝓤) refl) $ join ! $
    returns ! (look_at ! 0 refl) $ free_all ! refl $ keep ! (2 ∷ 3 ∷ 1 ∷ 0 ∷ []) $
    by ! (leaves 𝓛 f.ended stayed c y (vbool n) n (g, tt) (tt, tt)))))))
