-- `none` owns nothing.
use Rattle.vollikash.proofs.HandleSteps.{[], ◌∷◌, refl, lit<, emp, ftrue, ‵, ◌⊛◌, raw, ◌$◌, ◌∵◌, !, qed, by, keep, use0, feq_i, lit, no_more, and_then, returns, enter, alloc_all, pass_all, free_all, look_at, sets, fact, fact_i, tables, Ptr, null_ptr, nothing, Stays, proved, leaves}
use types.Part.{agg}
use Rattle.std.specs.Prelude.{◌≡◌, Option, None}
use Rattle.vollikash.specs.declared.held.Held.{Held}
use Rattle.vollikash.proofs.HandleParts.{word, handle_in}
use Rattle.vollikash.specs.contracts.handle.Handle.none as f
use Rattle.vollikash.proofs.handle.Handle.none.Statement.{statement}
use Rattle.vollikash.proofs.handle.Handle.none.Code as code

abbrev stayed : Stays f.ended.signature.params f.ended.kept
stayed = tt

abbrev Nothing : Type 0
Nothing = ◌≡◌ {A = Option Held} None None

pub none_spec : {M : Type 1} → statement M
none_spec 𝓤 𝓛 𝓜 𝓡 wired =
    let 𝓣 = tables 𝓤 𝓛.H 𝓜 𝓡 𝓡.env in let c = f.clauses 𝓛 𝓜.mem 𝓡.returns in
    proved 𝓛 f.ended stayed c 𝓜 𝓡 tt f.Key.name code.function (code.unfolded 𝓤 𝓛.H 𝓜 𝓡 wired) (λ κs. tt) (λ κs. tt) (λ κs qs bounds a g are.
    qed 𝓛 ((‵ ftrue ⊛ ‵ ftrue) ∷ ‵ ftrue ∷ []) ∵ keep ! [] $ enter ! _ _ _ _ _ $ alloc_all ! (λ l. pass_all ! refl tt $
    sets ! (agg ! (and_then ! (lit ! tt) (no_more !))) refl (tt, (record { fits = lit< tt }, tt)) $
    returns ! (look_at ! 0 refl) $ free_all ! refl $ feq_i ! Ptr null_ptr null_ptr refl $ handle_in ! None null_ptr $ nothing ! $ nothing ! $
    use0 𝓛 (raw (fact 𝓤 Nothing)) (fact_i 𝓤 Nothing (emp 𝓤) refl) $ keep ! (1 ∷ 2 ∷ 3 ∷ 0 ∷ []) $
    by ! (leaves 𝓛 f.ended stayed c ((κs, qs, bounds, a, tt), g) (word null_ptr) (record { at = null_ptr; value = None }) tt tt)))
