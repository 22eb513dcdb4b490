-- How a `Held` is dropped, as a call of a generic function passes it.
use Rattle.vollikash.proofs.HandleSteps.{[], ◌∷◌, refl, T, T-laws}
use seplogic.Ra.Ura.{Ura}
use mir.Syntax.{Dict, Callee, impl, tnil, dnil, method}
use types.Logic.{Logic}
use prog.Model.{Model}
use prog.Wired.{Wired}
use contract.Running.{Running}
use denote.Param.{layouts}
use denote.Param.Glue.{Met}
use denote.Triple.Carry.{AllWithin}
use denote.Triple.Clauses.{Lasts, lasts, at_exit}
use denote.Triple.Walked.{Fit}
use borrow.Fn.Glue.{glue_ps, glue_by}
use borrow.Fn.Impl.{via_longer, method_Known}
use borrow.Fn.Kinds.{ended_of, stays, r_unit}
use borrow.Fn.Run.{Over}
use borrow.Fn.World.{World}
use Rattle.vollikash.proofs.vollikash++held++Held+Destruct.drop.Kinds as kinds
use Rattle.vollikash.proofs.vollikash++held++Held+Destruct.drop.Reads as reads
use Rattle.vollikash.proofs.vollikash++held++Held+Destruct.drop.Symbol as symbol
use Rattle.vollikash.proofs.vollikash++held++Held+Destruct.drop.Met as dropped

abbrev pub held_drops : Dict
held_drops = impl ("vollikash::vollikash++held++Held+Destruct::drop" ∷ []) tnil dnil

abbrev key : Callee
key = method held_drops 0 (layouts [] tt)

pub held_glue : {M : Type 1} (𝓤 : Ura M) (𝓛 : Logic 𝓤) (𝓜 : Model 𝓤 𝓛.H) (𝓡 : Running 𝓤 𝓛.H 𝓜) → Wired 𝓡.env symbol.code → Met 𝓛 𝓜 𝓡 𝓡.env T held_drops
held_glue {M = M} 𝓤 𝓛 𝓜 𝓡 w =
    let W : World = record { M = M; 𝓤 = 𝓤; 𝓛 = 𝓛; 𝓜 = 𝓜; 𝓡 = 𝓡 } in
    glue_by T T-laws W held_drops 𝓡.env
    (λ κs a. Lasts (ended_of 0 kinds.ps kinds.r) tt a) (λ κs a. lasts (ended_of 0 kinds.ps kinds.r) tt a)
    (λ κs a x ws. Fit (ended_of 0 kinds.ps kinds.r) (stays kinds.ps) tt a ws × reads.Learnt tt a x (at_exit (ended_of 0 kinds.ps kinds.r) tt a ws))
    (λ κs a. AllWithin 1 (κs.0, tt) (T.lives, tt) × Unit {0}) 0 tt (λ κs a h. ((h, tt), tt))
    (via_longer 𝓛 (Over 𝓛 𝓜 𝓡 𝓡.env) 1 (glue_ps T T-laws) r_unit
    (λ κs a. Lasts (ended_of 0 kinds.ps kinds.r) tt a) (λ κs a. lasts (ended_of 0 kinds.ps kinds.r) tt a)
    (λ κs a x ws. Fit (ended_of 0 kinds.ps kinds.r) (stays kinds.ps) tt a ws × reads.Learnt tt a x (at_exit (ended_of 0 kinds.ps kinds.r) tt a ws))
    (λ κs a. AllWithin 1 (κs.0, tt) (T.lives, tt) × Unit {0}) key 0 tt (λ κs. tt) (λ κs a. reads.Asked tt a) (λ κs a p. (tt, tt))
    (λ κs bd within a vss qs. method_Known 0 kinds.ps kinds.r reads.requires reads.ensures reads.Asked reads.Learnt reads.known W symbol.name key
    (symbol.as_method 𝓡.env w key refl) (dropped.met 𝓤 𝓛 𝓜 𝓡 w) ((tt, qs, tt, a, vss), tt)))
