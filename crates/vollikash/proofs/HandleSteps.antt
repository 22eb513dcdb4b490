-- What the walks cite, and the row of a `Held`'s box as a call of a generic function passes it.
pub use Rattle.std.proofs.Common.{◌≡◌, ℕ, ℤ, List, [], ◌∷◌, ◌++◌, ◌&&◌, true, refl, sym, ap, subst, ◌∙◌, w8, w32, lit<, T as T'}
pub use mir.Syntax.{named, ty_ptr}
pub use mir.Val.{Val, vunit, vint, vptr, has_ty, WT}
pub use base.Logic.{SProp, ent, emp, id⊢, ex, ex_i, fst∗, never}
pub use base.Fml.{Lft, GName, Fml, ftrue, flft, flent, fres, fsep}
pub use base.Fraction.{full_share}
pub use prog.Wp.{WpFn}
pub use types.Logic.{sem}
pub use types.Kit.{‵, raw, ◌⊛◌, some, later, prop, at_ret, ◌$◌, ◌∵◌, !, qed, by, done, move, keep, drop, split, split3, join, fsplit, fsplit3, fjoin, fpick, fjoin3, pick, show, suffices, frame, regoal, use0, use1, use2, use3, await, rewrite, feq_i, feq_l}
pub use types.Tokens.{lft_new, lft_end}
pub use types.Run.{stop, addr, store, fld, assigns, switches_on, of_opd, unit_lit, lit, no_more, and_then, first, blocks, exec, returns, enter}
pub use types.ByLocal.{alloc_all, pass_all, free_all, look_at, get, get_in, get_tag, through, sets, sets_last, lands_as, lands_last, env}
pub use contract.Lifetimes.{Lfts}
pub use contract.Monad.{fact, fact_i}
pub use contract.BorrowLft.{◌⊑◌, ⊑_static}
pub use contract.Running.{tables}
pub use denote.Builtin.{u8, i32, unit}
pub use denote.Exit.{yes, no}
pub use denote.Laws.{Is, shows}
pub use denote.Lend.{lends_ref, ref_back}
pub use denote.Memory.{mem}
pub use denote.Plain.{uint_Makes, uint_vals, uint_Tells}
pub use types.SemTy.{Body}
pub use denote.RattleType.{RattleType, owns}
pub use denote.RawPtr.{Ptr, RawPtr, block_ptr, null_ptr, ptr_val, in_a_block, rawptr_Lawful, rawptr_vals, rawptr_Tells}
pub use denote.Ref.{MutRef}
pub use denote.Signature.{types_at, plain}
pub use denote.Signed.{sint_Lawful, sint_Makes}
pub use denote.Steps.{nothing, only, heard, owned, peeks, opens, closes}
pub use denote.Triple.Call.{calls_at, calls_at_last}
pub use denote.Triple.Clauses.{Lasts, lasts}
pub use denote.Triple.Entry.{Args, on_entry}
pub use denote.Triple.Spec.{triple_of}
pub use denote.Triple.Table.{framed}
pub use denote.Triple.Walked.{Stays, stay_dropped, stay_ref, Goes-dropped, Goes-ref, walk_of}
pub use Rattle.std.proofs.VecSteps.Shapes.{after}
pub use Rattle.std.proofs.alloc.Calls.{handle_tells}
pub use Rattle.std.proofs.raw_atomic.Walks.{proved, proved_at, leaves}
pub use Rattle.std.specs.contracts.alloc.Global.{the_row as A₀}
pub use Rattle.std.specs.contracts.impls.GlobalAllocator.TheImpl.{ghosts, dict}
pub use Rattle.std_alloc.proofs.BoxSteps.Steps.{box_out, box_in}
pub use Rattle.vollikash.specs.Owned.{chunk, held_at, heap}
pub use mir.Raw.{raw as bare}
pub use Rattle.vollikash.specs.declared.held.Held.{Held}
pub use Rattle.vollikash.specs.contracts.held.Held.{the_row as T₀}
use mir.Syntax.{Dict, impl, tnil, tcons, dnil}
pub use denote.Param.{layout}
use denote.Param.{arg}
use denote.Param.Laws.{Laws, arg_laws}
use Rattle.std.proofs.alloc.Global.TheLaws as global
use Rattle.std_alloc.proofs.BoxSteps.Form as box
use Rattle.vollikash.proofs.held.Held.TheLaws as held

abbrev pub T : RattleType
T = arg (bare (layout T₀)) no T₀

abbrev pub T-laws : Laws T
T-laws = arg_laws (bare (layout T₀)) no T₀ held.the_row_laws refl

abbrev pub A : RattleType
A = arg (bare (layout A₀)) no A₀

abbrev pub A-laws : Laws A
A-laws = arg_laws (bare (layout A₀)) no A₀ global.the_row_laws refl

-- how a `Global` is dropped
abbrev pub drops : Dict
drops = impl ("vollikash::Destruct++none::drop" ∷ []) (tcons (layout A) tnil) dnil

abbrev pub E : box.Bx
E = record { row = T; laws = T-laws; al = record { row = A; laws = A-laws; g = ghosts; d = dict; drops = drops } }

abbrev pub B : RattleType
B = box.B E

-- the machine value of a box is of its type
pub good : (h : Val) (b o : ℕ) (u : Val) → u ∷ [] ≡ box.word E h b o ∷ [] → T' (has_ty (layout A) h) × WT h → T' (has_ty (box.box_ty E) u) × WT u
good h b o u is fits = subst (λ (v : Val). T' (has_ty (box.box_ty E) v) × WT v) (sym (ap only is)) (box.box_typed E h b o fits)
