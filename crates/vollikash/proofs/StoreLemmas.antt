-- The store that a handle has, where it is worked on in place.
use Rattle.std.proofs.Common.{◌≡◌, ap, sym, ◌∙◌}
use Rattle.std.specs.Prelude.{Some, pos}
use Rattle.cs_rows.specs.declared.fault.StoreError.{StoreError}
use Rattle.cs_rows.specs.declared.fault.StoreError.TheVariants.{TableExists, NoTable, BadSchema, KeyTaken, NoRow, RowWidth, NullInKey, NotNull, DamagedStore, StoreFault, NoMemory}
use Rattle.cs_rows.specs.Faults as stores
use Rattle.vollikash.specs.declared.answer.TheConstants.{OK}
use Rattle.vollikash.specs.declared.handle.Handle.{Handle}
use Rattle.vollikash.specs.declared.held.Held.{Held}
use Rattle.vollikash.specs.declared.held.OpenStore.{OpenStore}
use Rattle.vollikash.specs.Stores.{store_in}

-- it is the one that was lent
pub was_open : (handle tested : Handle) (lent : Held) (store : OpenStore) → tested ≡ handle → Some lent ≡ tested.value → lent.store ≡ Some store → store_in handle.value ≡ Some store
was_open handle tested lent store same value is = sym (ap store_in (value ∙ ap (λ (h : Handle). h.value) same)) ∙ is

-- no error has the number of success
pub error_coded : (error : StoreError) → pos (stores.code_of error) ≡ OK → ⊥
error_coded TableExists is = absurd (cc)
error_coded NoTable is = absurd (cc)
error_coded BadSchema is = absurd (cc)
error_coded KeyTaken is = absurd (cc)
error_coded NoRow is = absurd (cc)
error_coded RowWidth is = absurd (cc)
error_coded NullInKey is = absurd (cc)
error_coded NotNull is = absurd (cc)
error_coded DamagedStore is = absurd (cc)
error_coded (StoreFault cause) is = absurd (cc)
error_coded NoMemory is = absurd (cc)
