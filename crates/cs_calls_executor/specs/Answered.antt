-- What calls do in the transaction of a store.
use Rattle.std.specs.Prelude.{◌≡◌, ◌⊎◌, IsTrue, map, Result, Ok, Err, IfOk, IfErr, IsErrAnd}
use Rattle.std.specs.declared.alloc.Global.{Global}
use Rattle.std.specs.declared.vec.Vec.{Vec}
use Rattle.sqlite.specs.State as sqlite
use Rattle.sqlite.specs.State.{HasCleanDisk, IsUnchanged}
use Rattle.cs_value.specs.State.{State}
use Rattle.cs_rows.specs.declared.edit.Written.{Written}
use Rattle.cs_rows.specs.declared.fault.StoreError.{StoreError}
use Rattle.cs_rows.specs.Editing.{Edited, written_of}
use Rattle.cs_rows.specs.Faults as stores
use Rattle.cs_store.specs.Records.{Rests}
use Rattle.cs_store.specs.Store.{KeepsStore, tables_in}
use Rattle.cs_store.specs.Within.{Within}
use Rattle.cs_calls_answers.specs.declared.answer.Refused.{Refused}
use Rattle.cs_calls_conversions.specs.Refusals.{of_error}

-- it is the refusal of such an error
pub record IsRefusalOf (Is : StoreError → Type 0) (why : Refused) : Type 0 where
  pub error : StoreError
  pub of : Is error
  pub is : why ≡ of_error error

-- memory ran out, or the database refused
abbrev pub IsResource : Refused → Type 0
IsResource = IsRefusalOf stores.IsResource

-- or the disk does not return what was written: what may end a transaction
abbrev pub MayEnd : Refused → Type 0
MayEnd = IsRefusalOf stores.IsReadRefusal

-- the result is this one, and nothing changes; or memory ran out, or the database refused
abbrev pub IsAnswered : {X : Type 0} → Result X Refused → sqlite.State → sqlite.State → Result X Refused → Type 0
IsAnswered answer old new result = ((result ≡ answer) × IsUnchanged old new) ⊎ IsErrAnd result IsResource

-- the connection is open, if the disk has returned what was written
abbrev pub IsOpen : sqlite.State → Type 0
IsOpen s = HasCleanDisk s → IsTrue s.is_open

-- If the disk has returned what was written: the result is the one that is defined for the tables that are shown. A
-- refused read changes nothing, or it has ended the transaction.
pub record Reads {X : Type 0} (answer : State → Result X Refused) (old new : sqlite.State) (result : Result X Refused) : Type 0
  where
    pub kept : KeepsStore old new
    pub rests : HasCleanDisk new → Rests old new
    pub given : HasCleanDisk new → IsAnswered (answer (tables_in old.now)) old new result

-- these tables, and these keys that were written
abbrev pub edited_as : State → Vec Written Global → Edited
edited_as made written = record { state = made; written = map written_of written.items }

-- An accepted edit makes tables, and returns the keys that it wrote, which `Next` relates to the tables that are shown. A
-- refused one has a refusal of `Next`, or memory ran out, or the database refused.
pub record Makes (Next : State → Result Edited Refused → Type 0) (old new : sqlite.State)
    (result : Result (Vec Written Global) Refused) : Type 0 where
  pub within : Within (λ made. IfOk result (λ written. Next (tables_in old.now) (Ok (edited_as made written)))) MayEnd old new
      result
  pub refused : HasCleanDisk new → IfErr result (λ why. Next (tables_in old.now) (Err why) ⊎ IsResource why)

-- the tables, the keys and the refusals of `next`
abbrev pub Edits : (State → Result Edited Refused) → sqlite.State → sqlite.State → Result (Vec Written Global) Refused → Type 0
Edits next old new result = Makes (λ tables outcome. next tables ≡ outcome) old new result
