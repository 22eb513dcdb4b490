-- `value::OwnedValue::as_value`: the clause `is_value`.
use Rattle.std.proofs.Common.{rules}
use Rattle.cs_value.proofs.ByteLists.{AreBytes-from_each}
use Rattle.cs_value.proofs.value.OwnedValue.as_value.Goals as goal

pub returns-in-Blob-clause-is_value : goal.returns-in-Blob-clause-is_value
returns-in-Blob-clause-is_value c =
    let bytes = c.as_slice-content.result.now in
    let are = AreBytes-from_each bytes (λ i. search rules) in
    rw c.in-Blob.is (rw c.as_slice-content.ensures.same at are, rw c.as_slice-content.ensures.same at c.as_slice-content.ensures.short)
