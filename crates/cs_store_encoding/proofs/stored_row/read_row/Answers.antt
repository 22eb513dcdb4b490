-- `stored_row::read_row`: the clauses `refused` and `found`.
use Rattle.std.proofs.Common.{[], map, length, refl, sym, ap, subst, ◌∙◌, inl, inr, arith}
use Rattle.std.proofs.lemmas.Result.{err_from_is_err_and}
use Rattle.cs_value.specs.declared.value.OwnedField.TheVariants.{Defined}
use Rattle.cs_value.specs.Table.{IsKeyedRow}
use Rattle.cs_value.specs.State.{Obeys}
use Rattle.cs_value.proofs.RowImages.{same_from_fields}
use Rattle.cs_store_encoding.proofs.StoredRowLemmas.{row_image, row_whole, no_fault_answered}
use Rattle.cs_store_encoding.proofs.stored_row.read_row.Goals as goal

pub returns-in-Err-Fault-clause-refused : goal.returns-in-Err-Fault-clause-refused
returns-in-Err-Fault-clause-refused c =
    inl (
      refl,
      λ row is e.
          let image = row_image c.args.schema.now c.flags.result.now c.args.bytes.now row c.flags.ensures.same is e in
          no_fault_answered c.in-Err-Fault.field-0 c.in-Err-Fault.field-0-0 _ c.in-Err-Fault.field-0-is (c.in-Err-Fault.ensures.only (map Defined row) [] image.fields image.as_many image.begins),
    )

pub returns-then-used-bytes-clause-refused : goal.returns-then-used-bytes-clause-refused
returns-then-used-bytes-clause-refused c =
    inl (
      refl,
      λ row is e.
          let image = row_image c.args.schema.now c.flags.result.now c.args.bytes.now row c.flags.ensures.same is e in
          let only = c.in-Ok.ensures.only (map Defined row) [] image.fields image.as_many image.begins in
          c.if-used-bytes.true (only.1 ∙ sym (ap (λ l. length l) image.whole)),
    )

pub returns-in_err-row-clause-refused : goal.returns-in_err-row-clause-refused
returns-in_err-row-clause-refused c =
    let p = err_from_is_err_and c.from_residual.result c.from_residual.ensures.1 in
    rw (p.1, p.2) (elim c.in_err-row.ensures.refused [
      | inl h ↦ inl (
        h.0,
        λ row is e.
            let image = row_image c.args.schema.now c.flags.result.now c.args.bytes.now row c.flags.ensures.same is e in
            let only = c.in-Ok.ensures.only (map Defined row) [] image.fields image.as_many image.begins in
            h.1 row only.0,
      )
      | inr h ↦ inr h
    ])

pub returns-then-not-is_keyed-clause-refused : goal.returns-then-not-is_keyed-clause-refused
returns-then-not-is_keyed-clause-refused c =
    inl (
      refl,
      λ row is e.
          let image = row_image c.args.schema.now c.flags.result.now c.args.bytes.now row c.flags.ensures.same is e in
          let only = c.in-Ok.ensures.only (map Defined row) [] image.fields image.as_many image.begins in
          let same = same_from_fields row c.in_ok-row.row (sym only.0 ∙ c.in_ok-row.ensures.found) in
          absurd (cc (c.if-not-is_keyed.ensures.keyed.1 (rw c.flags-2.ensures.same (subst (IsKeyedRow c.args.schema.now.flags) same is.keyed)))),
    )

pub returns-then-not-is_obeyed_by-clause-refused : goal.returns-then-not-is_obeyed_by-clause-refused
returns-then-not-is_obeyed_by-clause-refused c =
    inl (
      refl,
      λ row is e.
          let image = row_image c.args.schema.now c.flags.result.now c.args.bytes.now row c.flags.ensures.same is e in
          let only = c.in-Ok.ensures.only (map Defined row) [] image.fields image.as_many image.begins in
          let same = same_from_fields row c.in_ok-row.row (sym only.0 ∙ c.in_ok-row.ensures.found) in
          absurd (cc (c.if-not-is_obeyed_by.ensures.1 (subst (Obeys c.args.schema.now.refuses) same is.obeys))),
    )

pub returns-clause-found : goal.returns-clause-found
returns-clause-found c =
    let found = c.in-Ok.ensures.found in (
      record {
        values = c.if-not-is_keyed.ensures.are_values;
        keyed = rw (← c.flags-2.ensures.same) (c.if-not-is_keyed.ensures.keyed.0 refl);
        obeys = c.if-not-is_obeyed_by.ensures.0 refl;
      },
      row_whole c.args.bytes.now c.in-Ok.read.0 c.in-Ok.read.1 c.in_ok-row.row found.2 (omega (arith, c.if-used-bytes.false)) c.in_ok-row.ensures.found,
    )
