-- `Schema::from_parts`: the invariant of `result`, the clause `well_formed`.
use Rattle.std.proofs.Common.{string_bytes, arith, rules}
use Rattle.std.proofs.lemmas.List.{length-map}
use Rattle.cs_rows.proofs.schema.Schema.from_parts.Goals as goal

pub invariant_of-result : goal.invariant_of-result
invariant_of-result c = record { flags = search rules; bits = search rules; rules = search rules; as_many = omega (arith, length-map c.args.columns.items string_bytes, c.len.ensures, c.len-2.ensures, c.if-len.true, c.args.columns.ok, c.args.flags.ok); named = search rules; apart = search rules }

pub returns-then-branch-clause-well_formed : goal.returns-then-branch-clause-well_formed
returns-then-branch-clause-well_formed c = invariant_of-result c
