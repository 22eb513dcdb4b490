-- `adoption::set_up`: the clauses `refused`, `named` and `caused` where the table of records cannot be used.
use Rattle.cs_rows.specs.declared.fault.Cause.TheVariants as cause
use Rattle.cs_rows.specs.Faults.{refused_for}
use Rattle.std.proofs.Common.{inr, subst}
use Rattle.cs_store_sql.specs.Layout.{IsDeclaration}
use Rattle.cs_store_sql.specs.Records.{IsUnsupported}
use Rattle.cs_store_tables.specs.Failing.{unsupported}
use Rattle.cs_store_adoption.proofs.adoption.set_up.Goals as goal

pub returns-in-Ok-Unsupported-clause-refused : goal.returns-in-Ok-Unsupported-clause-refused
returns-in-Ok-Unsupported-clause-refused g c clean = inr (inr (refused_for cause.Other))

pub returns-in-Ok-Unsupported-clause-named : goal.returns-in-Ok-Unsupported-clause-named
returns-in-Ok-Unsupported-clause-named g c = inr (inr (refused_for cause.Other))

pub returns-in-Ok-Unsupported-clause-caused : goal.returns-in-Ok-Unsupported-clause-caused
returns-in-Ok-Unsupported-clause-caused g c clean =
    let is : IsUnsupported c.schema.result.now = subst (IsDeclaration c.schema.result.now) c.in-Ok-Unsupported.field-0-is c.in-Ok-Unsupported.ensures in
    unsupported (subst IsUnsupported c.schema.ensures.value is)
