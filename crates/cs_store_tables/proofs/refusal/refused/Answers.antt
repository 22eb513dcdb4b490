-- `refusal::refused`: the clause `resource` where the database refused.
use Rattle.std.proofs.Common.{inr}
use Rattle.cs_rows.specs.declared.fault.Cause.TheVariants as cause
use Rattle.cs_rows.specs.Faults.{refused_for}
use Rattle.cs_store_tables.proofs.refusal.refused.Goals as goal

pub returns-in-SqliteFailure-DatabaseBusy-clause-resource : goal.returns-in-SqliteFailure-DatabaseBusy-clause-resource
returns-in-SqliteFailure-DatabaseBusy-clause-resource c = inr (refused_for cause.Busy)

pub returns-in-SqliteFailure-NotADatabase-clause-resource : goal.returns-in-SqliteFailure-NotADatabase-clause-resource
returns-in-SqliteFailure-NotADatabase-clause-resource c = inr (refused_for cause.NotADatabase)

pub returns-in-SqliteFailure-DiskFull-clause-resource : goal.returns-in-SqliteFailure-DiskFull-clause-resource
returns-in-SqliteFailure-DiskFull-clause-resource c = inr (refused_for cause.Full)

pub returns-in-SqliteFailure-SystemIoFailure-clause-resource : goal.returns-in-SqliteFailure-SystemIoFailure-clause-resource
returns-in-SqliteFailure-SystemIoFailure-clause-resource c = inr (refused_for cause.InputOutput)

pub returns-in_default-error-clause-resource : goal.returns-in_default-error-clause-resource
returns-in_default-error-clause-resource c = inr (refused_for cause.Other)

pub returns-in_default-error-2-clause-resource : goal.returns-in_default-error-2-clause-resource
returns-in_default-error-2-clause-resource c = inr (refused_for cause.Other)
