pub mod AddLemmas
pub mod AnswerLemmas
pub mod ContentLemmas
pub mod CountedRows
pub mod FailureLemmas
pub mod EditLemmas
mod ExpectedLemmas
pub mod Examples
pub mod FoundRows
pub mod ListedRows
pub mod MarkLemmas
pub mod OrderLemmas
pub mod PagedRows
mod PlaceLemmas
pub mod QueryLemmas
pub mod QueryTexts
pub mod ReadFailures
mod RecordLemmas
pub mod RemoveLemmas
pub mod ReplaceLemmas
pub mod RowLemmas
pub mod ScanLemmas
pub mod ScannedRows
pub mod SetLemmas
pub mod StatementLemmas
pub mod TableLemmas
pub mod TransactionLemmas
pub mod WriteFailures
pub mod WriteLemmas
