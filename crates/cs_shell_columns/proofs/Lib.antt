pub mod NameLemmas
pub mod ColumnLemmas
pub mod RowLemmas
pub mod Examples
