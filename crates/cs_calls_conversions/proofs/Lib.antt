mod ColumnLemmas
mod KeyLemmas
mod NameLemmas
mod RefusalLemmas
