mod ApplyLemmas
pub mod CallLemmas
mod DeclareLemmas
pub mod EditLemmas
mod KeyLemmas
mod MarkLemmas
mod PageLemmas
mod PutLemmas
pub mod ReadLemmas
mod RefusalLemmas
mod RefusedEdits
mod RehearsalLemmas
mod SameLemmas
mod WorkLemmas
