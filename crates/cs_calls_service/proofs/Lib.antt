mod AloneLemmas
mod NotedLemmas
mod ServiceLemmas
mod SessionLemmas
