mod FilesLemmas
mod HostLemmas
