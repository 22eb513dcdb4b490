-- `files::files_of`: the files hold what a crash leaves of the store.
use Rattle.std.proofs.Common.{inl, refl, sym, subst}
use Rattle.sqlite_pool.proofs.StateLemmas.{seen_may_be_left}
use Rattle.sqlite_trees.proofs.Doubt.{clean_of}
use Rattle.cs_store.specs.Opening.{IsLeftIn}
use Rattle.cs_store_memory.specs.Memory.{bytes_of}
use Rattle.cs_store_memory.specs.declared.file.MemoryFile.{MemoryFile}
use Rattle.cs_calls_memory.proofs.FilesLemmas.{clean_files}
use Rattle.cs_calls_memory.proofs.files.files_of.Goals as goal

pub returns : goal.returns
returns c held leaves =
    let clean = clean_files (λ disk. refl) c.into_files.result in
    inl (subst (λ (files : MemoryFile × MemoryFile). IsLeftIn held (record { log = bytes_of files.0; db = bytes_of files.1 })) (sym c.close.ensures)
    (c.into_files.ensures.left held clean leaves _ (seen_may_be_left c.into_files.result.pool (λ file. refl) (clean_of _ clean))))
