-- A reader or a writer that remembers whether a call failed.
use Rattle.std.specs.Prelude.{ℕ, Bool, List, Option}
use Rattle.cs_file_texts.specs.declared.told.Told.{Told}

-- the reader or the writer inside
abbrev pub inner_of : {T : Type 0} → Told T → T
inner_of told = told.inner

-- whether a call of it failed
abbrev pub has_failed : {T : Type 0} → Told T → Bool
has_failed told = told.failed

-- the bytes that the reader inside has left, or that the writer inside holds, where those are known
abbrev pub known : {T : Type 0} → (T → Option (List ℕ)) → Told T → Option (List ℕ)
known bytes told = bytes (inner_of told)
