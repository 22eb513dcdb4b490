use Rattle.std.proofs.Common.{◌≡◌, ◌≤◌, ℕ, List, length, ◌-◌}
use Rattle.std.specs.Io.KnownBytes.{Consumes}
use Rattle.cs_file_texts.specs.Told.{known}
use Rattle.cs_calls_server.specs.Frames.{Holds}
use Rattle.cs_calls_server.proofs.frames.read_call.Given as goal

abbrev pub invariant-loop-read : goal.invariant-loop-read
invariant-loop-read g l =
    (bytes : List ℕ) × Consumes (known g.R.Read.remaining l.initial.input) (known g.R.Read.remaining l.input) bytes
    × (length bytes ≡ l.read) × (l.read ≤ l.count) × Holds l.body bytes

abbrev pub decreases-loop-read : goal.decreases-loop-read
decreases-loop-read g l = l.count - l.read
