-- Lemmas on frames that are read.
use Rattle.std.proofs.Common.{◌≡◌, ◌≢◌, ℕ, ◌+◌, ◌≤◌, List, [], ◌∷◌, ◌++◌, length, length-append, Option, refl, ap, ◌∙◌, arith, ◌-◌}
use Rattle.std.specs.Prelude.{IsTrue}
use Rattle.std.specs.Io.KnownBytes.{Consumes}
use Rattle.std.proofs.KnownBytes.{Consumes-trans}
use Rattle.cs_file_texts.specs.declared.told.Told.{Told}
use Rattle.cs_file_texts.specs.Told.{has_failed, known}
use Rattle.cs_calls_server.specs.declared.frames.Body.{Body}
use Rattle.cs_calls_server.specs.declared.frames.Ending.{Ending}
use Rattle.cs_calls_server.specs.declared.frames.Ending.TheVariants.{Done, Torn, InputFault, OutputFault, Full}
use Rattle.cs_calls_server.specs.Frames.{Breaks, Holds, Stopped, Stops}

-- a read failed before a frame
pub Stops-failed : {R : Type 0} (remaining : R → Option (List ℕ)) (ending : Ending) (old new : Told R) → ending ≡ InputFault → Consumes (known remaining old) (known remaining new) [] → IsTrue (has_failed new)
    → Stops remaining ending old new []
Stops-failed remaining ending old new is consumed failed =
    rw is (record { consumed = consumed; stopped = failed; none = λ _. refl; some = λ e. absurd cc })

-- two bytes of the length were read, and then three
pub Stops-two : {R : Type 0} (remaining : R → Option (List ℕ)) (ending : Ending) (x y z w : Told R) (first second : ℕ) → Consumes (known remaining x) (known remaining y) (first ∷ [])
    → Consumes (known remaining y) (known remaining z) (second ∷ []) → Consumes (known remaining z) (known remaining w) [] → Breaks remaining ending w → Stops remaining ending x w (first ∷ second ∷ [])
Stops-two remaining ending x y z w first second one two none breaks = record {
  consumed = Consumes-trans (known remaining x) (known remaining y) (known remaining w) (first ∷ []) (second ∷ []) one
      (Consumes-trans (known remaining y) (known remaining z) (known remaining w) (second ∷ []) [] two none);
  stopped = breaks.1;
  none = λ e. absurd (breaks.0 e);
  some = λ _ is. cc;
}

pub Stops-three : {R : Type 0} (remaining : R → Option (List ℕ)) (ending : Ending) (x y z w v : Told R) (first second third : ℕ) → Consumes (known remaining x) (known remaining y) (first ∷ [])
    → Consumes (known remaining y) (known remaining z) (second ∷ []) → Consumes (known remaining z) (known remaining w) (third ∷ []) → Consumes (known remaining w) (known remaining v) [] → Breaks remaining ending v
    → Stops remaining ending x v (first ∷ second ∷ third ∷ [])
Stops-three remaining ending x y z w v first second third one two three none breaks =
    let later = Stops-two remaining ending y z w v second third two three none breaks in record {
      consumed = Consumes-trans (known remaining x) (known remaining y) (known remaining v) (first ∷ []) (second ∷ third ∷ []) one later.consumed;
      stopped = breaks.1;
      none = λ e. absurd (breaks.0 e);
      some = λ _ is. cc;
    }

-- bytes more of a call were read
pub more_read : {R : Type 0} (remaining : R → Option (List ℕ)) (a b c : Told R) (old new : Body) (piece : List ℕ) (read count : ℕ)
    → (bytes : List ℕ) × Consumes (known remaining a) (known remaining b) bytes × (length bytes ≡ read) × (read ≤ count) × Holds old bytes
    → Consumes (known remaining b) (known remaining c) piece → length piece ≤ count - read → ((before : List ℕ) → Holds old before → Holds new (before ++ piece))
    → (bytes : List ℕ) × Consumes (known remaining a) (known remaining c) bytes × (length bytes ≡ read + length piece) × (read + length piece ≤ count) × Holds new bytes
more_read remaining a b c old new piece read count p consumed short added =
    let counted = p.2 in
    let within = p.3 in (
      p.0 ++ piece,
      Consumes-trans (known remaining a) (known remaining b) (known remaining c) p.0 piece p.1 consumed,
      length-append p.0 piece ∙ ap (λ n. n + length piece) counted,
      omega (arith, within, short),
      added p.0 p.4,
    )

-- only a write, or the count of calls, ends otherwise
pub not_full : {R : Type 0} (remaining : R → Option (List ℕ)) (ending : Ending) (input : Told R) → Stopped remaining ending input → ending ≢ Full
not_full remaining Done input stopped is = cc
not_full remaining Torn input stopped is = cc
not_full remaining InputFault input stopped is = cc
not_full remaining OutputFault input stopped is = absurd stopped
not_full remaining Full input stopped is = absurd stopped

pub written_is_not_full : OutputFault ≢ Full
written_is_not_full is = cc
