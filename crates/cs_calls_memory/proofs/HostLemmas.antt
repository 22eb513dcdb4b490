-- What a host in memory answers.
use Rattle.std.proofs.Common.{◌≡◌, ◌⊎◌, inl, inr, refl, ℕ, List, Vec, Global, Result, Ok, Err, IfOk, OnErr}
use Rattle.sqlite.specs.Files.{over_files}
use Rattle.cs_value.specs.State.{State}
use Rattle.cs_value.specs.declared.refusal.NoMemory.{NoMemory}
use Rattle.cs_rows.specs.declared.fault.StoreError.{StoreError}
use Rattle.cs_rows.specs.Faults.{IsResource}
use Rattle.cs_calls_answers.specs.declared.answer.Answer.TheVariants.{Refused}
use Rattle.cs_calls_answers.specs.Spelling.{answer_bytes}
use Rattle.cs_calls_conversions.specs.Refusals.{of_error}
use Rattle.cs_calls_server.specs.Serving.{no_memory}
use Rattle.cs_calls.specs.Steps.{Gives}
use Rattle.cs_calls_memory.specs.declared.closed.ClosedStore.{ClosedStore}
use Rattle.cs_calls_memory.specs.declared.host.MemoryHost.{MemoryHost}
use Rattle.cs_calls_memory.specs.declared.host.MemoryHost.TheVariants.{Closed}
use Rattle.cs_calls_memory.specs.Hosting.{Answers, Lasts, MemoryService, Settles, Wakes}

-- the service answers
module _ (old new : MemoryHost) (call : List ℕ) (service after : MemoryService) (wakes : Wakes old service) (settles : Settles after new) where
  carries : (sent : List ℕ) → Gives over_files service call sent after → Answers old call sent new
  carries sent gives = inl (record { service = service; after = after; wakes = wakes; gives = gives; settles = settles })

  pub carries_ok : (result : Result (Vec ℕ Global) NoMemory) → IfOk result (λ sent. Gives over_files service call sent.items after) → IfOk result (λ sent. Answers old call sent.items new)
  carries_ok (Ok sent) gives = carries sent.items gives
  carries_ok (Err e) gives = tt

  pub carries_err : (result : Result (Vec ℕ Global) NoMemory) → OnErr result (Gives over_files service call no_memory after) → OnErr result (Answers old call no_memory new)
  carries_err (Ok sent) gives = tt
  carries_err (Err e) gives = carries no_memory gives

-- the store is not opened
module _ (old : MemoryHost) (closed : ClosedStore) (call : List ℕ) (error : StoreError) (was : Closed closed ≡ old) (named : (held : State) → Lasts old held → IsResource error) where
  stays : (sent : List ℕ) → (sent ≡ answer_bytes (Refused (of_error error))) ⊎ (sent ≡ no_memory) → Answers old call sent (Closed closed)
  stays sent is = inr (record { closed = closed; was = was; same = was; error = error; named = named; is_sent = is })

  pub stays_ok : (result : Result (Vec ℕ Global) NoMemory) → IfOk result (λ sent. (sent.items ≡ answer_bytes (Refused (of_error error))) ⊎ (sent.items ≡ no_memory)) → IfOk result (λ sent. Answers old call sent.items (Closed closed))
  stays_ok (Ok sent) is = stays sent.items is
  stays_ok (Err e) is = tt

  pub stays_err : (result : Result (Vec ℕ Global) NoMemory) → OnErr result (Answers old call no_memory (Closed closed))
  stays_err (Ok sent) = tt
  stays_err (Err e) = stays no_memory (inr refl)
