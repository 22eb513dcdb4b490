-- What an apply of a file makes of the tables of a store, what it prints, and how it ends.
use Rattle.std.specs.Prelude.{◌≡◌, ◌≢◌, ◌⊎◌, ℕ, List, Option, None, Result, Ok, Err}
use Rattle.std.specs.FinMap as map
use Rattle.cs_value.specs.State.{State}
use Rattle.cs_apply_conflict_kinds.specs.declared.conflict.Noop.{Noop}
use Rattle.cs_apply_engine.specs.declared.policy.Policy.{Policy}
use Rattle.cs_apply_engine.specs.declared.running.Direction.TheVariants.{Forward}
use Rattle.cs_rows.specs.declared.fault.StoreError.{StoreError}
use Rattle.cs_rows.specs.Faults.{IsResource}
use Rattle.cs_file_texts.specs.declared.told.Told.{Told}
use Rattle.cs_file_texts.specs.declared.fault.OutputFault.{OutputFault}
use Rattle.cs_files.specs.Calls.{Writes}
use Rattle.cs_folder.specs.Files.{Files, HasFile}
use Rattle.cs_store_folder.specs.Visits.{RefusesVisit, Visits}
use Rattle.cs_shell_command_line.specs.Words.{in_memory}
use Rattle.cs_shell_executor.specs.LineAnswers.{AnswersApply, ApplyGives, ByKind}
use Rattle.cs_shell_executor.specs.Works.{Gave}
use Rattle.cs_shell_replies.specs.declared.refusal.Refusal.{Refusal}
use Rattle.cs_shell_replies.specs.declared.refusal.Refusal.TheVariants as refusal
use Rattle.cs_shell_replies.specs.ErrorLines.{of_store}
use Rattle.cs_shell_replies.specs.declared.reply.Reply.{Reply as ReplyOf}
use Rattle.cs_shell_replies.specs.Replies.{Reply, answer_of, reply_of, reply_text}
use Rattle.cs_shell_commands.specs.Folders.{RefusesRead}

-- The apply of a file under a policy gave this reply, from these tables to those.
abbrev pub FileGives : Policy → Noop → List ℕ → Reply → State → State → Type 0
FileGives policy noop file reply before after = Gave None None
    (λ old. ApplyGives old (ByKind policy.on_data policy.on_notfound policy.on_conflict policy.on_constraint) noop file
    Forward) reply before after

-- What an apply returns, once its report was written or not, and the store closed or not.
abbrev pub EndsApply : Result (Unit {0}) OutputFault → Result (Unit {0}) StoreError → Result (Unit {0}) Refusal → Type 0
EndsApply (Err fault) closed done = done ≡ Err (refusal.Output fault)
EndsApply (Ok written) (Err why) done = done ≡ Err (of_store why)
EndsApply (Ok written) (Ok closed) done = done ≡ Ok tt

-- A refusal is returned, and nothing is printed. A report is printed.
abbrev pub TellsReply : {W : Type 0} → (W → Option (List ℕ)) → Result ReplyOf Refusal → Result (Unit {0}) StoreError
    → Result (Unit {0}) Refusal → Told W → Told W → Type 0
TellsReply contents (Err why) closed done before after = (done ≡ Err why) × (after ≡ before)
TellsReply contents (Ok reply) closed done before after = (written : Result (Unit {0}) OutputFault)
    × Writes contents written before after (reply_text (reply_of reply)) × EndsApply written closed done

-- The bytes are applied to a new store in memory, or no store is made: memory runs out, or the database refuses.
abbrev pub AppliesInMemory : {W : Type 0} → (W → Option (List ℕ)) → Policy → Noop → List ℕ → Told W → Told W
    → Result (Unit {0}) Refusal → Type 0
AppliesInMemory contents policy noop bytes before after done =
    ((reply : Result ReplyOf Refusal) × (tables : State)
    × FileGives policy noop bytes (answer_of reply) map.empty tables
    × TellsReply contents reply (Ok tt) done before after)
    ⊎ ((error : StoreError) × IsResource error × (done ≡ Err (of_store error)) × (after ≡ before))

-- The bytes are applied to the store in a file of the folder, which is opened for that and closed, or is refused.
abbrev pub AppliesInFolder : {W : Type 0} → (W → Option (List ℕ)) → Policy → Noop → Option Files → Option Files
    → List ℕ → List ℕ → Told W → Told W → Result (Unit {0}) Refusal → Type 0
AppliesInFolder contents policy noop old new bytes store before after done =
    ((reply : Result ReplyOf Refusal) × (closed : Result (Unit {0}) StoreError) × AnswersApply (answer_of reply)
    × Visits (FileGives policy noop bytes (answer_of reply)) old store new closed
    × TellsReply contents reply closed done before after)
    ⊎ ((error : StoreError) × RefusesVisit old store error × (done ≡ Err (of_store error)) × (new ≡ old)
    × (after ≡ before))

-- What `apply` does with the bytes of its file.
abbrev pub AppliesBytes : {W : Type 0} → (W → Option (List ℕ)) → Policy → Noop → Option Files → Option Files → List ℕ
    → List ℕ → Told W → Told W → Result (Unit {0}) Refusal → Type 0
AppliesBytes contents policy noop old new bytes store before after done =
    ((store ≡ in_memory) × AppliesInMemory contents policy noop bytes before after done × (new ≡ old))
    ⊎ ((store ≢ in_memory) × AppliesInFolder contents policy noop old new bytes store before after done)

-- What `apply` does: first it reads its file.
abbrev pub Applies : {W : Type 0} → (W → Option (List ℕ)) → Policy → Noop → Option Files → Option Files → List ℕ
    → List ℕ → Told W → Told W → Result (Unit {0}) Refusal → Type 0
Applies contents policy noop old new file store before after done =
    ((why : Refusal) × (done ≡ Err why) × RefusesRead old file why × (new ≡ old) × (after ≡ before))
    ⊎ ((bytes : List ℕ) × HasFile old file bytes
    × AppliesBytes contents policy noop old new bytes store before after done)
