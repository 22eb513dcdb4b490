-- Lemmas on what words ask for.
use Rattle.std.proofs.Common.{◌≡◌, ◌⊎◌, ◌∙◌, inl, inr, ◌<◌, true, List, [], ◌∷◌, length, Some, None, refl, sym, ap, codes, arith}
use Rattle.clap.specs.Words.{Row, Text, Kinds, IsAmong, first_of, fault_of, is_simple, matches_of, takes}
use Rattle.clap.specs.Faults.{is_simple_and_free}
use Rattle.clap.specs.declared.error.kind.ErrorKind.{ErrorKind}
use Rattle.clap.specs.declared.error.kind.ErrorKind.TheVariants as kind
use Rattle.clap.proofs.OnLiterals.{clap_on_literals}
use Rattle.cs_apply_conflict_kinds.specs.declared.conflict.Noop.{Noop}
use Rattle.cs_apply_engine.specs.declared.policy.Policy.{Policy}
use Rattle.cs_shell_command_line.specs.declared.fault.WordsFault.{WordsFault}
use Rattle.cs_shell_command_line.specs.declared.fault.WordsFault.TheVariants as fault
use Rattle.cs_shell_command_line.specs.Words.{Asked, AskNothing, Refuses, arguments_in, asked, asked_by, asked_where, command_app, command_in, fault_of_kind, noop_in, policy_in}

pub is_simple_app : is_simple command_app ≡ true
unfolding clap_on_literals
is_simple_app = refl

pub is_free_app : is_simple_and_free command_app ≡ true
unfolding clap_on_literals
is_free_app = refl

-- a policy, a file, and the name of a command are there
pub asked_with : (rows : List Row) (policy : Policy) (noop : Noop) (file name : Text) (arguments : List Text) → policy_in rows ≡ Some policy → noop_in rows ≡ noop → first_of (codes "FILE") rows ≡ Some file
    → first_of (codes "COMMAND") rows ≡ Some name → arguments_in rows ≡ arguments → asked_by rows ≡ command_in policy noop file name arguments
asked_with rows policy noop file name arguments p i f n a = rw (p, i, f, n, a) refl

-- more than the name is there
pub asked_long : (words : List Text) → 1 < length words → asked words ≡ asked_where (fault_of command_app words) (matches_of command_app words)
asked_long [] long = absurd (omega (arith, long))
asked_long (name ∷ []) long = absurd (omega (arith, long))
asked_long (name ∷ word ∷ words) long = refl

none_asked : (faults : Kinds) (rows : List Row) (e : ErrorKind) → IsAmong e faults → asked_where faults rows ≡ None
none_asked [] rows e among = absurd among
none_asked (k ∷ faults) rows e among = refl

-- an error of clap, as it is printed
pub refuses_kind : (words : List Text) (e : ErrorKind) → 1 < length words → (takes command_app words ≡ true → e ≡ kind.OutOfMemory)
    → (e ≡ kind.OutOfMemory) ⊎ IsAmong e (fault_of command_app words) → Refuses words (fault_of_kind e)
refuses_kind words e long passes (inl memory) = rw memory tt
refuses_kind words e long passes (inr among) = at (fault_of_kind e) refl
  where
    nothing : (why : WordsFault) → fault_of_kind e ≡ why → (fault.NoMemory ≡ why → ⊥) → AskNothing words
    nothing why is other = record {
      asked = asked_long words long ∙ none_asked (fault_of command_app words) (matches_of command_app words) e among;
      taken = λ taken. absurd (other (sym (ap fault_of_kind (passes taken)) ∙ is));
    }

    at : (why : WordsFault) → fault_of_kind e ≡ why → Refuses words why
    at fault.NoMemory is = tt
    at fault.Help is = (nothing fault.Help is (λ same. cc), (e, among, is))
    at fault.Usage is = (nothing fault.Usage is (λ same. cc), inr (e, among, is))

-- clap finds no fault, but the words fit no command
pub refuses_misfit : (words : List Text) → 1 < length words → fault_of command_app words ≡ [] → asked_by (matches_of command_app words) ≡ None → Refuses words fault.Usage
refuses_misfit words long none misfit = (
  record {
    asked = asked_long words long ∙ ap (λ faults. asked_where faults (matches_of command_app words)) none ∙ misfit;
    taken = λ taken. misfit;
  },
  inl none,
)

pub asked_fit : (words : List Text) (what : Asked) → 1 < length words → fault_of command_app words ≡ [] → asked_by (matches_of command_app words) ≡ Some what → asked words ≡ Some what
asked_fit words what long none fit = asked_long words long ∙ ap (λ faults. asked_where faults (matches_of command_app words)) none ∙ fit
