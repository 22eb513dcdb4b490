-- Lemmas on words that may name a slot.
use Rattle.std.proofs.Common.{◌≡◌, ◌↔◌, ℕ, List, [], ◌∷◌, Bool, true, false, refl, IsTrue}
use Rattle.std.specs.Prelude.{if◌then◌else◌}
use Rattle.std.specs.List.{AllByRecursion}
use Rattle.std.proofs.lemmas.Bool.{false_from_ne_true}
use Rattle.cs_shell_tokens.specs.Tokens.{is_word_byte}
use Rattle.cs_shell_tokens.specs.Words.{IsSlot, are_word_bytes, is_slot}

if_both : (q r : Bool) → (if q then r else false) ≡ true → (q ≡ true) × (r ≡ true)
if_both true r h = (refl, h)
if_both false r h = absurd (cc)

are_word_bytes-all : (bytes : List ℕ) → are_word_bytes bytes ≡ true → AllByRecursion (λ b. is_word_byte b ≡ true) bytes
are_word_bytes-all [] h = tt
are_word_bytes-all (b ∷ bytes) h = let k = if_both (is_word_byte b) (are_word_bytes bytes) h in (k.0, are_word_bytes-all bytes k.1)

all-are_word_bytes : (bytes : List ℕ) → AllByRecursion (λ b. is_word_byte b ≡ true) bytes → are_word_bytes bytes ≡ true
all-are_word_bytes [] h = refl
all-are_word_bytes (b ∷ bytes) h = let k = h.0 in rw k (all-are_word_bytes bytes h.1)

pub is_slot-says : (word : List ℕ) → is_slot word ≡ true → IsSlot word
is_slot-says [] h = absurd (cc)
is_slot-says (b ∷ bytes) h = (λ e. cc, are_word_bytes-all (b ∷ bytes) h)

pub says-is_slot : (word : List ℕ) → IsSlot word → is_slot word ≡ true
says-is_slot [] h = absurd (h.0 refl)
says-is_slot (b ∷ bytes) h = all-are_word_bytes (b ∷ bytes) h.1

pub slot_tested : (word : List ℕ) (test : Bool) → (IsTrue test ↔ IsSlot word) → is_slot word ≡ test
slot_tested word true h = says-is_slot word (h.0 refl)
slot_tested word false h = false_from_ne_true _ (λ t. let k : false ≡ true = h.1 (is_slot-says word t) in absurd (cc))
