-- What is read of a conflict, and of one with a choice, is spelled so, and what is spelled so is read again.
use Rattle.std.proofs.Common.{◌≡◌, ℕ, List, ◌++◌, length, Option, Some, None, Ok, refl, ap, ◌∙◌, append_assoc}
use Rattle.std.specs.Prelude.{IfSome, ◌≤◌}
use Rattle.cs_value.specs.declared.TheConstants.{MAX_CONTENT_LEN}
use Rattle.cs_value.specs.declared.value.OwnedValue.{OwnedValue}
use Rattle.cs_value.specs.Value.{AreBytes}
use Rattle.cs_value.specs.Spelling.{counted}
use Rattle.cs_apply_conflict_kinds.specs.declared.conflict.Choice.{Choice}
use Rattle.cs_apply_conflict_kinds.specs.declared.conflict.Kind.{Kind}
use Rattle.cs_calls_parts.specs.declared.conflicts.ChosenConflict.{ChosenConflict}
use Rattle.cs_calls_parts.specs.declared.conflicts.FoundConflict.{FoundConflict}
use Rattle.cs_calls_parts.specs.Spelling.{ChosenCounts, FoundCounts, IsChosen, IsFound, IsList, IsRowList, IsText, IsWide, choice_bytes, chosen_bytes, found_bytes, kind_bytes, option_bytes, row_bytes, wide_bytes}
use Rattle.cs_calls_parts.specs.Reading.{◌>>=◌, choice_of, chosen_of, found_of, kind_of, option_of, row_of, text_of, wide_of}
use Rattle.cs_calls_parts.proofs.Steps.{given, Takes, Takes-then}
use Rattle.cs_calls_parts.proofs.Codecs.{IsCodec, Always, step, codec_text, codec_row, codec_option, codec_wide, codec_kind, codec_choice}

-- ---- texts after one another

regrouped3 : (a b c rest : List ℕ) → (a ++ b ++ c) ++ rest ≡ a ++ (b ++ (c ++ rest))
regrouped3 a b c rest = append_assoc (a ++ b) c rest ∙ append_assoc a b (c ++ rest)

pub regrouped4 : (a b c d rest : List ℕ) → (a ++ b ++ c ++ d) ++ rest ≡ a ++ (b ++ (c ++ (d ++ rest)))
regrouped4 a b c d rest = append_assoc (a ++ b ++ c) d rest ∙ regrouped3 a b c (d ++ rest)

pub regrouped5 : (a b c d e rest : List ℕ) → (a ++ b ++ c ++ d ++ e) ++ rest ≡ a ++ (b ++ (c ++ (d ++ (e ++ rest))))
regrouped5 a b c d e rest = append_assoc (a ++ b ++ c ++ d) e rest ∙ regrouped4 a b c d (e ++ rest)

-- ---- conflicts

pub codec_row_option : IsCodec (λ o. IfSome o IsRowList) (option_bytes row_bytes) (option_of row_of)
codec_row_option = codec_option IsRowList row_bytes row_of codec_row

abbrev found_with : ℕ → Kind → List ℕ → List OwnedValue → Option (List OwnedValue) → FoundConflict
found_with index kind table key current = record { index = index; kind = kind; table = table; key = key; current = current }

found_takes : (bytes : List ℕ) (found : FoundConflict) (rest : List ℕ) → AreBytes bytes → found_of bytes ≡ Ok (found, rest) → Takes bytes (found_bytes found) rest × IsFound found
unfolding found_of found_bytes
found_takes bytes found rest fits e =
    let a = step IsWide wide_bytes wide_of codec_wide (λ a. kind_of a.1 >>= λ b. text_of b.1 >>= λ c. row_of c.1 >>= λ d. option_of row_of d.1 >>= λ f. Ok (found_with a.0 b.0 c.0 d.0 f.0, f.1)) bytes (found, rest) fits e in
    let b = step Always kind_bytes kind_of codec_kind (λ b. text_of b.1 >>= λ c. row_of c.1 >>= λ d. option_of row_of d.1 >>= λ f. Ok (found_with a.value b.0 c.0 d.0 f.0, f.1)) a.rest (found, rest) a.takes.are_bytes a.goes_on in
    let c = step IsText counted text_of codec_text (λ c. row_of c.1 >>= λ d. option_of row_of d.1 >>= λ f. Ok (found_with a.value b.value c.0 d.0 f.0, f.1)) b.rest (found, rest) b.takes.are_bytes b.goes_on in
    let d = step IsRowList row_bytes row_of codec_row (λ d. option_of row_of d.1 >>= λ f. Ok (found_with a.value b.value c.value d.0 f.0, f.1)) c.rest (found, rest) c.takes.are_bytes c.goes_on in
    let f = step (λ o. IfSome o IsRowList) (option_bytes row_bytes) (option_of row_of) codec_row_option (λ f. Ok (found_with a.value b.value c.value d.value f.0, f.1)) d.rest (found, rest) d.takes.are_bytes d.goes_on in
    let ab = Takes-then bytes (wide_bytes a.value) a.rest (kind_bytes b.value) b.rest a.takes b.takes in
    let abc = Takes-then bytes (wide_bytes a.value ++ kind_bytes b.value) b.rest (counted c.value) c.rest ab c.takes in
    let abcd = Takes-then bytes (wide_bytes a.value ++ kind_bytes b.value ++ counted c.value) c.rest (row_bytes d.value) d.rest abc d.takes in
    let whole = Takes-then bytes (wide_bytes a.value ++ kind_bytes b.value ++ counted c.value ++ row_bytes d.value) d.rest (option_bytes row_bytes f.value) f.rest abcd f.takes in
    given (λ (p : FoundConflict × List ℕ). Takes bytes (found_bytes p.0) p.1 × IsFound p.0) (found_with a.value b.value c.value d.value f.value, f.rest) (found, rest) f.goes_on (whole, record { index = a.is; table = c.is; key = d.is; current = f.is })

found_again : (found : FoundConflict) (rest : List ℕ) → IsFound found → found_of (found_bytes found ++ rest) ≡ Ok (found, rest)
unfolding found_of found_bytes
found_again found rest is =
    let a = wide_bytes found.index in
    let b = kind_bytes found.kind in
    let c = counted found.table in
    let d = row_bytes found.key in
    let f = option_bytes row_bytes found.current in
    ap found_of (regrouped5 a b c d f rest) ∙ rw (codec_wide.again found.index (b ++ (c ++ (d ++ (f ++ rest)))) is.index, codec_kind.again found.kind (c ++ (d ++ (f ++ rest))) tt, codec_text.again found.table (d ++ (f ++ rest)) is.table, codec_row.again found.key (f ++ rest) is.key, codec_row_option.again found.current rest is.current) refl

pub codec_found : IsCodec IsFound found_bytes found_of
codec_found = record { takes = found_takes; again = found_again }

-- ---- and the choices for them

abbrev chosen_with : FoundConflict → Choice → ChosenConflict
chosen_with conflict choice = record { conflict = conflict; choice = choice }

chosen_takes : (bytes : List ℕ) (chosen : ChosenConflict) (rest : List ℕ) → AreBytes bytes → chosen_of bytes ≡ Ok (chosen, rest) → Takes bytes (chosen_bytes chosen) rest × IsChosen chosen
unfolding chosen_of chosen_bytes
chosen_takes bytes chosen rest fits e =
    let a = step IsFound found_bytes found_of codec_found (λ a. choice_of a.1 >>= λ b. Ok (chosen_with a.0 b.0, b.1)) bytes (chosen, rest) fits e in
    let b = step Always choice_bytes choice_of codec_choice (λ b. Ok (chosen_with a.value b.0, b.1)) a.rest (chosen, rest) a.takes.are_bytes a.goes_on in
    given (λ (p : ChosenConflict × List ℕ). Takes bytes (chosen_bytes p.0) p.1 × IsChosen p.0) (chosen_with a.value b.value, b.rest) (chosen, rest) b.goes_on
    (Takes-then bytes (found_bytes a.value) a.rest (choice_bytes b.value) b.rest a.takes b.takes, a.is)

chosen_again : (chosen : ChosenConflict) (rest : List ℕ) → IsChosen chosen → chosen_of (chosen_bytes chosen ++ rest) ≡ Ok (chosen, rest)
unfolding chosen_of chosen_bytes
chosen_again chosen rest is =
    let a = found_bytes chosen.conflict in
    let b = choice_bytes chosen.choice in
    ap chosen_of (append_assoc a b rest) ∙ rw (codec_found.again chosen.conflict (b ++ rest) is, codec_choice.again chosen.choice rest tt) refl

pub codec_chosen : IsCodec IsChosen chosen_bytes chosen_of
codec_chosen = record { takes = chosen_takes; again = chosen_again }

-- ---- counts

pub few_option : (o : Option (List OwnedValue)) → IfSome o IsRowList → IfSome o (λ values. length values ≤ MAX_CONTENT_LEN)
few_option None is = tt
few_option (Some values) is = is.few

pub found_counts : (found : FoundConflict) → IsFound found → FoundCounts found
found_counts found is = record { key = is.key.few; current = few_option found.current is.current }

pub chosen_counts : (chosen : ChosenConflict) → IsChosen chosen → ChosenCounts chosen
chosen_counts chosen is = found_counts chosen.conflict is
