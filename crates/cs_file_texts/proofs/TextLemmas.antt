-- Lemmas on the literals and lines of texts.
use Rattle.std.proofs.Common.{◌≡◌, ℕ, ◌==◌, ◌/◌, ◌%◌, slice_index, Bool, true, false, List, [], ◌∷◌, ◌++◌, map, take, drop, Option, codes, append_assoc, append-nil, take-append-drop, refl, sym, ap, ◌∙◌, if◌then◌else◌}
use Rattle.std.specs.List.{flat_map}
use Rattle.hex.specs.Hex.{encode_with, encode_lower}
use Rattle.cs_value.specs.declared.value.OwnedValue.{OwnedValue}
use Rattle.cs_value.specs.declared.value.OwnedField.{OwnedField}
use Rattle.cs_value.specs.declared.value.OwnedField.TheVariants.{Defined}
use Rattle.cs_value.specs.Quoting.{doubled, quoted}
use Rattle.cs_wire_entries.specs.declared.entry.Change.{Change}
use Rattle.cs_wire_entries.specs.declared.entry.Change.TheVariants.{Insert, Delete, Update}
use Rattle.cs_wire.specs.Entry.{before_image}
use Rattle.cs_wire.specs.Items.{new_record}
use Rattle.cs_file_texts.specs.Texts.{literal, separated, field_text, flag_text, entry_text, statement, assignment, assignments, by_index, conditions}
use Rattle.cs_file_texts.specs.Pieces.{change_text, record_text, action_text, where_text}

-- a byte is twice there or once, whatever follows
pub doubled_bytes : (quote : ℕ) (text : List ℕ) → doubled quote text ≡ flat_map (λ byte. doubled quote (byte ∷ [])) text
unfolding doubled
doubled_bytes quote [] = refl
doubled_bytes quote (b ∷ text) = elim (b == quote) as (λ v. (if v then quote ∷ quote ∷ doubled quote text else b ∷ doubled quote text)
    ≡ (if v then quote ∷ quote ∷ [] else b ∷ []) ++ flat_map (λ byte. doubled quote (byte ∷ [])) text) [
      | true ↦ ap (λ l. quote ∷ quote ∷ l) (doubled_bytes quote text)
      | false ↦ ap (λ l. b ∷ l) (doubled_bytes quote text)
    ]

pub encode_with-append : (t a b : List ℕ) → encode_with t (a ++ b) ≡ encode_with t a ++ encode_with t b
unfolding encode_with
encode_with-append t [] b = refl
encode_with-append t (x ∷ a) b = ap (λ l. slice_index t (x / 16) ∷ slice_index t (x % 16) ∷ l) (encode_with-append t a b)

-- the digits of a row of bytes are those of its parts
pub encode_lower-append : (a b : List ℕ) → encode_lower (a ++ b) ≡ encode_lower a ++ encode_lower b
encode_lower-append a b = encode_with-append _ a b

-- the fields of a row are its values
pub row_texts : (row : List OwnedValue) → map field_text (map Defined row) ≡ map literal row
unfolding field_text
row_texts [] = refl
row_texts (value ∷ row) = ap (λ l. literal value ∷ l) (row_texts row)

-- the digits of bytes that are cut in three
pub digits_at : (bytes front rest chunk after : List ℕ) (n : ℕ) → bytes ≡ front ++ rest → chunk ≡ take n rest → after ≡ drop n rest
    → (bytes ≡ (front ++ chunk) ++ after) × (encode_lower bytes ≡ encode_lower front ++ (encode_lower chunk ++ encode_lower after))
digits_at bytes front rest chunk after n is first second =
    let cut : rest ≡ chunk ++ after = sym (take-append-drop n rest) ∙ ap (λ l. l ++ drop n rest) (sym first) ∙ ap (λ l. chunk ++ l) (sym second) in
    let parts : bytes ≡ front ++ (chunk ++ after) = is ∙ ap (λ l. front ++ l) cut in (
      parts ∙ sym (append_assoc front chunk after),
      ap encode_lower parts ∙ encode_lower-append front (chunk ++ after) ∙ ap (λ l. encode_lower front ++ l) (encode_lower-append chunk after),
    )

-- the line of an entry, by the records before and after the change
line_parts : (indirect : Bool) (change : Change) → entry_text indirect change
    ≡ (change_text change ++ (flag_text indirect ++ [])) ++ (record_text (codes " old ") (before_image change) ++ (record_text (codes " new ") (new_record change) ++ codes "\n"))
unfolding entry_text
line_parts indirect (Insert row) = simp (append_assoc, append-nil)
line_parts indirect (Delete row) = simp (append_assoc, append-nil)
line_parts indirect (Update old new) = simp (append_assoc, append-nil)

-- the same as it is gathered
pub entry_parts : (indirect : Bool) (change : Change) (word flag : List ℕ) (old new : Option (List OwnedField)) → word ≡ change_text change → flag ≡ flag_text indirect
    → old ≡ before_image change → new ≡ new_record change
    → entry_text indirect change ≡ (word ++ (flag ++ [])) ++ (record_text (codes " old ") old ++ (record_text (codes " new ") new ++ codes "\n"))
entry_parts indirect change word flag old new word_is flag_is old_is new_is =
    line_parts indirect change ∙ ap (λ w. (w ++ (flag_text indirect ++ [])) ++ (record_text (codes " old ") (before_image change) ++ (record_text (codes " new ") (new_record change) ++ codes "\n"))) (sym word_is)
    ∙ ap (λ f. (word ++ (f ++ [])) ++ (record_text (codes " old ") (before_image change) ++ (record_text (codes " new ") (new_record change) ++ codes "\n"))) (sym flag_is)
    ∙ ap (λ o. (word ++ (flag ++ [])) ++ (record_text (codes " old ") o ++ (record_text (codes " new ") (new_record change) ++ codes "\n"))) (sym old_is)
    ∙ ap (λ n. (word ++ (flag ++ [])) ++ (record_text (codes " old ") old ++ (record_text (codes " new ") n ++ codes "\n"))) (sym new_is)

regroup : (a b c d : List ℕ) → ((a ++ b) ++ c) ++ d ≡ a ++ ((b ++ c) ++ d)
regroup a b c d = ap (λ l. l ++ d) (append_assoc a b c) ∙ append_assoc a (b ++ c) d

-- the statement of a change, by the same
pub statement_parts : (name : List ℕ) (change : Change)
    → statement name change ≡ action_text name (before_image change) (new_record change) ++ (where_text (before_image change) ++ codes ";\n")
unfolding statement
statement_parts name (Insert row) =
    ap (λ texts. codes "INSERT INTO " ++ quoted 34 name ++ codes " VALUES(" ++ separated (codes ", ") texts ++ codes ");\n") (sym (row_texts row)) ∙ simp append_assoc
statement_parts name (Delete row) = regroup (codes "DELETE FROM " ++ quoted 34 name) (codes " WHERE ") (conditions (map Defined row)) (codes ";\n")
statement_parts name (Update old new) =
    regroup (codes "UPDATE " ++ quoted 34 name ++ codes " SET " ++ assignments old (by_index assignment 0 new)) (codes " WHERE ") (conditions old) (codes ";\n")
