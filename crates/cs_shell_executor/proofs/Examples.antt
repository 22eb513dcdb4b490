-- Lines on slots, worked as examples. The changesets are of a table `t` of two columns, of which the first is the key.
use Rattle.std.proofs.Common.{◌≡◌, ℕ, true, false, List, [], ◌∷◌, ◌++◌, None, Some}
use Rattle.std.proofs.Common.{true≢false, codes, refl, sym, ap, ◌∙◌, inl, inr}
use Rattle.std.specs.Char.{encode_utf8}
use Rattle.std.specs.Str.{chars, is_utf8}
use Rattle.std.specs.FinMap.{empty, insert, get-empty}
use Rattle.std.proofs.lemmas.Str.{IsUtf8-from_is_utf8, is_utf8-from_IsUtf8}
use Rattle.hex.specs.Hex.{decode_pairs, encode_lower}
use Rattle.hex.specs.declared.error.FromHexError.TheVariants.{OddLength}
use Rattle.cs_wire_entries.specs.declared.entry.Change.TheVariants.{Insert}
use Rattle.cs_wire_entries.specs.declared.fault.ReadFaultKind.TheVariants.{NotTable}
use Rattle.cs_wire.proofs.Examples.{one_change, row, insert_file, delete_file, update_file, insert_is_spelled}
use Rattle.cs_wire.proofs.Examples.{insert_is_changeset, letter_is_refused}
use Rattle.cs_rows.proofs.MapLemmas.{get_put}
use Rattle.cs_shell_grammar.specs.Commands.{CommandData, Load, Hex, Invert, Concat, Dump, IsSlot}
use Rattle.cs_shell_grammar.specs.Lines.{words_of, Spelled}
use Rattle.cs_shell_replies.specs.Replies.{Reply, Silent, Text as Printed, Dumped, Refused}
use Rattle.cs_shell_executor.specs.ShellState.{SlotMap, ShellState}
use Rattle.cs_shell_executor.specs.LineAnswers.{SlotsGive, loaded, no_hex, shown, nothing_to_show, inverted, not_inverted}
use Rattle.cs_shell_executor.specs.LineAnswers.{nothing_to_invert, joined, dumped, on_slots, LineGives, answered, not_text}
use Rattle.cs_files.proofs.Examples.{insert_file_inverts, insert_file_joins_update, later_file}
use Rattle.cs_shell_replies.specs.declared.refusal.Refusal.TheVariants.{Read, EmptySlot, BadHex, LineText}

computing : Unit {0}
unfolding encode_utf8 chars is_utf8
computing = tt

-- lines

slots_are : IsSlot (codes "a") × IsSlot (codes "b") × IsSlot (codes "c")
slots_are = ((λ same. cc, (refl, tt)), (λ same. cc, (refl, tt)), (λ same. cc, (refl, tt)))

abbrev pub hex_line : List ℕ
hex_line = codes ".hex b"

abbrev pub invert_line : List ℕ
invert_line = codes ".invert a b"

abbrev concat_line : List ℕ
concat_line = codes ".concat a b c"

abbrev dump_line : List ℕ
dump_line = codes ".dump a"

pub hex_line_asks : Spelled hex_line (Hex (codes "b"))
unfolding words_of
hex_line_asks = inr (inl (slots_are.1, refl))

lines_ask :
    Spelled invert_line (Invert (codes "a") (codes "b"))
    × Spelled concat_line (Concat (codes "a") (codes "b") (codes "c"))
    × Spelled dump_line (Dump (codes "a"))
unfolding words_of
lines_ask = (
  inr (inl (slots_are.0, slots_are.1, refl)),
  inr (inl (slots_are.0, slots_are.1, slots_are.2, refl)),
  inr (inl (slots_are.0, refl)),
)

-- commands

-- where no slot has bytes, `.hex b` is refused
pub empty_slot_is_refused : SlotsGive empty (Hex (codes "b")) (Refused EmptySlot) empty
empty_slot_is_refused = nothing_to_show empty (codes "b") (get-empty _ (codes "b"))

-- and so is `.invert a b`
empty_slot_is_not_inverted : SlotsGive empty (Invert (codes "a") (codes "b")) (Refused EmptySlot) empty
empty_slot_is_not_inverted = nothing_to_invert empty (codes "a") (codes "b") (get-empty _ (codes "a"))

-- a slot of the byte 41 is not inverted: that is no table
table_is_wanted : SlotsGive (insert empty (codes "a") (0x41 ∷ [])) (Invert (codes "a") (codes "b")) (Refused (Read (record { kind = NotTable; place = 0 }))) (insert empty (codes "a") (0x41 ∷ []))
table_is_wanted =
    not_inverted _ (codes "a") (codes "b") (0x41 ∷ []) (record { kind = NotTable; place = 0 })
    (get_put empty (codes "a") (0x41 ∷ []) (codes "a")) letter_is_refused

-- one digit is no byte
one_digit_is_refused : (slots : SlotMap) → SlotsGive slots (Load (codes "b") (codes "5")) (Refused BadHex) slots
one_digit_is_refused slots = no_hex slots (codes "b") (codes "5") OddLength refl

-- no digits are no bytes
no_digits_are_loaded : (slots : SlotMap) → SlotsGive slots (Load (codes "b") []) Silent (insert slots (codes "b") [])
unfolding decode_pairs
no_digits_are_loaded slots = loaded slots (codes "b") [] [] refl

-- what lines give

-- only slots: there is no table, and no session is open
abbrev pub with_slots : SlotMap → ShellState
with_slots slots = record { tables = empty; slots = slots; session = None }

-- a line gives what the slots give to its command
pub slots_give : {slots next : SlotMap} {command : CommandData} {reply : Reply} (line : List ℕ) → is_utf8 line ≡ true
    → Spelled line command → SlotsGive slots command reply next
    → LineGives (with_slots slots) line reply (with_slots next)
slots_give {slots = slots} {next = next} {command = command} {reply = reply} line text asks gives =
    answered (with_slots slots) line command reply (with_slots next) (IsUtf8-from_is_utf8 line text) asks
    (on_slots command reply next gives)

-- the byte 0xff is no text
not_text_is_refused : (state : ShellState) → LineGives state (0xff ∷ []) (Refused LineText) state
unfolding computing
not_text_is_refused state = not_text state (0xff ∷ []) (λ text. true≢false (sym (is_utf8-from_IsUtf8 (0xff ∷ []) text)))

abbrev insert_digits : List ℕ
insert_digits = codes "5402010074001200010000000000000001030178"

abbrev pub load_line : List ℕ
load_line = codes ".load a " ++ insert_digits

-- `.load a` with digits asks for a slot of their bytes
load_line_asks : Spelled load_line (Load (codes "a") insert_digits)
unfolding words_of computing
load_line_asks = inr (inl (slots_are.0, IsUtf8-from_is_utf8 insert_digits refl, inl refl))

abbrev pub a_filled : SlotMap
a_filled = insert empty (codes "a") insert_file

abbrev pub both_filled : SlotMap
both_filled = insert a_filled (codes "b") delete_file

-- the file of the insertion is loaded
pub load_line_gives : LineGives (with_slots empty) load_line Silent (with_slots a_filled)
unfolding computing decode_pairs
load_line_gives = slots_give load_line refl load_line_asks (loaded empty (codes "a") insert_digits insert_file refl)

-- and inverted
pub invert_line_gives : LineGives (with_slots a_filled) invert_line Silent (with_slots both_filled)
unfolding computing
invert_line_gives =
    let of_a = get_put empty (codes "a") insert_file (codes "a") in
    slots_give invert_line refl lines_ask.0
    (inverted a_filled (codes "a") (codes "b") insert_file delete_file of_a insert_file_inverts)

-- and the inverse is shown
pub hex_line_gives : LineGives (with_slots both_filled) hex_line (Printed (encode_lower delete_file)) (with_slots both_filled)
unfolding computing
hex_line_gives =
    slots_give hex_line refl hex_line_asks
    (shown both_filled (codes "b") delete_file (get_put a_filled (codes "b") delete_file (codes "b")))

abbrev update_filled : SlotMap
update_filled = insert a_filled (codes "b") update_file

-- the files of the insertion and of the update are joined: the slot `c` then holds that of the insertion of (1, 'y')
concat_line_gives : LineGives (with_slots update_filled) concat_line Silent (with_slots (insert update_filled (codes "c") later_file))
unfolding computing
concat_line_gives =
    let a = codes "a" in
    let b = codes "b" in
    let of_a = get_put a_filled b update_file a ∙ get_put empty a insert_file a in
    let of_b = get_put a_filled b update_file b in
    slots_give concat_line refl lines_ask.1
    (joined update_filled a b (codes "c") insert_file update_file later_file of_a of_b insert_file_joins_update)

-- the text of the file of the insertion is printed
dump_line_gives : LineGives (with_slots a_filled) dump_line (Dumped (one_change (Insert row))) (with_slots a_filled)
unfolding computing
dump_line_gives =
    let of_a = get_put empty (codes "a") insert_file (codes "a") ∙ ap (λ bytes. Some bytes) (sym insert_is_spelled) in
    slots_give dump_line refl lines_ask.2
    (dumped a_filled (codes "a") (one_change (Insert row)) insert_is_changeset of_a)
