-- Scripts of lines on slots, and what is printed for them, worked as examples. The changesets are of a table `t` of two
-- columns, of which the first is the key.
use Rattle.std.proofs.Common.{◌≡◌, ℕ, false, List, [], ◌∷◌, Option, Some}
use Rattle.std.proofs.Common.{◌==◌, codes, refl, arith}
use Rattle.std.specs.List.{list_any}
use Rattle.std.specs.Char.{encode_utf8}
use Rattle.std.specs.Str.{chars, is_utf8}
use Rattle.std.specs.FinMap.{empty}
use Rattle.std.proofs.lemmas.Bool.{or_parts, eqb-false}
use Rattle.std.specs.Fmt.{digits}
use Rattle.std.proofs.KnownBytes.{Appends-nil}
use Rattle.hex.specs.Hex.{encode_with, encode_lower}
use Rattle.cs_wire_entries.specs.declared.entry.Change.TheVariants.{Insert}
use Rattle.cs_wire_entries.specs.declared.fault.ReadFaultKind.TheVariants.{EmptyGroup}
use Rattle.cs_wire.proofs.Examples.{one_change, row, delete_file}
use Rattle.cs_shell_replies.specs.ErrorLines.{refusal_text}
use Rattle.cs_shell_replies.specs.Replies.{Reply, Silent, Text as Printed, Dumped, Refused, reply_text, replies_text}
use Rattle.cs_shell_executor.specs.ShellState.{ShellState}
use Rattle.cs_shell_script.specs.StoreRuns.{beginning}
use Rattle.cs_shell_executor.specs.LineAnswers.{LineGives}
use Rattle.cs_shell_script.specs.Runs.{HasNoFeed, AnswersAll, RunsInput}
use Rattle.cs_value.specs.Quoting.{doubled}
use Rattle.cs_files.specs.Texts.{literal, separated, field_text, header_text, entry_text, group_text}
use Rattle.cs_shell_script.specs.declared.script.Status.TheVariants.{Done}
use Rattle.cs_file_texts.specs.declared.told.Told.{Told}
use Rattle.cs_shell_replies.specs.declared.refusal.Refusal.TheVariants.{Read, Syntax, EmptySlot}
use Rattle.cs_shell_executor.proofs.Examples.{hex_line, hex_line_asks, invert_line, load_line, a_filled, both_filled, with_slots}
use Rattle.cs_shell_executor.proofs.Examples.{slots_give, empty_slot_is_refused, load_line_gives, invert_line_gives, hex_line_gives}

computing : Unit {0}
unfolding encode_utf8 chars is_utf8
computing = tt

printing : Unit {0}
unfolding reply_text digits doubled literal separated field_text header_text entry_text group_text
printing = tt

-- printed texts

-- the reply to a line that names an empty slot, the lines of a header of 6 bytes without a change after it and of a
-- line that is malformed at its 24th byte, and the text of the insertion of (1, 'x')
texts_are_printed :
    (reply_text (Refused EmptySlot) ≡ codes "error 62 EmptySlot\n")
    × (refusal_text (Read (record { kind = EmptyGroup; place = 6 })) ≡ codes "error 9 EmptyGroup 6\n")
    × (refusal_text (Syntax (record { column = 24 })) ≡ codes "error 61 Syntax 24\n")
    × (reply_text (Dumped (one_change (Insert row))) ≡ codes "table 't' columns 2 flags 1,0\ninsert 0 new 1,'x'\n")
unfolding reply_text refusal_text digits printing
texts_are_printed = (refl, refl, refl, refl)

-- scripts

-- a line in which no byte is a line feed
no_feed_in : (line : List ℕ) → list_any (λ b. b == 10) line ≡ false → HasNoFeed line
no_feed_in [] h = tt
no_feed_in (b ∷ line) h = let parts = or_parts (b == 10) (list_any (λ b. b == 10) line) h in (eqb-false b 10 parts.0, no_feed_in line parts.1)

abbrev three_replies : List Reply
three_replies = Silent ∷ Silent ∷ Printed (encode_lower delete_file) ∷ []

-- the file of the insertion is loaded, inverted and shown
script_inverts : AnswersAll LineGives (with_slots empty) (codes ".load a 5402010074001200010000000000000001030178\n.invert a b\n.hex b\n")
    three_replies (with_slots both_filled)
script_inverts = record {
  lines = load_line ∷ invert_line ∷ hex_line ∷ [];
  last = [];
  splits = record {
    spelled = refl;
    no_feed = (no_feed_in load_line refl, (no_feed_in invert_line refl, (no_feed_in hex_line refl, tt)));
    no_feed_last = tt;
  };
  given = (with_slots a_filled, load_line_gives, (with_slots both_filled, invert_line_gives, (with_slots both_filled, hex_line_gives, refl)));
}

-- that of the deletion is printed
inverse_is_printed : replies_text three_replies ≡ codes "5402010074000900010000000000000001030178\n"
unfolding reply_text encode_with
inverse_is_printed = refl

-- a script of one line, which ends without a line feed and names an empty slot
script_is_refused : AnswersAll LineGives (with_slots empty) hex_line (Refused EmptySlot ∷ []) (with_slots empty)
unfolding computing
script_is_refused = record {
  lines = [];
  last = hex_line;
  splits = record {
    spelled = refl;
    no_feed = tt;
    no_feed_last = no_feed_in hex_line refl;
  };
  given = (with_slots empty, slots_give hex_line refl hex_line_asks empty_slot_is_refused, refl);
}

-- an empty script is answered with nothing
empty_script_answers : (state : ShellState) → AnswersAll LineGives state [] [] state
empty_script_answers state = record {
  lines = [];
  last = [];
  splits = record { spelled = refl; no_feed = tt; no_feed_last = tt };
  given = refl;
}

-- where the input has no bytes left, nothing is written and the exit status is 0
empty_input_ends : {R W : Type 0} (contents : W → Option (List ℕ)) (input : Told R) (out : Told W)
    → RunsInput (λ reader. Some []) contents LineGives (beginning empty) 0 input input out out
empty_input_ends contents input out = record {
  status = Done;
  final = beginning empty;
  exit_is = refl;
  runs = record {
    text = [];
    consumed = refl;
    bounded = omega arith;
    at_end = refl;
    ended = record {
      short = omega arith;
      replies = [];
      answers = empty_script_answers (beginning empty);
      written = Appends-nil _;
      refused = refl;
    };
    flagged = tt;
  };
}
