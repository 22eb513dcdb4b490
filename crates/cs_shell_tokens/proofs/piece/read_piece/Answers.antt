-- `piece::read_piece`: what it ensures.
use Rattle.cs_shell_tokens.specs.Reading.{token_of}
use Rattle.cs_shell_tokens.proofs.PartLemmas.{piece_refused, piece_taken, word_piece, integer_piece}
use Rattle.cs_shell_tokens.proofs.piece.read_piece.Goals as goal

pub returns-in_default : goal.returns-in_default
returns-in_default c = piece_refused c.args.line.now c.split_piece.result.0.now c.split_piece.ensures.front c.in_default.ensures.cases.0

pub returns-then-not-begins_number : goal.returns-then-not-begins_number
returns-then-not-begins_number c =
    let text = c.in-Ok.ensures.cases in
    piece_taken c.args.line.now c.split_piece.result.0.now c.split_piece.result.1.now (token_of c.in_ok-read_word.field-0) c.split_piece.ensures.front c.split_piece.ensures.back text.1
    (word_piece c.split_piece.result.0.now c.in-Ok.text.now (token_of c.in_ok-read_word.field-0) c.begins_number.result c.begins_number.ensures c.if-not-begins_number.true text.0 c.in_ok-read_word.ensures)

pub returns-in-Some : goal.returns-in-Some
returns-in-Some c =
    let text = c.in-Ok.ensures.cases in
    piece_taken c.args.line.now c.split_piece.result.0.now c.split_piece.result.1.now (token_of c.in-Some.token) c.split_piece.ensures.front c.split_piece.ensures.back text.1
    (integer_piece c.split_piece.result.0.now c.in-Ok.text.now (token_of c.in-Some.token) c.begins_number.result c.begins_number.ensures c.if-not-begins_number.false text.0 c.in-Some.ensures)
