-- `piece::split_piece`: what it ensures.
use Rattle.cs_shell_tokens.proofs.PartLemmas.{piece_nil, behind_piece_nil, piece_cut, behind_piece_cut}
use Rattle.cs_shell_tokens.proofs.piece.split_piece.Goals as goal

pub returns-in-empty-clause-front : goal.returns-in-empty-clause-front
returns-in-empty-clause-front c = piece_nil c.args.line.now c.in-empty.len_below

pub returns-in-empty-clause-back : goal.returns-in-empty-clause-back
returns-in-empty-clause-back c = behind_piece_nil c.args.line.now c.in-empty.len_below

pub returns-in-len1-up-clause-front : goal.returns-in-len1-up-clause-front
returns-in-len1-up-clause-front c =
    piece_cut c.args.line.now c.split_word.result.0.now c.split_word.result.1.now c.split_at.result.0.now c.in-len1-up.len_at_least c.split_word.ensures.joined c.split_word.ensures.word c.split_word.ensures.ended
    c.split_at.ensures.front

pub returns-in-len1-up-clause-back : goal.returns-in-len1-up-clause-back
returns-in-len1-up-clause-back c =
    behind_piece_cut c.args.line.now c.split_word.result.0.now c.split_word.result.1.now c.split_at.result.1.now c.in-len1-up.len_at_least c.split_word.ensures.joined c.split_word.ensures.word c.split_word.ensures.ended
    c.split_at.ensures.back
