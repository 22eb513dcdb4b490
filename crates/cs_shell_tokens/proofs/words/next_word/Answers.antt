-- `words::next_word`: the word comes before the first blank after the blanks that are skipped.
use Rattle.std.proofs.Common.{◌<◌, length, ap, sym, ◌∙◌, arith, length-append}
use Rattle.cs_shell_tokens.specs.Words.{words_of, behind_word}
use Rattle.cs_shell_tokens.proofs.WordLemmas.{words_of-nil, words_of-append, behind_word-append, word_nonempty, nonempty_tested, empty_tested}
use Rattle.cs_shell_tokens.proofs.words.next_word.Goals as goal

pub returns-then-is_empty : goal.returns-then-is_empty
returns-then-is_empty c = sym c.skip_blanks-rest.ensures.words ∙ ap words_of (empty_tested _ _ c.is_empty.ensures c.if-is_empty.true) ∙ words_of-nil

pub returns : goal.returns
returns c =
    let some : 0 < length c.split_word.result.0.now = word_nonempty _ _ _ c.split_word.ensures.joined (nonempty_tested _ _ c.is_empty.ensures c.if-is_empty.false) c.skip_blanks-rest.ensures.start c.split_word.ensures.ended in
    record {
      words = sym c.skip_blanks-rest.ensures.words ∙ ap words_of c.split_word.ensures.joined ∙ words_of-append _ _ some c.split_word.ensures.word c.split_word.ensures.ended;
      behind = sym c.skip_blanks-rest.ensures.behind ∙ ap behind_word c.split_word.ensures.joined ∙ behind_word-append _ _ some c.split_word.ensures.word c.split_word.ensures.ended;
      shorter = let j = ap length c.split_word.ensures.joined ∙ length-append c.split_word.result.0.now c.split_word.result.1.now in omega (arith, c.skip_blanks-rest.ensures.shorter);
    }
