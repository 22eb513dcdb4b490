-- What holds of the bytes of all answers.
use Rattle.std.specs.Prelude.{◌≡◌, Ok}
use Rattle.cs_calls_answers.specs.declared.answer.Answer.{Answer}
use Rattle.cs_calls_answers.specs.Spelling.{IsAnswer, answer_bytes}
use Rattle.cs_calls_answers.specs.Reading.{answer_in}

-- the bytes of an answer are read as it, so no two answers have the same bytes
abbrev pub AnswerBytes : Type 0
AnswerBytes = (a : Answer) → IsAnswer a → answer_in (answer_bytes a) ≡ Ok a
