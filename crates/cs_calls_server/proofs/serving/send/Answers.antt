-- `serving::send`: what it ensures for a refusal.
use Rattle.cs_calls_parts.specs.Spelling.{option_bytes}
use Rattle.cs_calls_answers.specs.Spelling.{number_of, parts_of, refused_bytes}
use Rattle.cs_calls_server.proofs.serving.send.Goals as goal

pub returns-in-TooLong : goal.returns-in-TooLong
unfolding number_of parts_of refused_bytes option_bytes
returns-in-TooLong g c = rw c.in-TooLong.is c.write_frame-in-TooLong.ensures

pub returns-in-NoMemory : goal.returns-in-NoMemory
unfolding number_of parts_of refused_bytes option_bytes
returns-in-NoMemory g c = rw c.in-NoMemory.is c.write_frame-in-NoMemory.ensures
