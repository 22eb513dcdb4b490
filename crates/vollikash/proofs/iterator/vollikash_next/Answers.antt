-- `iterator::vollikash_next`: its clauses are those of `next_change`.
use Rattle.std.proofs.Common.{Ok, ap}
use Rattle.vollikash.proofs.iterator.vollikash_next.Goals as goal

pub returns-in-Ok-Some-clause-next : goal.returns-in-Ok-Some-clause-next
returns-in-Ok-Some-clause-next c = λ all left is_file so ok. rw c.in-Ok-Some.field-0-is at (c.in-Ok-Some.ensures.next all left is_file so)

pub returns-in-Ok-None-clause-done : goal.returns-in-Ok-None-clause-done
returns-in-Ok-None-clause-done c = λ all left is_file so done. c.in-Ok-None.ensures.done all left is_file so (ap Ok c.in-Ok-None.field-0-is)

pub returns-in-Err-clause-no_fault : goal.returns-in-Err-clause-no_fault
returns-in-Err-clause-no_fault c = λ all left is_file so. absurd (c.in-Err.ensures.no_fault all left is_file so)

pub returns-in-Ok-Some-clause-reads : goal.returns-in-Ok-Some-clause-reads
returns-in-Ok-Some-clause-reads c = λ groups so ok. rw c.in-Ok-Some.field-0-is at (c.in-Ok-Some.ensures.reads groups so)

pub returns-in-Err-clause-stops : goal.returns-in-Err-clause-stops
returns-in-Err-clause-stops c = λ groups so no_step. c.in-Err.ensures.stops groups so

pub returns-in-Ok-None-clause-unfinished : goal.returns-in-Ok-None-clause-unfinished
returns-in-Ok-None-clause-unfinished c = λ groups found so unreadable done. c.in-Ok-None.ensures.unfinished groups found so unreadable (ap Ok c.in-Ok-None.field-0-is)

pub returns-in-Ok-Some-clause-empty : goal.returns-in-Ok-Some-clause-empty
returns-in-Ok-Some-clause-empty c = λ header end is stands none. absurd (c.in-Ok-Some.ensures.empty header end is stands none)

pub returns-in-Ok-None-clause-empty : goal.returns-in-Ok-None-clause-empty
returns-in-Ok-None-clause-empty c = λ header end is stands none. absurd (c.in-Ok-None.ensures.empty header end is stands none)
