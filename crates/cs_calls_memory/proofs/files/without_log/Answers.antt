-- `files::without_log`: the database file has the tables.
use Rattle.cs_calls_memory.proofs.files.without_log.Goals as goal

pub returns-in-Ok-clause-kept : goal.returns-in-Ok-clause-kept
returns-in-Ok-clause-kept c held holds = rw c.new-log.ensures.empty (c.in-Ok.ensures.left held holds)
