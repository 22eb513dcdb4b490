-- `files::close_copy`: the database file has the tables that the files hold.
use Rattle.cs_calls_memory.proofs.files.close_copy.Goals as goal

pub returns-in-Ok-clause-left : goal.returns-in-Ok-clause-left
returns-in-Ok-clause-left c held holds =
    c.close_file.ensures.left held (λ is_open. (c.in-Ok.ensures.found.opens.at_rest, c.in-Ok.ensures.found.shows held holds))
