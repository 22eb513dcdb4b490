-- `tables::JoinedTables::push`: what `to_header` requires.
use Rattle.cs_changegroup.proofs.tables.JoinedTables.push.Goals as goal

pub to_header-requires : goal.to_header-requires
to_header-requires c = c.requires
