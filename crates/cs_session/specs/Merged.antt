-- What a session is that has merged the notes of another one.
use Rattle.cs_session_notes.specs.FirstImages.{Notes}

-- what it noted before, and all that it notes with those of the other one
pub record MergedNotes : Type 0 where
  pub kept : Notes
  pub all : Notes
