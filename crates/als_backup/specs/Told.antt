-- A session that copies a log.
use Rattle.std.specs.Prelude.{◌≡◌, ℕ, List, length, Option}
use Rattle.std.specs.Io.KnownBytes.{Consumes, Appends}
use Rattle.als_wire.specs.Frames.{resume_bytes, epochs_bytes}
use Rattle.als_ship.specs.Vouching.{AnswersAll}
use Rattle.als_lookback.specs.Judged.{Judged, position_of}
use Rattle.als_backup.specs.Texts.{TakesFrames}

-- It asked for what is behind the text, read the source's history, and took frames of its epoch, which it answered and acknowledged nothing with.
pub record FollowsOn (theirs own : List ℕ) (old new : Judged) (before behind told more_told out more_out : Option (List ℕ)) : Type 0 where
  pub between : Option (List ℕ)
  pub asked : Option (List ℕ)
  pub asks : Appends told asked (resume_bytes (position_of old) old.pages theirs)
  pub hears : Consumes before between (epochs_bytes own)
  pub frames : TakesFrames (length own) old new between behind out more_out
  pub answers : AnswersAll 16 asked more_told
