use Rattle.als_writing.proofs.LastWrites.{unchanged-seen}
use Rattle.als_writing.proofs.unchanged.unchanged_key_is_seen_as_then.Goals as goal

pub returns : goal.returns
returns c log more k l v below h = unchanged-seen log more k l v below h
