use Rattle.als_writing.proofs.Ahead.{room_updated, reserve_whole, room-front}
use Rattle.als_writing.proofs.room.transaction_fits.Goals as goal

pub returns-clause-fronts : goal.returns-clause-fronts
returns-clause-fronts c pages log t w rest n l m = room-front pages log t l.valid w rest m n

pub returns-clause-met : goal.returns-clause-met
returns-clause-met c pages log t w rest l m = room_updated pages log t l.valid w rest m

pub returns-clause-given_back : goal.returns-clause-given_back
returns-clause-given_back c pages log t w rest l m = reserve_whole pages log t l.valid w rest m
