use Rattle.als_store.proofs.StoredParts.{spare_made}
use Rattle.als_record.specs.Shown.{shown}
use Rattle.als_store.proofs.store.holding.make_room.Goals as goal

pub returns-clause-ok : goal.returns-clause-ok
returns-clause-ok g c =
    spare_made c.reserve_bytes.new.log c.reserve_judgement.new.validator
    c.reserve_change.new.pool.room (shown c.args.logged.now) c.args.len c.requires.len
    c.in_ok-reserve_bytes.ensures.ok c.in_ok-reserve_judgement.ensures.ok
    c.in_ok-reserve_change.ensures.ok
