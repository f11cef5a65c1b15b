use Rattle.als_primary.specs.Others.{blocks_of}
use Rattle.als_primary.proofs.Telling.{owes_from}
use Rattle.als_primary.proofs.Waiting.{none_wait}
use Rattle.als_primary.proofs.running.lead_as.Goals as goal

pub lead-requires : goal.lead-requires
lead-requires g c = record {
  fresh = none_wait _ _ _ c.requires.waiting;
  owed = owes_from c.args.watching.now (λ w. blocks_of w.others.quorum.value) (λ w. w.others.count) (λ w. w.others.answers) g.E.Events.alone g.E.Events.machine c.args.engine.now g.O.Oath.may_tell c.requires.owed;
}
