use Rattle.std.proofs.Common.{ℕ, List, sym, subst}
use Rattle.als_callers.specs.declared.block.Block.{Block}
use Rattle.als_primary.specs.Others.{blocks_of}
use Rattle.als_primary.specs.Telling.{OwesTo}
use Rattle.als_primary.proofs.running.stand_as.Goals as goal

pub lead_as-led-requires : goal.lead_as-led-requires
lead_as-led-requires g c = record {
  told = c.in_ok-desk.ensures.told;
  waiting = c.in_ok-desk.ensures.waiting;
  owed = subst (λ (k : ℕ). OwesTo g.E.Events.alone g.E.Events.machine c.args.engine.now (blocks_of c.in_ok-others.others.quorum.value) k g.O.Oath.may_tell) (sym c.in_ok-others.ensures.count)
      (subst (λ (bs : List Block). OwesTo g.E.Events.alone g.E.Events.machine c.args.engine.now bs c.args.serving.sync g.O.Oath.may_tell) (sym c.in_ok-others.ensures.whose) c.requires.owed);
}
