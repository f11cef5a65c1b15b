use Rattle.std.proofs.Common.{subst}
use Rattle.als_quorum.specs.declared.quorum.Quorum.{Quorum}
use Rattle.als_quorum.specs.Tallies.{HadEnough, HadFew}
use Rattle.als_primary.specs.Others.{blocks_of}
use Rattle.als_primary.proofs.others.Others.ask.Goals as goal

pub returns-clause-confirms : goal.returns-clause-confirms
returns-clause-confirms g c = λ enough.
    c.note.ensures.enough (blocks_of c.args.self.now.quorum.value) c.args.self.now.count c.args.wanted.lsn.0
    (subst (λ (q : Quorum). HadEnough (blocks_of q) c.wait_for-tally.result c.args.self.now.count c.args.wanted.lsn.0) c.deref.ensures (c.wait_for-tally.ensures.tally.0 enough))

pub returns-clause-fails : goal.returns-clause-fails
returns-clause-fails g c = λ few.
    c.note.ensures.few (blocks_of c.args.self.now.quorum.value) c.args.self.now.count c.args.wanted.lsn.0
    (subst (λ (q : Quorum). HadFew (blocks_of q) c.wait_for-tally.result c.args.self.now.count c.args.wanted.lsn.0) c.deref.ensures (c.wait_for-tally.ensures.tally.1 few))
