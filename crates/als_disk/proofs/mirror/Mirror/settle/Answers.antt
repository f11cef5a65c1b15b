use Rattle.als_disk.specs.Trail.{KeepsReadable-last}
use Rattle.als_disk.proofs.MirrorLaws.{contents-sync, HoldNewest-fewer}
use Rattle.als_disk.proofs.mirror.Mirror.settle.Goals as goal

pub invariant_of-self-clause-newest : goal.invariant_of-self-clause-newest
invariant_of-self-clause-newest c =
    let m = c.args.self.now in
    HoldNewest-fewer m.first c.first_kept-first.result m.pieces.items c.release.new.pieces.items m.trail.value c.note_sync.new.trail.value
    c.first_kept-first.ensures c.release.ensures.kept c.note_sync.ensures.newest m.newest

pub invariant_of-self-clause-contents : goal.invariant_of-self-clause-contents
invariant_of-self-clause-contents c = contents-sync c.args.self.now.trail.value c.note_sync.new.trail.value c.note_sync.ensures.slot c.args.self.now.contents

pub returns-clause-kept : goal.returns-clause-kept
returns-clause-kept c = λ k. KeepsReadable-last c.args.self.now.trail.value k _ (c.note_sync.ensures.slot k)
