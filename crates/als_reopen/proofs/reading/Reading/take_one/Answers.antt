use Rattle.std.proofs.Common.{◌≡◌, ap, inl, inr}
use Rattle.als_reopen.specs.declared.taken.Taken.{Taken}
use Rattle.als_reopen.proofs.Steps.{can_take, taken_on}
use Rattle.als_reopen.proofs.reading.Reading.take_one.Goals as goal

pub next_to-requires : goal.next_to-requires
next_to-requires g c =
    let s = c.args.self.now in
    record { can = can_take c.args.checkpoint.now s.scan s.taken.pool.pool s.taken.count c.change_can_be_read.ensures c.requires.reading }

pub returns-clause-reading : goal.returns-clause-reading
returns-clause-reading g c =
    let s = c.args.self.now in
    let taken = c.next_to.new.taker in
    let frames : taken.pool.pool.frames ≡ s.taken.pool.pool.frames = elim c.next_to.ensures.keeps [ inl e ↦ ap (λ (t : Taken g.row.D.Denot). t.pool.pool.frames) e | inr k ↦ k.frames ] in
    taken_on c.args.checkpoint.now s.scan c.next_to.new.self s.taken.pool.pool taken.pool.pool s.taken.count taken.count s.taken.waiting.queued taken.waiting.queued (taken ≡ s.taken) c.in_ok-more.more c.requires.reading c.next_to.ensures.facts frames
    (λ e. (ap (λ (t : Taken g.row.D.Denot). t.pool.pool) e, ap (λ (t : Taken g.row.D.Denot). t.count) e)) c.in_ok-more.ensures.ok
