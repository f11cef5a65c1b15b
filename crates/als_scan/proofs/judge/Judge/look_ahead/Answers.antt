use Rattle.std.proofs.Common.{◌∙◌}
use Rattle.als_log.specs.History.{records_in}
use Rattle.als_scan.proofs.judge.Judge.look_ahead.Goals as goal

pub invariant_of-self-2 : goal.invariant_of-self-2
invariant_of-self-2 c =
    let i = c.self.invariant in
    record { valid = i.valid; known = c.look_ahead.ensures.kept c.self.inside.receiver.pages (records_in c.self.inside.history) i.known; judging = c.look_ahead.ensures.judging ∙ i.judging; wanted = i.wanted; unrefused = i.unrefused }
