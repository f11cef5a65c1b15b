use Rattle.std.proofs.Common.{◌<◌, ◌^◌, arith}
use Rattle.als_record.specs.LogText.{end_of}
use Rattle.als_store.proofs.TailOwnLaws.{tells-owed}
use Rattle.als_store.proofs.store.Store.next_of_tail.Goals as goal

pub returns : goal.returns
returns g c =
    let s = c.self.inside in
    let facts = c.end.ensures.facts in
    let small : end_of s.log.log < 2 ^ 64 = omega (arith, facts.fits, facts.few) in
    rw (← c.self.view_is) (tells-owed s.log.log c.first_owed.result (c.first_owed.ensures s.pages s.log.log c.self.invariant.judged c.self.invariant.is_log.valid c.end.ensures.end small))
