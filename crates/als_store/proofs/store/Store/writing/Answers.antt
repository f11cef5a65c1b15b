use Rattle.std.proofs.Common.{◌≡◌, ◌+◌, ◌*◌, ◌≤◌, ◌<◌, ◌^◌, refl, arith}
use Rattle.als_record.specs.LogText.{end_of}
use Rattle.als_record.specs.Tail.{reserve_of}
use Rattle.als_store.proofs.WritingLaws.{whole-fits, rows-counted}
use Rattle.als_store.proofs.store.Store.writing.Goals as goal

pub free_behind-free-requires-clause-fit : goal.free_behind-free-requires-clause-fit
free_behind-free-requires-clause-fit g c =
    let s = c.self.inside in
    let facts = c.end-end.ensures.facts in
    let short : end_of s.log.log < 2 ^ 62 = omega (arith, facts.fits, facts.few) in
    let e : c.end-end.result.0 ≡ end_of s.log.log = c.end-end.ensures.end in
    let r : c.reserve_bytes-reserve.result ≡ reserve_of s.log.log = c.reserve_bytes-reserve.ensures s.pages s.log.log c.self.invariant.judged short in
    let b : c.blocks-2.result ≡ s.log.blocks = c.blocks-2.ensures in
    let f : end_of s.log.log + reserve_of s.log.log ≤ 512 * s.log.blocks = whole-fits s.log.blocks s.control.synced.mark.0 s.log.log c.self.invariant.fit (c.self.invariant.marks.fronts s.control.synced (0, omega arith, refl)) in
    omega (arith, e, r, b, f)

pub returns : goal.returns
returns g c =
    let s = c.self.inside in
    let facts = c.end-end.ensures.facts in
    let short : end_of s.log.log < 2 ^ 62 = omega (arith, facts.fits, facts.few) in
    let e : c.end-end.result.0 ≡ end_of s.log.log = c.end-end.ensures.end in
    let r : c.reserve_bytes-reserve.result ≡ reserve_of s.log.log = c.reserve_bytes-reserve.ensures s.pages s.log.log c.self.invariant.judged short in
    let b : c.blocks-2.result ≡ s.log.blocks = c.blocks-2.ensures in
    let f : c.end-end.result.0 + c.reserve_bytes-reserve.result + c.free_behind-free.result ≡ 512 * c.blocks-2.result = c.free_behind-free.ensures in
    let free : end_of s.log.log + reserve_of s.log.log + c.free_behind-free.result ≡ 512 * s.log.blocks = omega (arith, e, r, b, f) in
    rw (← c.self.view_is) (record {
      greatest = c.greatest.ensures s.pages s.log.log c.self.invariant.judged;
      unended = rows-counted s.log.log c.rows.result.now (c.rows.ensures.rows s.pages s.log.log c.self.invariant.judged);
      free = free;
      last_commit = c.self.invariant.held_is.last;
    })
