use Rattle.std.proofs.Common.{rules, sym, ◌∙◌, arith}
use Rattle.als_frames.specs.Frames.{Paged, slots_from}
use Rattle.als_frames.specs.Outcomes.{Syncs}
use Rattle.als_frames.proofs.LeaseCounts.{count_synced}
use Rattle.als_frames.proofs.LoadLaws.{paged}
use Rattle.als_frames.proofs.ChangeLaws.{keeps_slot}
use Rattle.als_frames.proofs.frames.Frames.sync_all.Goals as goal

pub invariant_of-self-2 : goal.invariant_of-self-2
invariant_of-self-2 g c =
    let s = c.self.inside in
    record {
      kept = search rules;
      zoned = c.note_synced.ensures.zoned;
      has_room = omega (arith, c.self.invariant.has_room, c.note_synced.ensures.room);
      counted = c.self.invariant.counted ∙ sym (count_synced s.pages s.frames.entries c.note_synced.new.frames.entries c.note_synced.ensures.frames);
    }

pub returns-clause-ok : goal.returns-clause-ok
returns-clause-ok g c =
    let s = c.self.inside in
    let disk = c.sync.new.self in
    let slot = g.D.BlockDisk.slot s.disk in
    let old : Paged = paged s.pages s.most s.frames.entries (slots_from 0 s.pages slot) (g.D.BlockDisk.block_count s.disk) (g.D.BlockDisk.failures s.disk) (g.D.BlockDisk.attempts s.disk) s.sure in
    let new : Paged = paged s.pages s.most c.note_synced.new.frames.entries (slots_from 0 s.pages (g.D.BlockDisk.slot disk)) (g.D.BlockDisk.block_count disk) (g.D.BlockDisk.failures disk) (g.D.BlockDisk.attempts disk) s.sure in
    let done : Syncs old new = record {
      frames = c.note_synced.ensures.frames;
      used = c.note_synced.ensures.len;
      slots = λ page lt. keeps_slot s.pages page slot (g.D.BlockDisk.slot disk) lt (c.in_ok-sync.ensures.ok page);
      same = λ j. record new { blocks = c.in_ok-sync.ensures.count j; failures = c.in_ok-sync.ensures.failures j; attempts = c.in_ok-sync.ensures.attempts j };
    } in
    rw (← c.self.view_is) done
