use Rattle.std.proofs.Common.{rules, nat_eq, refl, arith, ◌≡◌, Some, false, sym, ap, ap₂, subst, ◌∙◌, true≢false}
use Rattle.als_disk.specs.Slot.{written, FailsToWrite}
use Rattle.als_page.specs.Block.{block_of}
use Rattle.als_page.specs.Page.{id_of}
use Rattle.als_frames.specs.Frames.{Paged, frame_of, slots_from}
use Rattle.als_frames.specs.Outcomes.{Writes, WriteFails}
use Rattle.std.specs.Map.{lookup}
use Rattle.als_frames.specs.Table.{written_frame}
use Rattle.als_frames.proofs.LeaseCounts.{count_kept}
use Rattle.als_frames.proofs.LoadLaws.{paged}
use Rattle.als_frames.proofs.ChangeLaws.{sets, changes_slot}
use Rattle.als_frames.proofs.frames.Frames.write_out.Goals as goal

pub invariant_of-self : goal.invariant_of-self
invariant_of-self g c =
    let s = c.self.inside in
    let frame = c.in-Some.frame.now in
    let resident : lookup (nat_eq c.args.page) s.frames.entries ≡ Some frame = sym c.in-Some.ensures in
    let numbered = c.self.invariant.kept.numbered c.args.page frame resident in
    let puts = c.note_written.ensures.puts frame resident in
    record {
      kept = search rules;
      zoned = c.note_written.ensures.zoned;
      has_room = omega (arith, c.self.invariant.has_room, c.note_written.ensures.room);
      counted = c.self.invariant.counted ∙ sym (count_kept s.pages c.args.page s.frames.entries c.note_written.new.frames.entries frame (written_frame frame) resident puts refl);
    }

pub returns-in-Ok-clause-ok : goal.returns-in-Ok-clause-ok
returns-in-Ok-clause-ok g c =
    let s = c.self.inside in
    let disk = c.write_page.new.disk in
    let slot = g.D.BlockDisk.slot s.disk in
    let frame = c.in-Some.frame.now in
    let page = c.page.result.now in
    let old : Paged = paged s.pages s.most s.frames.entries (slots_from 0 s.pages slot) (g.D.BlockDisk.block_count s.disk) (g.D.BlockDisk.failures s.disk) (g.D.BlockDisk.attempts s.disk) s.sure in
    let new : Paged = paged s.pages s.most c.note_written.new.frames.entries (slots_from 0 s.pages (g.D.BlockDisk.slot disk)) (g.D.BlockDisk.block_count disk) (g.D.BlockDisk.failures disk) (g.D.BlockDisk.attempts disk) s.sure in
    let resident : frame_of old c.args.page ≡ Some frame = sym c.in-Some.ensures in
    let numbered = c.self.invariant.kept.numbered c.args.page frame resident in
    let is : id_of page ≡ c.args.page = c.page.ensures.number ∙ numbered.0 in
    let block = block_of c.args.page frame.content in
    let out : g.D.BlockDisk.slot disk (id_of page) ≡ written (slot (id_of page)) block
    = c.in-Ok.ensures.ok ∙ ap (written (slot (id_of page))) (ap₂ block_of is c.page.ensures.state) in
    let done : Writes old new c.args.page = record {
      f = frame;
      due = record { resident = resident; due = λ e. true≢false (sym (c.is_written.ensures.1 e) ∙ c.if-is_written.false) };
      sets = sets old new c.args.page (record frame { written = frame.content.lsn }) (c.note_written.ensures.puts frame resident) c.note_written.ensures.len;
      slots = changes_slot s.pages c.args.page (id_of page) slot (g.D.BlockDisk.slot disk) (λ before after. after ≡ written before block) is numbered.1 out c.in-Ok.ensures.others;
      same = λ j. record new { blocks = c.in-Ok.ensures.count j; failures = c.in-Ok.ensures.failures j; attempts = c.in-Ok.ensures.attempts j };
    } in
    rw (← c.self.view_is) done

pub returns-in-Err-clause-err : goal.returns-in-Err-clause-err
returns-in-Err-clause-err g c =
    let s = c.self.inside in
    let disk = c.write_page.new.disk in
    let slot = g.D.BlockDisk.slot s.disk in
    let frame = c.in-Some.frame.now in
    let page = c.page.result.now in
    let old : Paged = paged s.pages s.most s.frames.entries (slots_from 0 s.pages slot) (g.D.BlockDisk.block_count s.disk) (g.D.BlockDisk.failures s.disk) (g.D.BlockDisk.attempts s.disk) s.sure in
    let new : Paged = paged s.pages s.most s.frames.entries (slots_from 0 s.pages (g.D.BlockDisk.slot disk)) (g.D.BlockDisk.block_count disk) (g.D.BlockDisk.failures disk) (g.D.BlockDisk.attempts disk) false in
    let resident : frame_of old c.args.page ≡ Some frame = sym c.in-Some.ensures in
    let numbered = c.self.invariant.kept.numbered c.args.page frame resident in
    let is : id_of page ≡ c.args.page = c.page.ensures.number ∙ numbered.0 in
    let block = block_of c.args.page frame.content in
    let tried : FailsToWrite (slot (id_of page)) (g.D.BlockDisk.slot disk (id_of page)) block
    = subst (FailsToWrite (slot (id_of page)) (g.D.BlockDisk.slot disk (id_of page))) (ap₂ block_of is c.page.ensures.state) c.in-Err.ensures.err in
    let done : WriteFails old new c.args.page = record {
      f = frame;
      due = record { resident = resident; due = λ e. true≢false (sym (c.is_written.ensures.1 e) ∙ c.if-is_written.false) };
      slots = changes_slot s.pages c.args.page (id_of page) slot (g.D.BlockDisk.slot disk) (λ before after. FailsToWrite before after block) is numbered.1 tried c.in-Err.ensures.others;
      failed = c.in-Err.ensures.failures;
      same = λ j. record new { blocks = c.in-Err.ensures.count j; attempts = c.in-Err.ensures.attempts j };
    } in
    rw (← c.self.view_is) done
