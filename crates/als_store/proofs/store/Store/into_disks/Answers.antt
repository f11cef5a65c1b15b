use Rattle.std.proofs.Common.{ℕ, ◌∷◌, subst, ◌∙◌, arith}
use Rattle.als_record.specs.LogText.{log_text}
use Rattle.als_log.specs.Texts.{AllHaveText}
use Rattle.als_ckpt.specs.Control.{AreBlocks}
use Rattle.als_store.proofs.KeptLaws.{kept}
use Rattle.als_store.proofs.LeavingLaws.{left_node}
use Rattle.als_store.proofs.store.Store.into_disks.Goals as goal

pub returns-clause-stopped : goal.returns-clause-stopped
returns-clause-stopped g c =
    let s = c.self.inside in
    let h = c.self.invariant in
    let log = g.D.BlockDisk.slot c.into_disk.result in
    let control = g.D.BlockDisk.slot c.into_disk-2.result in
    let pages = g.D.BlockDisk.slot c.into_disk-3.result in
    rw (← c.self.view_is)
    (record {
      kept = kept s.pages s.count s.log s.control s.pool.pool s.validator s.broken s.origin
          s.recovering h c.into_disk.ensures.facts c.into_disk-2.ensures.facts log control
          c.into_disk.ensures.kept c.into_disk-2.ensures.candidates;
      images = λ was page content lt has.
          c.into_disk-3.ensures.images s.log.log s.control.synced.mark.0 (h.warm was).is_pool page
          content (omega (arith, lt, h.paged.count)) has;
      leaves = λ was left_log left_control left_pages log_left control_left pages_left.
          left_node s.pages s.count s.log s.control s.pool.pool s.validator s.broken s.origin
          s.recovering h c.into_disk-2.ensures.facts was c.stopped_pages_hold_images.ensures
          c.rows_make_a_checkpoint.ensures.none log control pages left_log left_control left_pages
          c.into_disk.ensures.kept c.into_disk-2.ensures.leaves c.into_disk-3.ensures.slots
          log_left control_left pages_left;
      written = subst (λ (n : ℕ). AllHaveText (λ b. (log b).readable) (log_text n s.log.log)
          s.log.written) h.log_pages c.into_disk.ensures.stored;
      before = c.into_disk.ensures.before;
      beyond = c.into_disk.ensures.beyond;
      states = λ running. subst (λ (n : ℕ). AreBlocks n (s.control.synced ∷ s.control.since)
          (control 0).candidates)
          (h.marks.pages ∙ h.log_pages) (c.into_disk-2.ensures.all (h.sure running));
      pages = λ page lt. c.into_disk-3.ensures.slots page (omega (arith, lt, h.paged.count));
      log_blocks = c.into_disk.ensures.count;
      control_blocks = omega (arith, c.into_disk-2.ensures.facts.room, c.into_disk-2.ensures.count);
      page_blocks = c.into_disk-3.ensures.count;
      page_room = omega (arith, h.paged.count, c.into_disk-3.ensures.room);
    })

pub returns-clause-some_blocks : goal.returns-clause-some_blocks
returns-clause-some_blocks g c = rw (← c.self.view_is) c.into_disk.ensures.facts.some

pub returns-clause-few_blocks : goal.returns-clause-few_blocks
returns-clause-few_blocks g c = rw (← c.self.view_is) c.into_disk.ensures.facts.few
