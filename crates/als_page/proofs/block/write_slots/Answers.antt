use Rattle.std.proofs.Common.{◌≡◌, ◌*◌, ◌+◌, ◌-◌, length, ◌∙◌}
use Rattle.als_page.proofs.SlotsLaws.{written-more, fits-more}
use Rattle.als_page.proofs.block.write_slots.Goals as goal

pub loop-i-preserved : goal.loop-i-preserved
loop-i-preserved c =
    let i = c.loop-i.i in
    let image = c.index-images-i.result in
    let room : length c.loop-i.into ≡ 32 * length c.args.images.now = c.loop-i.auto.into ∙ c.requires.room in
    record {
      written = written-more c.args.images.now i (32 * i + 32 - 32 * i) image c.loop-i.into c.write_slot.new.into c.loop-i-test.true c.index-images-i.is c.write_slot.ensures.fits
          room c.loop-i.invariant.written c.write_slot.ensures.written;
      fits = fits-more c.args.images.now i image c.loop-i-test.true c.index-images-i.is c.loop-i.invariant.fits c.write_slot.ensures.fits;
    }
