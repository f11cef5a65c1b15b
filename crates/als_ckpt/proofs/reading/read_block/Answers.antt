use Rattle.std.proofs.Common.{◌≡◌, ◌+◌, ◌++◌, ℕ, List, length, sym, ap, subst, ◌∙◌}
use Rattle.std.specs.Prelude.{Contains}
use Rattle.als_disk.specs.Slot.{Slot, only}
use Rattle.als_ckpt.specs.Reading.{StandIn}
use Rattle.als_ckpt.proofs.PartLaws.{settled_is, StandIn-push}
use Rattle.als_ckpt.proofs.reading.read_block.Goals as goal

pub returns-clause-ok : goal.returns-clause-ok
returns-clause-ok g c slots first count here settled at stands =
    let block = c.read.new.into in
    let read = c.in_ok-read.ensures.ok in
    let there : Contains (slots c.args.i).readable block = subst (λ (s : Slot). Contains s.readable block) (sym here) read in
    let candidate = g.met.D.BlockDisk.gives_candidates c.args.disk.now in
    let whole : length block ≡ 512 = (g.met.D.BlockDisk.holds_blocks c.args.disk.now c.args.i block (candidate.candidates c.args.i block read)).len in
    let is : slots (first + count) ≡ only block = ap slots at ∙ settled_is (slots c.args.i) block settled there in
    let pushed = c.in_ok-extend_from_slice.ensures.items ∙ ap (λ (xs : List ℕ). c.args.bytes.now.items ++ xs) c.as_slice.ensures in
    subst (StandIn slots first (count + 1)) (sym pushed) (StandIn-push slots first count c.args.bytes.now.items block stands whole is)
