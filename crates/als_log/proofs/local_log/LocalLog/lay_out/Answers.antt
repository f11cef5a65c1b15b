use Rattle.std.proofs.Common.{◌≡◌, ◌∙◌, ℕ, List, ap, length, subst}
use Rattle.als_record.specs.LogText.{header_bytes}
use Rattle.als_record.proofs.HeaderLaws.{length-header_bytes}
use Rattle.als_log.specs.Held.{IsStored}
use Rattle.als_log.proofs.Keeping.{held-new}
use Rattle.als_log.proofs.local_log.LocalLog.lay_out.Goals as goal

pub lay_out-requires-clause-front : goal.lay_out-requires-clause-front
lay_out-requires-clause-front g c =
    ap length (c.as_slice.ensures.value ∙ c.new.invariant.2) ∙ length-header_bytes c.new.inside.pages

pub invariant_of-result : goal.invariant_of-result
invariant_of-result g c =
    let bytes : c.new.inside.text.items ≡ header_bytes c.new.inside.pages = c.new.invariant.2 in
    let stored = subst (λ (xs : List ℕ). IsStored (g.D.BlockDisk.slot c.lay_out.new.device) xs 16 16) (c.as_slice.ensures.value ∙ bytes) c.in-Ok.ensures.ok in
    rw (c.new-3.ensures, c.lay_out.ensures.count) (held-new c.new.inside.pages (g.D.BlockDisk.block_count c.args.disk) c.new.inside.text.items c.new-2.result (g.D.BlockDisk.slot c.lay_out.new.device) c.new-2.ensures.even c.new-2.ensures.odd c.requires.blocks.0 c.requires.blocks.1 bytes stored c.in-Ok.ensures.settled)
