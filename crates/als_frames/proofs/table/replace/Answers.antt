use Rattle.std.proofs.Common.{◌≡◌, ℕ, List, ◌∷◌, ◌++◌, ◌+◌, [], length, sym, subst, ap, ◌∙◌, arith}
use Rattle.std.specs.List.{swap_remove}
use Rattle.als_frames.specs.Frames.{Framed}
use Rattle.als_frames.specs.Zones.{AreZoned}
use Rattle.als_frames.proofs.TableLists.{zoned_replaced, removed_is}
use Rattle.als_frames.proofs.table.replace.Goals as goal

pub returns-clause-zoned : goal.returns-clause-zoned
returns-clause-zoned c =
    let old = c.args.frames.now.entries in
    let e = c.swap_remove_index.ensures in
    let gone = removed_is c.swap_remove_index.result old c.swap_remove_index.new.self.entries c.args.victim (c.requires.free.page, c.requires.free.f) e.entry e.entries c.requires.free.here in
    let len : length (swap_remove old c.args.victim (c.requires.free.page, c.requires.free.f)) + 1 ≡ length old = omega (arith, ap length gone.0, gone.1 e.len) in
    subst (λ (es : List (ℕ × Framed)). AreZoned c.args.zones es) (sym (c.add.ensures.last ∙ ap (λ (es : List (ℕ × Framed)). es ++ (c.args.page, c.args.frame) ∷ []) gone.0))
    (zoned_replaced c.args.zones c.args.page c.args.frame c.requires.fresh old c.args.victim (c.requires.free.page, c.requires.free.f) c.requires.zoned c.requires.free len)
