use Rattle.std.proofs.Common.{rules, ◌≡◌, ℕ, None, nat_eq, refl, sym, ap, subst, ◌∙◌}
use Rattle.std.specs.Map.{lookup}
use Rattle.als_page.specs.Page.{id_of}
use Rattle.als_frames.specs.Frames.{Framed, Holding, frame_of}
use Rattle.als_frames.specs.Table.{IsFresh}
use Rattle.als_frames.proofs.LeaseCounts.{count_replaces}
use Rattle.als_frames.proofs.frames.Frames.put_in.Goals as goal

pub invariant_of-self : goal.invariant_of-self
invariant_of-self g c =
    let s = c.self.inside in
    let page = c.id-page.result in
    let absent : lookup (nat_eq page) s.frames.entries ≡ None
    = ap (λ (n : ℕ). lookup (nat_eq n) s.frames.entries) c.id-page.ensures ∙ subst (λ (v : Holding). frame_of v.paged (id_of c.args.found) ≡ None) (sym c.self.view_is) c.requires.absent in
    let fresh : IsFresh c.of-frame.result = subst (λ (f : Framed). IsFresh f) (sym c.of-frame.ensures) (refl, (refl, refl)) in
    record {
      kept = search rules;
      zoned = c.put.ensures.zoned;
      has_room = search rules;
      counted = c.self.invariant.counted ∙ sym (count_replaces s.pages page s.frames.entries c.put.new.frames.entries c.of-frame.result absent fresh c.put.ensures.replaces);
    }
