use Rattle.std.proofs.Common.{◌≡◌, List, take, refl, sym, ◌∙◌, ap, subst, arith}
use Rattle.std.proofs.lemmas.List.{take_min}
use Rattle.als_page.specs.Page.{id_of, state_of}
use Rattle.als_page.specs.Changes.{AreNext}
use Rattle.als_record.specs.declared.change.Change.{Change}
use Rattle.als_lease.specs.Lease.{Leased}
use Rattle.als_lease.proofs.work.Work.fill.Goals as goal

pub invariant_of-self : goal.invariant_of-self
invariant_of-self c =
    let waiting = c.args.waiting.now in
    let count = c.min-count.result in
    let batch : take count c.copy_first.new.into ≡ take 64 waiting
    = c.copy_first.ensures.first ∙ ap (λ n. take n waiting) c.min-count.ensures ∙ take_min 64 waiting in
    let next : AreNext (id_of c.args.base.now) (state_of c.args.base.now).lsn (take count c.copy_first.new.into)
    = subst (λ (xs : List Change). AreNext (id_of c.args.base.now) (state_of c.args.base.now).lsn xs) (sym batch) c.requires in
    record {
      most = omega (arith, c.min-count.ensures);
      places = c.copy_first.ensures.places;
      within = omega arith;
      same_page = refl;
      folded = refl;
      next = next;
      left = next;
    }

pub returns : goal.returns
returns c =
    let waiting = c.args.waiting.now in
    let make : List Change → Leased = λ xs. record { number = c.args.number; page = id_of c.args.base.now; base = state_of c.args.base.now; batch = xs; done = 0 } in
    ap make (c.copy_first.ensures.first ∙ ap (λ n. take n waiting) c.min-count.ensures ∙ take_min 64 waiting)
