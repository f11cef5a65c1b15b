use Rattle.std.proofs.Common.{ℕ, Option, sym, ap, subst}
use Rattle.std.specs.Prelude.{is_some}
use Rattle.als_view.specs.Reading.{ReadsFront}
use Rattle.als_store.specs.Stored.{acknowledged}
use Rattle.als_engine.specs.Readers.{count_in}
use Rattle.als_engine.proofs.engine.Engine.read.Goals as goal

pub returns-in-Ok-clause-reads : goal.returns-in-Ok-clause-reads
returns-in-Ok-clause-reads g c =
    let s = c.self.inside in
    let now = c.in-Ok.ensures.ok s.store.stored.log (acknowledged s.store.stored)
    c.end.ensures.log.valid c.self.invariant.seen.shows in
    rw (← c.self.view_is) (
      subst (λ (n : ℕ). ReadsFront s.store.stored.log (acknowledged s.store.stored) n c.args.key
          c.in-Ok.answer) c.self.invariant.seen.pages now.0,
      ap (λ (n : Option ℕ). is_some n) now.1,
      sym (ap (λ (n : Option ℕ). count_in n) now.1),
    )
