use Rattle.als_tests_store.proofs.store.holds.Goals as goal

pub reserve-requires-clause-fits : goal.reserve-requires-clause-fits
reserve-requires-clause-fits g c = c.commit_at-logged.ensures.fits c.in-Ok.store.stored.pages

pub reserve-requires-then-is_err-clause-fits : goal.reserve-requires-then-is_err-clause-fits
reserve-requires-then-is_err-clause-fits g c =
    c.commit_at-logged.ensures.fits c.reserve.new.self.stored.pages
