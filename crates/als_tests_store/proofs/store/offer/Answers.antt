use Rattle.als_tests_store.proofs.store.offer.Goals as goal

pub admit-requires-clause-fits : goal.admit-requires-clause-fits
admit-requires-clause-fits g c = rw c.view.ensures (c.requires.fits c.args.store.now.stored.pages)
