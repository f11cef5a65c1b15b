-- Ranks of one history, reckoned by hand.
use Rattle.std.proofs.Common.{◌≡◌, [], ◌∷◌, refl}
use Rattle.als_compare.specs.Ranks.{rank_of}

-- no takeover
row_1 : rank_of [] 500 ≡ record { seal = 0; end = 500 }
unfolding rank_of
row_1 = refl

-- the log has not reached the first seal
row_2 : rank_of (100 ∷ 200 ∷ []) 99 ≡ record { seal = 0; end = 99 }
unfolding rank_of
row_2 = refl

-- it ends at a seal
row_3 : rank_of (100 ∷ 200 ∷ []) 100 ≡ record { seal = 100; end = 100 }
unfolding rank_of
row_3 = refl

-- it ends between two
row_4 : rank_of (100 ∷ 200 ∷ []) 199 ≡ record { seal = 100; end = 199 }
unfolding rank_of
row_4 = refl

-- it is past both
row_5 : rank_of (100 ∷ 200 ∷ []) 201 ≡ record { seal = 200; end = 201 }
unfolding rank_of
row_5 = refl
