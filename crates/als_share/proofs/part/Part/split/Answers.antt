use Rattle.std.proofs.Common.{refl}
use Rattle.als_share.proofs.Sums.{cons-same}
use Rattle.als_share.proofs.part.Part.split.Goals as goal

pub returns-clause-same : goal.returns-clause-same
returns-clause-same g c =
    rw (← c.self.view_is)
    (cons-same _ _ _ _ c.split_off.ensures.amount_left
    (cons-same _ _ _ _ c.split_off-2.ensures.amount_left
    (cons-same _ _ _ _ c.split_off-3.ensures.amount_left
    (cons-same _ _ _ _ c.split_off-4.ensures.amount_left
    (cons-same _ _ _ _ c.split_off-5.ensures.amount_left
    (cons-same _ _ _ _ c.split_off-6.ensures.amount_left
    (cons-same _ _ _ _ c.split_off-7.ensures.amount_left
    (cons-same _ _ _ _ c.split_off-8.ensures.amount_left
    (cons-same _ _ _ _ c.split_off-9.ensures.amount_left
    (cons-same _ _ _ _ c.split_off-10.ensures.amount_left
    (cons-same _ _ _ _ c.split_off-11.ensures.amount_left
    (cons-same _ _ _ _ c.split_off-12.ensures.amount_left
    (cons-same _ _ _ _ c.split_off-13.ensures.amount_left
    (cons-same _ _ _ _ c.split_off-14.ensures.amount_left
    (cons-same _ _ _ _ c.split_off-15.ensures.amount_left
    (cons-same _ _ _ _ c.split_off-16.ensures.amount_left
    (cons-same _ _ _ _ c.split_off-17.ensures.amount_left
    (cons-same _ _ _ _ c.split_off-18.ensures.amount_left
    (cons-same _ _ _ _ c.split_off-19.ensures.amount_left
    (cons-same _ _ _ _ c.split_off-20.ensures.amount_left
    (cons-same _ _ _ _ c.split_off-21.ensures.amount_left
    refl)))))))))))))))))))))
