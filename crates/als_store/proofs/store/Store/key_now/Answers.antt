use Rattle.std.proofs.Common.{◌≡◌, true, sym, subst, ◌∙◌}
use Rattle.als_store.specs.Spare.{Holding}
use Rattle.als_store.specs.Takeover.{is_following}
use Rattle.als_store.proofs.WritingLaws.{has-no_key}
use Rattle.als_store.proofs.store.Store.key_now.Goals as goal

pub key_now-requires : goal.key_now-requires
key_now-requires g c =
    let following = subst (λ (h : Holding). is_following h.stored ≡ true) (sym c.self.view_is) c.requires.following in
    c.self.invariant.judging ∙ following

pub returns-then-not-has_key : goal.returns-then-not-has_key
returns-then-not-has_key g c = rw (← c.self.view_is) (has-no_key c.self.inside.pages c.args.key (sym c.if-not-has_key.ensures))
