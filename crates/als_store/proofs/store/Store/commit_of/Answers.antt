use Rattle.std.proofs.Common.{◌≡◌, true, refl, sym, subst, ◌∙◌}
use Rattle.std.proofs.lemmas.Bool.{true≢false}
use Rattle.als_record.specs.Shown.{shown}
use Rattle.als_record.specs.Spelling.{IsRecord}
use Rattle.als_record.specs.LogText.{end_of}
use Rattle.als_store.specs.Spare.{Holding}
use Rattle.als_store.specs.Takeover.{is_following}
use Rattle.als_store.proofs.store.Store.commit_of.Goals as goal

pub commit_of-requires : goal.commit_of-requires
commit_of-requires g c =
    let following = subst (λ (h : Holding). is_following h.stored ≡ true) (sym c.self.view_is)
    c.requires.following in
    c.self.invariant.judging ∙ following

pub returns-in-Ok-clause-ok : goal.returns-in-Ok-clause-ok
returns-in-Ok-clause-ok g c =
    let s = c.self.inside in
    let r = shown c.args.logged.now in
    let fits = subst (λ (h : Holding). IsRecord h.stored.pages r) (sym c.self.view_is)
    c.requires.fits in
    let at = subst (λ (h : Holding). r.lsn.0 ≡ end_of h.stored.log) (sym c.self.view_is)
    c.requires.at in
    rw (← c.self.view_is)
    (c.in-Ok.ensures.ok s.pages s.log.log c.self.invariant.judged c.self.invariant.is_log
    fits at)

pub returns-in-Err-clause-err : goal.returns-in-Err-clause-err
returns-in-Err-clause-err g c =
    let s = c.self.inside in
    let r = shown c.args.logged.now in
    let fits = subst (λ (h : Holding). IsRecord h.stored.pages r) (sym c.self.view_is)
    c.requires.fits in
    rw (← c.self.view_is) (
      refl,
      c.in-Err.ensures.wanted s.pages s.log.log c.self.invariant.judged
          c.self.invariant.is_log fits,
    )

pub returns-in-Err-clause-reserved : goal.returns-in-Err-clause-reserved
returns-in-Err-clause-reserved g c none =
    absurd (true≢false (sym (c.in-Err.ensures.reserved none)))
