use Rattle.std.proofs.Common.{◌≡◌, ◌∙◌, ℕ, false, inl, inr, refl, sym, ap, subst}
use Rattle.std.proofs.lemmas.Result.{err_from_is_err_and}
use Rattle.als_lookback.specs.declared.finding.Finding.{Finding}
use Rattle.als_lookback.specs.declared.until.Until.TheVariants.{End}
use Rattle.als_lookback.specs.Seen.{CommitsAt, HasNoCommit, has_commit}
use Rattle.als_lookback.proofs.FindLaws.{none_first, find_found, find_on, find_none, find_trans}
use Rattle.als_lookback.proofs.FrontLaws.{look_refused}
use Rattle.als_lookback.proofs.finding.find_in.Goals as goal

pub returns-in_err-more-clause-err : goal.returns-in_err-more-clause-err
returns-in_err-more-clause-err g c =
    let p = err_from_is_err_and c.from_residual.result c.from_residual.ensures.1 in
    rw (p.1, p.2) (λ text reads. inr (look_refused text End c.args.reading.now c.loop.reading c.take_next.new.self c.in_err-more.field-0.0 (c.loop.invariant.reads text) tt c.in_err-more.ensures.err reads))

pub loop-init : goal.loop-init
loop-init g c = record {
  valid = c.end.ensures.valid;
  reads = λ text r. r;
  none = none_first c.args.trans.0 c.args.reading.now.log c.requires.start;
  trans = refl;
  found = refl;
}

pub loop-preserved : goal.loop-preserved
loop-preserved g c =
    let i = c.loop.invariant in
    let was = c.loop.finding in
    let is = c.take_next.new.taker in
    let none = subst (λ (t : ℕ). has_commit t c.loop.reading.log ≡ false) (sym i.trans) i.none in
    let more = find_on was.trans.0 is.trans.0 was.found is.found c.loop.reading c.take_next.new.self c.in_ok-more.more _ c.in_ok-more.ensures.ok none c.in_default.is in
    record {
      valid = c.in_ok-more.ensures.valid;
      reads = λ text r. c.in_ok-more.ensures.text text (i.reads text r);
      none = subst (λ (t : ℕ). has_commit t c.take_next.new.self.log ≡ false) i.trans more;
      trans = find_trans was.trans.0 is.trans.0 was.found is.found c.loop.reading c.take_next.new.self c.in_ok-more.more _ c.in_ok-more.ensures.ok c.if-not-more.false ∙ i.trans;
      found = c.in_default.is;
    }

pub returns-in-Some-clause-found : goal.returns-in-Some-clause-found
returns-in-Some-clause-found g c text reads =
    let i = c.loop.invariant in
    let was = c.loop.finding in
    let is = c.take_next.new.taker in
    let none = subst (λ (t : ℕ). has_commit t c.loop.reading.log ≡ false) (sym i.trans) i.none in
    subst (λ (t : ℕ). CommitsAt text t c.in-Some.lsn.0) i.trans
    (find_found text was.trans.0 is.trans.0 was.found is.found c.in-Some.lsn c.loop.reading c.take_next.new.self c.in_ok-more.more _ (λ k. ap (λ (f : Finding). f.found) k) c.in_ok-more.ensures.ok i.found none
    c.in_ok-more.ensures.valid (c.in_ok-more.ensures.text text (i.reads text reads)) c.in-Some.is)

pub returns-then-not-more-clause-err : goal.returns-then-not-more-clause-err
returns-then-not-more-clause-err g c text reads =
    let i = c.loop.invariant in
    let was = c.loop.finding in
    let is = c.take_next.new.taker in
    let none = subst (λ (t : ℕ). has_commit t c.loop.reading.log ≡ false) (sym i.trans) i.none in
    let more = find_on was.trans.0 is.trans.0 was.found is.found c.loop.reading c.take_next.new.self c.in_ok-more.more _ c.in_ok-more.ensures.ok none c.in_default.is in
    inl (
      refl,
      subst (HasNoCommit text) i.trans
          (find_none text was.trans.0 is.trans.0 was.found is.found c.loop.reading c.take_next.new.self c.in_ok-more.more _ c.in_ok-more.ensures.ok c.if-not-more.true more c.in_ok-more.ensures.valid (c.in_ok-more.ensures.text text (i.reads text reads))),
    )
