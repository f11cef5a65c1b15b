use Rattle.std.proofs.Common.{◌≡◌, ◌<◌, ℕ, sym, ap, subst, ◌∙◌}
use Rattle.std.specs.List.{AllByRecursion}
use Rattle.std.proofs.lemmas.Result.{err_from_is_err_and}
use Rattle.als_record.specs.Transactions.{greatest_trans}
use Rattle.als_record.specs.Validity.{IsValidLog}
use Rattle.als_lookback.specs.declared.until.Until.TheVariants.{End}
use Rattle.als_lookback.specs.Doubts.{Doubt, doubts_in}
use Rattle.als_lookback.specs.Fronts.{IsFrontOf}
use Rattle.als_lookback.specs.Seen.{IsSeenOf}
use Rattle.als_renew.specs.Closing.{kept_number}
use Rattle.als_renew.proofs.Doubting.{uncarriable}
use Rattle.als_renew.proofs.beginning.begin_log.Goals as goal

pub returns-clause-begins : goal.returns-clause-begins
returns-clause-begins g c =
    let text = g.R.Read.remaining c.args.reader in
    let past = c.in_ok-seen.ensures.sees in
    let seen = c.in_ok-seen.seen in
    let count : seen.pages ≡ past.pages = past.seen_is.pages_are in
    let front = past.front in
    let is : IsSeenOf seen seen.pages front = subst (λ n. IsSeenOf seen n front) (sym count) past.seen_is in
    let valid : IsValidLog seen.pages front = subst (λ n. IsValidLog n front) (sym count) past.is_front.valid in
    let ds = c.as_slice-doubts.result.now in
    let are : ds ≡ doubts_in front = c.as_slice-doubts.ensures.value ∙ past.standing_is.doubts_are in
    let number : c.number_to_keep-number.result.0 ≡ kept_number (greatest_trans front) = c.number_to_keep-number.ensures ∙ ap kept_number past.standing_is.greatest_is in
    let above : AllByRecursion (λ (d : Doubt). seen.pages < d.trans) ds = subst (λ n. AllByRecursion (λ (d : Doubt). n < d.trans) ds) c.pages.ensures c.in_ok-check_carriable.ensures.ok.above in
    let w = c.in_ok-end.ensures.ok front is valid are above number in
    record {
      pages = seen.pages;
      held = front;
      whole = subst (λ n. IsFrontOf text End n front) (sym count) past.is_front;
      begins = w.0;
      ends = w.1;
      written = w.2;
    }

pub returns-in_err-check_carriable-clause-fails : goal.returns-in_err-check_carriable-clause-fails
returns-in_err-check_carriable-clause-fails g c =
    let text = g.R.Read.remaining c.args.reader in
    let past = c.in_ok-seen.ensures.sees in
    let seen = c.in_ok-seen.seen in
    let count : c.pages.result ≡ past.pages = c.pages.ensures ∙ past.seen_is.pages_are in
    let p = err_from_is_err_and c.from_residual-in_err-check_carriable.result c.from_residual-in_err-check_carriable.ensures.1 in
    rw (p.1, p.2) (uncarriable text c.pages.result past.front c.as_slice-doubts.result.now c.in_err-check_carriable.field-0.0 (subst (λ n. IsFrontOf text End n past.front) (sym count) past.is_front)
    (c.as_slice-doubts.ensures.value ∙ past.standing_is.doubts_are) c.in_err-check_carriable.ensures.err)
