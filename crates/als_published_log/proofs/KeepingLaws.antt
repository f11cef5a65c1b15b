-- A log that is kept goes on.
use Rattle.std.proofs.Common.{◌≡◌, ℕ, ◌+◌, true, List, [], ◌∷◌, ◌++◌, None, refl, sym, ap, ◌∙◌, subst}
use Rattle.std.proofs.Math.Logic.{∥∥₁_map}
use Rattle.als_record.specs.declared.record.Record.{Record}
use Rattle.als_record.specs.Spelling.{IsRecord, record_len}
use Rattle.als_record.specs.LogText.{end_of, follow_from, IsLog}
use Rattle.als_record.specs.Validity.{is_valid, may_follow_all, first_bad, IsValidLog}
use Rattle.als_record.proofs.Validity.{first_bad-none, may_follow-admitted}
use Rattle.als_record.proofs.TailFirst.{IsValidLog-push}
use Rattle.als_record.proofs.LogLaws.{end_of_push}
use Rattle.als_validator.specs.declared.validator.Validator.{Validator}
use Rattle.als_validator.specs.Validated.{IsValidatorOf}
use Rattle.als_view.specs.Entries.{AreCommits, HasLog as HasValidLog}
use Rattle.als_view.specs.Showing.{View, IsShowing}
use Rattle.als_view.specs.Views.{listed_in}
use Rattle.als_view.proofs.ShowingLaws.{starts}
use Rattle.als_published_log.specs.Keeping.{IsKept, Keeps, HasLog}

-- ---- one more record

-- a record that may follow makes a valid log again
pub valid_more : (pages : ℕ) (log : List Record) (r : Record) → IsValidLog pages log
    → IsRecord pages r → r.lsn.0 ≡ end_of log → first_bad log r ≡ None
    → IsValidLog pages (log ++ r ∷ [])
valid_more pages log r h fits at good =
    IsValidLog-push pages log r h (may_follow-admitted log r (first_bad-none log r at good)) fits

-- room for a commit shows nothing
pub shown_room : (log : List Record) (offset : ℕ) (old new : View)
    → new ≡ record old { room = new.room } → IsShowing log offset old → IsShowing log offset new
shown_room log offset old new is h =
    subst (λ (v : View). IsShowing log offset v) (sym is) (record { parts = h.parts; ended = h.ended; front = h.front })

-- ---- the log of a `PublishedLog`

log_nil : (pages : ℕ) → IsLog pages []
unfolding follow_from
log_nil pages = record { laid_out = refl; records = tt }

valid_nil : (pages : ℕ) → IsValidLog pages []
unfolding is_valid may_follow_all
valid_nil pages = record { text = log_nil pages; valid = refl }

end_nil : end_of [] ≡ 16
unfolding end_of
end_nil = refl

-- the empty log
pub kept_nil : (pages : ℕ) (validator : Validator) (view : View) → IsValidatorOf pages validator []
    → view.all ≡ [] → listed_in view.published ≡ [] → view.queued ≡ []
    → HasLog pages 16 validator view
kept_nil pages validator view judged none unlisted waits =
    let shown : IsShowing [] 18446744073709551615 view = starts 18446744073709551615 view none unlisted waits in
    let kept : IsKept pages [] validator view = record { valid = valid_nil pages; judged = judged; shown = shown } in
    let k : Keeps pages 16 validator view = record { log = []; kept = kept; ends = end_nil } in ∣ k ∣₁

-- the same log, of which the validator has more room, or the view shows more
pub kept_still : (pages end : ℕ) (v w : Validator) (x y : View)
    → ((log : List Record) → IsKept pages log v x → IsKept pages log w y)
    → HasLog pages end v x → HasLog pages end w y
kept_still pages end v w x y still has = ∥∥₁_map has (go still)
  where
    go : ((log : List Record) → IsKept pages log v x → IsKept pages log w y) → Keeps pages end v x → Keeps pages end w y
    go f k = record { log = k.log; kept = f k.log k.kept; ends = k.ends }

pub kept_shown : (pages end : ℕ) (v : Validator) (x y : View)
    → ((log : List Record) → IsShowing log 18446744073709551615 x → IsShowing log 18446744073709551615 y)
    → HasLog pages end v x → HasLog pages end v y
kept_shown pages end v x y shows =
    kept_still pages end v v x y (λ log h. record { valid = h.valid; judged = h.judged; shown = shows log h.shown })

-- one record more
pub kept_more : (pages end len next : ℕ) (r : Record) (v w : Validator) (x y : View)
    → len ≡ record_len r → next ≡ end + len → r.lsn.0 ≡ end → IsRecord pages r
    → ((pages : ℕ) (log : List Record) → IsRecord pages r → r.lsn.0 ≡ end_of log → IsKept pages log v x
    → IsKept pages (log ++ r ∷ []) w y)
    → HasLog pages end v x → HasLog pages next w y
kept_more pages end len next r v w x y size behind at fits more has = ∥∥₁_map has go
  where
    go : Keeps pages end v x → Keeps pages next w y
    go k = record {
      log = k.log ++ r ∷ [];
      kept = more pages k.log fits (at ∙ sym k.ends) k.kept;
      ends = end_of_push k.log r ∙ ap (λ (n : ℕ). n + record_len r) k.ends
          ∙ ap (λ (n : ℕ). end + n) (sym size) ∙ sym behind;
    }

-- what waits may be published
pub may_be_published : (pages end : ℕ) (v : Validator) (x : View) → HasLog pages end v x
    → AreCommits (x.all ++ x.queued)
may_be_published pages end v x has = ∥∥₁_map has go
  where
    go : Keeps pages end v x → HasValidLog (x.all ++ x.queued)
    go k = record { log = k.log; valid = k.kept.valid.valid; are = k.kept.shown.parts }
