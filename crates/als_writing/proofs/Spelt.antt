-- How far a transaction is spelled: the bytes of its moves up to here, and the place behind them.
use Rattle.std.proofs.Common.{◌≡◌, ℕ, ◌+◌, List, [], ◌∷◌, ◌++◌, map, refl, sym, ap, ◌∙◌, subst, append_assoc, append-nil}
use Rattle.als_record.specs.declared.record.Record.{Record}
use Rattle.als_record.specs.Spelling.{spelling, record_len}
use Rattle.als_record.specs.LogText.{spellings, end_of}
use Rattle.als_record.specs.Commits.{Write}
use Rattle.als_record.proofs.LogLaws.{spellings-nil, spellings_push}
use Rattle.als_record.proofs.Places.{end_of-push}
use Rattle.als_writing.specs.Writing.{Move, Writes, Commits, Ends, record_for, moved, updates, transaction}
use Rattle.als_writing.specs.declared.place.Place.{Place}
use Rattle.als_writing.specs.Placing.{IsPlaceOf, SoFar}
use Rattle.als_writing.proofs.Moved.{moved-push}

pub SoFar-none : (log : List Record) (t : ℕ) (piece : List ℕ) (place : Place) → piece ≡ [] → IsPlaceOf place log → SoFar log t [] piece place
unfolding moved
SoFar-none log t piece place e p = record {
  spelled = e ∙ sym spellings-nil;
  behind = subst (IsPlaceOf place) (sym (append-nil log)) p;
}

-- one more move
pub Spelled-more : (log : List Record) (t : ℕ) (done : List Move) (piece after : List ℕ) (move : Move) → piece ≡ spellings (moved log t done) → after ≡ piece ++ spelling (record_for (log ++ moved log t done) t move) → after ≡ spellings (moved log t (done ++ move ∷ []))
Spelled-more log t done piece after move s e =
    let r : Record = record_for (log ++ moved log t done) t move in
    e ∙ ap (λ (b : List ℕ). b ++ spelling r) s ∙ sym (spellings_push (moved log t done) r) ∙ ap spellings (sym (moved-push log t done move))

pub SoFar-more : (log : List Record) (t : ℕ) (done : List Move) (piece after : List ℕ) (place next : Place) (move : Move) → SoFar log t done piece place → after ≡ piece ++ spelling (record_for (log ++ moved log t done) t move) → IsPlaceOf next ((log ++ moved log t done) ++ record_for (log ++ moved log t done) t move ∷ []) → SoFar log t (done ++ move ∷ []) after next
SoFar-more log t done piece after place next move s e n =
    let r : Record = record_for (log ++ moved log t done) t move in
    record {
      spelled = Spelled-more log t done piece after move s.spelled e;
      behind = subst (IsPlaceOf next) (append_assoc log (moved log t done) (r ∷ []) ∙ ap (λ (more : List Record). log ++ more) (sym (moved-push log t done move))) n;
    }

pub all-updates : (log : List Record) (t : ℕ) (ws : List Write) → moved log t (map Writes ws) ≡ updates log t ws
unfolding updates
all-updates log t ws = refl

pub whole-transaction : (log : List Record) (t : ℕ) (ws : List Write) → moved log t ((map Writes ws ++ Commits ∷ []) ++ Ends ∷ []) ≡ transaction log t ws
unfolding transaction
whole-transaction log t ws = ap (moved log t) (append_assoc (map Writes ws) (Commits ∷ []) (Ends ∷ []))

-- where the moves end with one more
pub end_of-more : (log : List Record) (t : ℕ) (done : List Move) (move : Move) → end_of (log ++ moved log t (done ++ move ∷ [])) ≡ end_of (log ++ moved log t done) + record_len (record_for (log ++ moved log t done) t move)
end_of-more log t done move =
    let r : Record = record_for (log ++ moved log t done) t move in
    ap (λ (more : List Record). end_of (log ++ more)) (moved-push log t done move)
    ∙ ap end_of (sym (append_assoc log (moved log t done) (r ∷ [])))
    ∙ end_of-push (log ++ moved log t done) r

-- the commit too
pub committed : (log : List Record) (t : ℕ) (done : List Move) (piece after : List ℕ) (place next : Place) → place.trans.0 ≡ t → SoFar log t done piece place → after ≡ piece ++ spelling (record_for (log ++ moved log t done) place.trans.0 Commits) → IsPlaceOf next ((log ++ moved log t done) ++ record_for (log ++ moved log t done) place.trans.0 Commits ∷ []) → SoFar log t (done ++ Commits ∷ []) after next
committed log t done piece after place next same h e n =
    SoFar-more log t done piece after place next Commits h
    (e ∙ ap (λ (x : ℕ). piece ++ spelling (record_for (log ++ moved log t done) x Commits)) same)
    (subst (λ (x : ℕ). IsPlaceOf next ((log ++ moved log t done) ++ record_for (log ++ moved log t done) x Commits ∷ [])) same n)

-- and the end
pub ended : (log : List Record) (t : ℕ) (done : List Move) (piece after : List ℕ) (place : Place) → place.trans.0 ≡ t → SoFar log t done piece place → after ≡ piece ++ spelling (record_for (log ++ moved log t done) place.trans.0 Ends) → after ≡ spellings (moved log t (done ++ Ends ∷ []))
ended log t done piece after place same h e =
    Spelled-more log t done piece after Ends h.spelled (e ∙ ap (λ (x : ℕ). piece ++ spelling (record_for (log ++ moved log t done) x Ends)) same)

pub end_len : (log : List Record) (t : ℕ) → record_len (record_for log t Ends) ≡ 28
unfolding record_len
end_len log t = refl
