-- What is spelled of a page: more moves than one, and which writes they are.
use Rattle.std.proofs.Common.{◌≡◌, ℕ, ◌+◌, ◌<◌, true, false, List, [], ◌∷◌, ◌++◌, length, None, Some, is_some, refl, sym, ap, ◌∙◌, subst, arith, append_assoc, append-nil}
use Rattle.std.proofs.lemmas.Bool.{false≢true}
use Rattle.als_record.specs.declared.key.Key.{Key}
use Rattle.als_record.specs.declared.record.Record.{Record}
use Rattle.als_record.specs.Spelling.{Image, spelling}
use Rattle.als_record.specs.LogText.{spellings, end_of}
use Rattle.als_record.specs.Commits.{Write}
use Rattle.als_record.proofs.LogLaws.{spellings-nil, spellings_push, spellings-append}
use Rattle.als_writing.specs.Writing.{Move, record_for, moved, transaction}
use Rattle.als_writing.specs.declared.place.Place.{Place}
use Rattle.als_writing.specs.Placing.{IsPlaceOf, SoFar}
use Rattle.als_writing.proofs.Moved.{moved-split}
use Rattle.als_renew.specs.Pages.{write_at, page_writes, written_by, page_records, SpellsPage}

-- more moves
pub SoFar-append : (log : List Record) (t : ℕ) (done more : List Move) (piece after : List ℕ) (place next : Place) → SoFar log t done piece place
    → after ≡ piece ++ spellings (moved (log ++ moved log t done) t more) → IsPlaceOf next ((log ++ moved log t done) ++ moved (log ++ moved log t done) t more) → SoFar log t (done ++ more) after next
SoFar-append log t done more piece after place next s e n =
    let rest : List Record = moved (log ++ moved log t done) t more in
    record {
      spelled = e ∙ ap (λ (b : List ℕ). b ++ spellings rest) s.spelled ∙ sym (spellings-append (moved log t done) rest) ∙ ap spellings (sym (moved-split t done more log));
      behind = subst (IsPlaceOf next) (append_assoc log (moved log t done) rest ∙ ap (λ (xs : List Record). log ++ xs) (sym (moved-split t done more log))) n;
    }

-- one move alone
pub moved-one : (log : List Record) (t : ℕ) (move : Move) → moved log t (move ∷ []) ≡ record_for log t move ∷ []
unfolding moved
moved-one log t move = refl

pub spellings-one : (log : List Record) (t : ℕ) (move : Move) → spellings (moved log t (move ∷ [])) ≡ spelling (record_for log t move)
spellings-one log t move = ap spellings (moved-one log t move) ∙ spellings_push [] (record_for log t move) ∙ ap (λ (b : List ℕ). b ++ spelling (record_for log t move)) spellings-nil

-- the write of a key that has a value, and of one that has none
pub write_at-none : (key : Key) (i : Image) → is_some i ≡ false → write_at key i ≡ []
write_at-none key None e = refl
write_at-none key (Some bytes) e = absurd (false≢true (sym e))

pub write_at-some : (key : Key) (i : Image) → is_some i ≡ true → write_at key i ≡ record { key = key; after = i } ∷ []
write_at-some key None e = absurd (false≢true e)
write_at-some key (Some bytes) e = refl

-- ---- a page

-- one without a value
pub page-none : (value : Key → Image) (page : ℕ) (log : List Record) (piece : List ℕ) (end : ℕ) → page_writes value page 15 ≡ [] → piece ≡ [] → end ≡ end_of log → SpellsPage page value log piece end
page-none value page log piece end none empty ends =
    let records : page_records value page log ≡ [] = ap (written_by log (page + 1)) none in
    record {
      spelled = empty ∙ sym (ap spellings records ∙ spellings-nil);
      ends = ends ∙ sym (ap (λ (more : List Record). end_of (log ++ more)) records ∙ ap end_of (append-nil log));
    }

written-some : (log : List Record) (t : ℕ) (ws : List Write) → 0 < length ws → written_by log t ws ≡ transaction log t ws
written-some log t [] some = absurd (omega arith)
written-some log t (w ∷ rest) some = refl

-- one with a value
pub page-some : (value : Key → Image) (page : ℕ) (log : List Record) (piece : List ℕ) (end : ℕ) → 0 < length (page_writes value page 15) → piece ≡ spellings (transaction log (page + 1) (page_writes value page 15))
    → end ≡ end_of (log ++ transaction log (page + 1) (page_writes value page 15)) → SpellsPage page value log piece end
page-some value page log piece end some spelled ends =
    let records : page_records value page log ≡ transaction log (page + 1) (page_writes value page 15) = written-some log (page + 1) (page_writes value page 15) some in
    record {
      spelled = spelled ∙ ap spellings (sym records);
      ends = ends ∙ ap (λ (more : List Record). end_of (log ++ more)) (sym records);
    }

pub nothing-written : (ws : List Write) → length ws ≡ 0 → ws ≡ []
nothing-written [] e = refl
nothing-written (w ∷ rest) e = absurd (omega (arith, e))

pub moved-nothing : (log : List Record) (t : ℕ) → moved log t [] ≡ []
unfolding moved
moved-nothing log t = refl
