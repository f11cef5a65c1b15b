-- The commits of a log from an LSN on, one after another.
use Rattle.std.proofs.Common.{◌≡◌, ℕ, List, [], ◌∷◌, ◌++◌, Option, fold, refl, sym, ap, subst, ◌∙◌, append-nil}
use Rattle.als_record.specs.declared.record.Record.{Record}
use Rattle.als_record.specs.Commits.{Commit, commits_of}
use Rattle.als_record.specs.Validity.{IsValidLog}
use Rattle.als_lookback.specs.declared.until.Until.TheVariants.{End}
use Rattle.als_lookback.specs.Past.{Past, with_past, past_of, CountsPast}
use Rattle.als_lookback.specs.Readings.{Reading, Reads, HasStopped}
use Rattle.als_lookback.proofs.FrontLaws.{front_is}

commits-nil : commits_of [] ≡ []
unfolding commits_of
commits-nil = refl

pub past_none : (from : ℕ) (p : Past) (log : List Record) → log ≡ [] → p ≡ past_of from [] → p ≡ past_of from (commits_of log)
past_none from p log none e = e ∙ sym (ap (past_of from) (ap commits_of none ∙ commits-nil))

fold-last : (cs : List Commit) (p : Past) (c : Commit) → fold with_past p (cs ++ c ∷ []) ≡ with_past (fold with_past p cs) c
fold-last [] p c = refl
fold-last (x ∷ cs) p c = fold-last cs (with_past p x) c

pub past_more : (from : ℕ) (p : Past) (log longer : List Record) (c : Commit) → p ≡ past_of from (commits_of log) → commits_of longer ≡ commits_of log ++ c ∷ [] → with_past p c ≡ past_of from (commits_of longer)
unfolding past_of
past_more from p log longer c is e =
    ap (λ (q : Past). with_past q c) is ∙ sym (fold-last (commits_of log) (record { from = from; count = 0; named = [] }) c) ∙ sym (ap (past_of from) e)

pub past_same : (from : ℕ) (p : Past) (log longer : List Record) → p ≡ past_of from (commits_of log) → commits_of longer ≡ commits_of log ++ [] → p ≡ past_of from (commits_of longer)
past_same from p log longer is e = is ∙ sym (ap (past_of from) (e ∙ append-nil (commits_of log)))

-- where all was read
pub counted : (text : Option (List ℕ)) (from : ℕ) (start new : Reading) (before past : Past) → start.log ≡ [] → before ≡ past_of from []
    → ((at : ℕ) → before ≡ past_of at (commits_of start.log) → past ≡ past_of at (commits_of new.log)) → IsValidLog new.pages new.log → HasStopped End new → Reads text new → CountsPast text from past
counted text from start new before past none first more valid stopped reads = record {
  pages = new.pages;
  log = new.log;
  whole = front_is text new valid reads End tt stopped;
  past_is = more from (past_none from before start.log none first);
}
