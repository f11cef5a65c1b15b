-- What is owed to a log, fed one record after another.
use Rattle.std.proofs.Common.{◌≡◌, ℕ, zero, suc, ◌+◌, Bool, false, cond, List, [], ◌∷◌, ◌++◌, take, drop, Option, None, Some, Result, Ok, Err, refl, sym, ap, subst, ◌∙◌, inl, inr, append-nil, arith}
use Rattle.std.specs.Prelude.{MatchOption}
use Rattle.als_record.specs.declared.lsn.Lsn.{Lsn}
use Rattle.als_record.specs.declared.record.Record.{Record}
use Rattle.als_record.specs.declared.record.Body.{Body}
use Rattle.als_record.specs.declared.record.Body.TheVariants.{Update, Compensation, Commit, Rollback, End, BeginCheckpoint, EndCheckpoint, Prepare}
use Rattle.als_record.specs.Spelling.{record_len}
use Rattle.als_record.specs.LogText.{end_of}
use Rattle.als_record.specs.Transactions.{is_commit}
use Rattle.als_record.specs.Commits.{commits_of}
use Rattle.als_record.specs.Tail.{TailStep, Ends, Undoes, undone, record_for, numbered, tail_steps, tail_of, reserve_of}
use Rattle.als_record.proofs.Places.{end_of-push}
use Rattle.als_record.proofs.CommitSteps.{commits_of-push, commit_by}
use Rattle.als_record.proofs.TailFirst.{IsValidLog-next, is_undone-tail_of}
use Rattle.als_record.proofs.TailSteps.{tail_of-front}
use Rattle.als_record.proofs.Reserve.{room-next}
use Rattle.als_store.specs.Stored.{Stored}
use Rattle.als_engine.specs.declared.fault.Fault.{Fault}
use Rattle.als_engine.specs.declared.step.Step.TheVariants as step
use Rattle.als_engine.specs.Machine.{Machine, Keeps}
use Rattle.als_engine.proofs.KeepLaws.{keeps_equal}
use Rattle.als_engine.specs.Refusals.{refusal}
use Rattle.als_engine.specs.Events.{resynced, Resyncs, DropsPartial}
use Rattle.als_engine.specs.Feeds.{grown}
use Rattle.als_writer.specs.Changes.{AreBounds}
use Rattle.als_writer.proofs.LastBounds.{AreBounds-same}
use Rattle.als_writer.specs.Feeding.{IsNext, TakesNext}
use Rattle.als_writer.specs.Tidying.{tidied_to, Tidied, NotTidied, IsOwedTo, TakesOwed}
use Rattle.als_writer.proofs.Feeding.{grown_none, grown_more}

-- ---- the first record of a tail is no commit

undone_no_commit : (prev : Lsn) (b : Body) → is_commit (undone prev b) ≡ false
undone_no_commit prev (Update key before after) = refl
undone_no_commit prev (Compensation undo_next key after) = refl
undone_no_commit prev Commit = refl
undone_no_commit prev Rollback = refl
undone_no_commit prev End = refl
undone_no_commit prev BeginCheckpoint = refl
undone_no_commit prev (EndCheckpoint transactions pages) = refl
undone_no_commit prev Prepare = refl

no_commit_first : (log : List Record) (steps : List TailStep) (r : Record) (rest : List Record) → numbered log steps ≡ r ∷ rest → is_commit r.body ≡ false
unfolding numbered
no_commit_first log [] r rest e = cc e
no_commit_first log (Ends t ∷ steps) r rest e = let q : record_for log (Ends t) ≡ r = cc e in ap (λ (x : Record). is_commit x.body) (sym q)
no_commit_first log (Undoes u ∷ steps) r rest e = let q : record_for log (Undoes u) ≡ r = cc e in ap (λ (x : Record). is_commit x.body) (sym q) ∙ undone_no_commit u.prev u.body

tail_no_commit : (log : List Record) (r : Record) (rest : List Record) → tail_of log ≡ r ∷ rest → is_commit r.body ≡ false
unfolding tail_of
tail_no_commit log r rest e = no_commit_first log (tail_steps log) r rest e

-- ---- one record that is owed

module _ (m : Machine) (r : Record) (o : IsOwedTo m r) where
  pub owed_next : IsNext m r
  owed_next = record {
    partial = o.partial;
    follows = λ valid short. IsValidLog-next m.held.pages m.held.log r o.rest valid short o.first;
    reserved =
        let same : end_of (m.held.log ++ r ∷ []) + reserve_of (m.held.log ++ r ∷ []) ≡ end_of m.held.log + reserve_of m.held.log = room-next m.held.log r o.rest o.first in
        let pushed : end_of (m.held.log ++ r ∷ []) ≡ end_of m.held.log + record_len r = end_of-push m.held.log r in
        omega (arith, same, pushed);
  }

  pub owed_taken : (new : Machine) → TakesNext m r new → TakesOwed m r new
  owed_taken new t = record {
    after = t.after;
    commits =
        ap (λ (x : Machine). commits_of x.held.log) t.after
        ∙ commits_of-push m.held.log r t.valid.valid
        ∙ ap (λ (b : Bool). commits_of m.held.log ++ cond b (commit_by m.held.log r ∷ []) []) (tail_no_commit m.held.log r o.rest o.first)
        ∙ append-nil (commits_of m.held.log);
  }

-- ---- all that is owed

-- so many of the records are held
pub record TidiedSoFar (old new : Machine) : Type 0 where
  pub n : ℕ
  pub same : new ≡ tidied_to n old
  pub commits : commits_of new.held.log ≡ commits_of old.held.log

take_next : (xs : List Record) (n : ℕ) (r : Record) (rest : List Record) → drop n xs ≡ r ∷ rest → take (suc n) xs ≡ take n xs ++ r ∷ []
take_next [] zero r rest e = cc e
take_next [] (suc n) r rest e = cc e
take_next (x ∷ xs) zero r rest e = let q : x ≡ r = cc e in ap (λ (y : Record). y ∷ []) q
take_next (x ∷ xs) (suc n) r rest e = ap (λ (l : List Record). x ∷ l) (take_next xs n r rest e)

take_rest_none : (xs : List Record) (n : ℕ) → drop n xs ≡ [] → take n xs ≡ xs
take_rest_none [] zero e = refl
take_rest_none [] (suc n) e = refl
take_rest_none (x ∷ xs) zero e = cc e
take_rest_none (x ∷ xs) (suc n) e = ap (λ (l : List Record). x ∷ l) (take_rest_none xs n e)

pub so_far_none : (old new : Machine) → new ≡ resynced old → TidiedSoFar old new
so_far_none old new e = record {
  n = 0;
  same = e ∙ ap (λ (s : Stored). record (resynced old) { held = s }) (sym (grown_none old.held));
  commits = ap (λ (x : Machine). commits_of x.held.log) e;
}

-- what is owed behind them
left : (old new : Machine) (s : TidiedSoFar old new) → tail_of new.held.log ≡ drop s.n (tail_of old.held.log)
left old new s = ap (λ (x : Machine). tail_of x.held.log) s.same ∙ tail_of-front old.held.log s.n

pub so_far_partial : (old new : Machine) → TidiedSoFar old new → new.partial ≡ []
so_far_partial old new s = ap (λ (x : Machine). x.partial) s.same

pub so_far_more : (old mid new : Machine) (r : Record) (rest : List Record) → TidiedSoFar old mid → tail_of mid.held.log ≡ r ∷ rest → TakesOwed mid r new → TidiedSoFar old new
so_far_more old mid new r rest s e takes =
    let tail : List Record = tail_of old.held.log in
    let next : take (suc s.n) tail ≡ take s.n tail ++ r ∷ [] = take_next tail s.n r rest (sym (left old mid s) ∙ e) in
    record {
      n = suc s.n;
      same =
          takes.after
          ∙ ap (λ (x : Machine). record x { held = grown x.held (r ∷ []) }) s.same
          ∙ ap (λ (h : Stored). record (resynced old) { held = h }) (grown_more old.held (take s.n tail) (r ∷ []))
          ∙ ap (λ (l : List Record). record (resynced old) { held = grown old.held l }) (sym next);
      commits = takes.commits ∙ s.commits;
    }

-- what is owed next
pub still_owed : (old mid : Machine) (r : Record) (rest : List Record) → TidiedSoFar old mid → tail_of mid.held.log ≡ r ∷ rest → IsOwedTo mid r
still_owed old mid r rest s e = record { partial = so_far_partial old mid s; rest = rest; first = e }

pub so_far_all : (old new : Machine) → TidiedSoFar old new → tail_of new.held.log ≡ [] → Tidied old new
so_far_all old new s e =
    let all : take s.n (tail_of old.held.log) ≡ tail_of old.held.log = take_rest_none (tail_of old.held.log) s.n (sym (left old new s) ∙ e) in
    record {
      after = s.same ∙ ap (λ (l : List Record). record (resynced old) { held = grown old.held l }) all;
      commits = s.commits;
      undone = is_undone-tail_of new.held.log e;
    }

pub so_far_front : (old new : Machine) → TidiedSoFar old new → NotTidied old new
so_far_front old new s = record { n = s.n; front = inr s.same; commits = s.commits }

pub so_far_same : (old mid new : Machine) → TidiedSoFar old mid → new ≡ mid → NotTidied old new
so_far_same old mid new s e = subst (λ (x : Machine). NotTidied old x) (sym e) (so_far_front old mid s)

-- ---- the partial record dropped

resync_by : (cause : Option Fault) (old new : Machine) → MatchOption cause (DropsPartial old (Ok tt) new) (λ f. (Ok (tt {0}) ≡ Err f) × (new ≡ old)) → new ≡ resynced old
resync_by None old new e = e
resync_by (Some f) old new e = cc e.0

pub resync_done : (old new : Machine) → Resyncs old (Ok tt) new → TidiedSoFar old new
resync_done old new e = so_far_none old new (resync_by (refusal old step.Resync) old new e)

unsynced_by : (cause : Option Fault) (f : Fault) (answer : Result (Unit {0}) Fault) (old new : Machine) → MatchOption cause (DropsPartial old (Err f) new) (λ g. (answer ≡ Err g) × (new ≡ old)) → new ≡ old
unsynced_by None f answer old new e = absurd e
unsynced_by (Some g) f answer old new e = e.1

pub resync_refused : (f : Fault) (old new : Machine) → Resyncs old (Err f) new → NotTidied old new
resync_refused f old new e =
    let same : new ≡ old = unsynced_by (refusal old step.Resync) f (Err f) old new e in
    record { n = 0; front = inl same; commits = ap (λ (x : Machine). commits_of x.held.log) same }

-- ---- what is acknowledged stays

pub keeps_grown : (m : Machine) (records : List Record) → Keeps m (record (resynced m) { held = grown m.held records })
keeps_grown m records =
    let k : Keeps m m = keeps_equal m m refl in
    record {
      acknowledged = k.acknowledged;
      more = records;
      log = refl;
      stopped = k.stopped;
      takeover = k.takeover;
      pages = refl;
      limit = refl;
      warm = k.warm;
      ready = k.ready;
      listed = k.listed;
      published = k.published;
      shown = k.shown;
      below = k.below;
    }

pub so_far_keeps : (old new : Machine) → TidiedSoFar old new → Keeps old new
so_far_keeps old new s = subst (Keeps old) (sym s.same) (keeps_grown old (take s.n (tail_of old.held.log)))

pub not_tidied_keeps : (old new : Machine) → NotTidied old new → Keeps old new
not_tidied_keeps old new s = elim s.front [
  | inl e ↦ keeps_equal old new e
  | inr e ↦ subst (Keeps old) (sym e) (keeps_grown old (take s.n (tail_of old.held.log)))
]

-- ---- what bounds the last commits still does

kept_bounds : (old new : Machine) (bounds : List ℕ) → Keeps old new → commits_of new.held.log ≡ commits_of old.held.log → AreBounds bounds old.held.pages old.held.log → AreBounds bounds new.held.pages new.held.log
kept_bounds old new bounds keeps commits a =
    subst (λ (pages : ℕ). AreBounds bounds pages new.held.log) (sym keeps.pages)
    (AreBounds-same bounds old.held.pages old.held.log new.held.log commits a)

pub so_far_bounds : (old new : Machine) (bounds : List ℕ) → TidiedSoFar old new → AreBounds bounds old.held.pages old.held.log → AreBounds bounds new.held.pages new.held.log
so_far_bounds old new bounds s a = kept_bounds old new bounds (so_far_keeps old new s) s.commits a

pub not_tidied_bounds : (old new : Machine) (bounds : List ℕ) → NotTidied old new → AreBounds bounds old.held.pages old.held.log → AreBounds bounds new.held.pages new.held.log
not_tidied_bounds old new bounds s a = kept_bounds old new bounds (not_tidied_keeps old new s) s.commits a
