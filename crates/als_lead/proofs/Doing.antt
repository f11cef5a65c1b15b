-- What one work makes of a machine, and what several do.
use Rattle.std.proofs.Common.{◌≡◌, ◌⊎◌, ℕ, true, false, List, [], ◌∷◌, ◌++◌, refl, sym, ap, subst, ◌∙◌, inl, inr, append-nil, append_assoc, take}
use Rattle.std.specs.List.{AllByRecursion}
use Rattle.als_record.specs.declared.record.Record.{Record}
use Rattle.als_record.specs.declared.trans_id.TransId.{TransId}
use Rattle.als_record.specs.Commits.{Commit, Write, commits_of}
use Rattle.als_record.specs.Tail.{tail_of}
use Rattle.als_writing.specs.Writing.{Ends, record_for, prepared, MayWrite}
use Rattle.als_store.specs.declared.decision.Decision.{Decision}
use Rattle.als_engine.specs.Machine.{Machine, Keeps}
use Rattle.als_writer.specs.declared.not_decided.NotDecided.{NotDecided as Undecided}
use Rattle.als_writer.specs.declared.refusal.Refusal.{Refusal}
use Rattle.als_writer.specs.declared.refusal.Refusal.TheVariants.{Invalid, State, Untidy, Held, NotAsAsked, NumbersSpent, TooMany, LogFull, Memory, Unplanned}
use Rattle.als_writer.specs.declared.transaction.Transaction.{Transaction}
use Rattle.als_writer.specs.declared.work.Work.{Work}
use Rattle.als_writer.specs.declared.work.Work.TheVariants as work
use Rattle.als_writer.specs.declared.written.Written.{Written}
use Rattle.als_writer.specs.Refused.{ShowsFailing}
use Rattle.als_writer.specs.Committing.{committed, AreCommitted, Commits, IsCut, NotWritten}
use Rattle.als_writer.specs.Preparing.{Prepares, NotPrepared}
use Rattle.als_writer.specs.Deciding.{deciding, commits_by, Decides, DecisionRefused}
use Rattle.als_lead.specs.declared.answer.Answer.{Answer}
use Rattle.als_lead.specs.declared.answer.Answer.TheVariants.{Committed, Prepared, Decided, Refused, NotDecided, Unknown, Withheld}
use Rattle.als_lead.specs.declared.told.Told.{Told}
use Rattle.als_lead.specs.Going.{Grows, Tidies}
use Rattle.als_lead.specs.Answers.{IsIn, IsPreparedIn, IsDecidedIn, IsWritten, AddsWritten, AddsBy, Adds, IsNotDone, WasRefused, commit_by}
use Rattle.als_lead.specs.Groups.{IsHeld, IsHeldOf, IsUnwritten, IsUndecided, IsNotBegun, Does, DoesAll}
use Rattle.als_lead.proofs.Going.{grows_refl, grows_trans, grows_keeps}
use Rattle.als_lead.proofs.Placing.{transaction-parts}

-- ---- what is written

-- the commit of a transaction that is held, and behind it nothing or its end
behind_commit : (log : List Record) (t : ℕ) (writes : List Write) (records : List Record) → AreCommitted log t writes records → (rest : List Record) × (records ≡ committed log t writes ++ rest)
behind_commit log t writes records h = elim h [
  | inl whole ↦ (record_for (log ++ committed log t writes) t Ends ∷ [], whole ∙ transaction-parts log t writes)
  | inr short ↦ ([], short ∙ sym (append-nil (committed log t writes)))
]

is_in : (old : Machine) (t : Transaction) (w : Written) (new : Machine) → Commits old t w new → IsIn new t w
is_in old t w new c =
    let log : List Record = old.held.log in
    let writes : List Write = t.sets.items in
    let pages : new.held.pages ≡ old.held.pages = ap (λ (m : Machine). m.held.pages) c.in_log.after in
    let behind : (rest : List Record) × (c.in_log.records ≡ committed log w.trans.0 writes ++ rest) = behind_commit log w.trans.0 writes c.in_log.records c.in_log.whole in
    record {
      past = log;
      rest = behind.0;
      later = [];
      log = ap (λ (m : Machine). m.held.log) c.in_log.after ∙ ap (λ (l : List Record). log ++ l) behind.1 ∙ sym (append_assoc log (committed log w.trans.0 writes) behind.0);
      may = subst (λ (n : ℕ). MayWrite n log w.trans.0 writes) (sym pages) c.in_log.may;
      lsn = c.in_log.lsn;
      end = c.in_log.end;
      asked = c.asked;
      commits = c.in_log.commits;
    }

pub does_commit : (old : Machine) (t : Transaction) (w : Written) (new : Machine) → Commits old t w new → Keeps old new → Does old (work.Commit t) (Unknown w) new
does_commit old t w new c k = record {
  grows = grows_keeps old new k;
  added = commit_by t w ∷ [];
  commits = c.in_log.commits;
  adds = refl;
  held = is_in old t w new c;
  published = ap (λ (m : Machine). m.published) c.in_log.after;
}

is_prepared : (old : Machine) (t : Transaction) (w : Written) (new : Machine) → Prepares old t w new → IsPreparedIn new t w
is_prepared old t w new p =
    let records : List Record = prepared old.held.log w.trans.0 t.sets.items in
    let pages : new.held.pages ≡ old.held.pages = ap (λ (m : Machine). m.held.pages) p.in_log.after in
    record {
      past = old.held.log;
      rest = [];
      log = ap (λ (m : Machine). m.held.log) p.in_log.after ∙ sym (append-nil (old.held.log ++ records));
      may = subst (λ (n : ℕ). MayWrite n old.held.log w.trans.0 t.sets.items) (sym pages) p.in_log.may;
      lsn = p.in_log.lsn;
      end = p.in_log.end;
      asked = p.asked;
    }

pub does_prepare : (old : Machine) (t : Transaction) (w : Written) (new : Machine) → Prepares old t w new → Keeps old new → Does old (work.Prepare t) (Unknown w) new
does_prepare old t w new p k = record {
  grows = grows_keeps old new k;
  added = [];
  commits = p.in_log.commits ∙ sym (append-nil (commits_of old.held.log));
  adds = refl;
  held = is_prepared old t w new p;
  published = ap (λ (m : Machine). m.published) p.in_log.after;
}

decided_log : (old : Machine) (trans : TransId) (verdict : Decision) (w : Written) (new : Machine) → (d : Decides old trans verdict w new)
    → new.held.log ≡ old.held.log ++ deciding old.held.log trans verdict ∷ take d.n (tail_of d.mid.held.log)
decided_log old trans verdict w new d =
    let rest : List Record = take d.n (tail_of d.mid.held.log) in
    d.log ∙ ap (λ (m : Machine). m.held.log ++ rest) d.decided.after ∙ append_assoc old.held.log (deciding old.held.log trans verdict ∷ []) rest

is_decided : (old : Machine) (trans : TransId) (verdict : Decision) (w : Written) (new : Machine) → Decides old trans verdict w new → IsDecidedIn new trans verdict w
is_decided old trans verdict w new d = record {
  past = old.held.log;
  rest = take d.n (tail_of d.mid.held.log);
  log = decided_log old trans verdict w new d;
  doubted = d.decided.doubted;
  trans_is = d.decided.trans_is;
  lsn = d.decided.lsn;
  end = d.decided.end;
}

pub does_decide : (old : Machine) (trans : TransId) (verdict : Decision) (w : Written) (new : Machine) → Decides old trans verdict w new → Keeps old new → Does old (work.Decide trans verdict) (Unknown w) new
does_decide old trans verdict w new d k = record {
  grows = grows_keeps old new k;
  added = commits_by old.held.log trans verdict;
  commits = d.commits;
  adds = record {
    past = old.held.log;
    rest = deciding old.held.log trans verdict ∷ take d.n (tail_of d.mid.held.log);
    front = decided_log old trans verdict w new d;
    ends = sym d.decided.lsn;
    are = refl;
  };
  held = is_decided old trans verdict w new d;
  published = d.published;
}

-- ---- what is refused

-- a transaction that is not written leaves a front of its updates, or nothing
written_none : (old : Machine) (t : Transaction) (r : Refusal) (new : Machine) → NotWritten old t r new → IsCut old t new ⊎ (new ≡ old)
written_none old t (Memory true) new n = inl n
written_none old t (Memory false) new n = inr n.0
written_none old t (Invalid flaw) new n = inr n.0
written_none old t (State fault) new n = inr n.0
written_none old t Untidy new n = inr n.0
written_none old t (Held key by) new n = inr n.0
written_none old t (NotAsAsked failing) new n = inr n.0
written_none old t NumbersSpent new n = inr n.0
written_none old t TooMany new n = inr n.0
written_none old t LogFull new n = inr n.0
written_none old t (Unplanned fault) new n = inr n.0

prepared_none : (old : Machine) (t : Transaction) (r : Refusal) (new : Machine) → NotPrepared old t r new → IsCut old t new ⊎ (new ≡ old)
prepared_none old t (Memory true) new n = inl n
prepared_none old t (Memory false) new n = inr n.0
prepared_none old t (Invalid flaw) new n = inr n.0
prepared_none old t (State fault) new n = inr n.0
prepared_none old t Untidy new n = inr n.0
prepared_none old t (Held key by) new n = inr n.0
prepared_none old t (NotAsAsked failing) new n = inr n.0
prepared_none old t NumbersSpent new n = inr n.0
prepared_none old t TooMany new n = inr n.0
prepared_none old t LogFull new n = inr n.0
prepared_none old t (Unplanned fault) new n = inr n.0

-- neither brings a commit
none_commits : (old : Machine) (t : Transaction) (new : Machine) → IsCut old t new ⊎ (new ≡ old) → commits_of new.held.log ≡ commits_of old.held.log
none_commits old t new n = elim n [
  | inl cut ↦ cut.commits
  | inr e ↦ ap (λ (m : Machine). commits_of m.held.log) e
]

none_shown : (old : Machine) (t : Transaction) (new : Machine) → IsCut old t new ⊎ (new ≡ old) → new.published ≡ old.published
none_shown old t new n = elim n [
  | inl cut ↦ ap (λ (m : Machine). m.published) cut.after
  | inr e ↦ ap (λ (m : Machine). m.published) e
]

was_refused : (old : Machine) (asked : Work) (answer : Answer) (new : Machine) → IsNotDone old asked answer new → Keeps old new → WasRefused new asked answer
was_refused old asked answer new n k = record { before = old; after = new; refused = n; grown = grows_keeps old new k; goes_on = grows_refl new }

does_refuse : (old : Machine) (asked : Work) (r : Refusal) (new : Machine) → IsNotDone old asked (Refused r) new → commits_of new.held.log ≡ commits_of old.held.log → new.published ≡ old.published → Keeps old new → Does old asked (Refused r) new
does_refuse old asked r new n commits shown k = record {
  grows = grows_keeps old new k;
  added = [];
  commits = commits ∙ sym (append-nil (commits_of old.held.log));
  adds = refl;
  held = inl (was_refused old asked (Refused r) new n k);
  published = shown;
}

pub does_not_commit : (old : Machine) (t : Transaction) (r : Refusal) (new : Machine) → NotWritten old t r new → ShowsFailing old.held.log t.asks.items r → Keeps old new → Does old (work.Commit t) (Refused r) new
does_not_commit old t r new n shown k =
    let none : IsCut old t new ⊎ (new ≡ old) = written_none old t r new n in
    does_refuse old (work.Commit t) r new (n, shown) (none_commits old t new none) (none_shown old t new none) k

pub does_not_prepare : (old : Machine) (t : Transaction) (r : Refusal) (new : Machine) → NotPrepared old t r new → ShowsFailing old.held.log t.asks.items r → Keeps old new → Does old (work.Prepare t) (Refused r) new
does_not_prepare old t r new n shown k =
    let none : IsCut old t new ⊎ (new ≡ old) = prepared_none old t r new n in
    does_refuse old (work.Prepare t) r new (n, shown) (none_commits old t new none) (none_shown old t new none) k

pub does_not_decide : (old : Machine) (trans : TransId) (verdict : Decision) (r : Undecided) (new : Machine) → DecisionRefused old trans r → new ≡ old → Keeps old new → Does old (work.Decide trans verdict) (NotDecided r) new
does_not_decide old trans verdict r new refused same k = record {
  grows = grows_keeps old new k;
  added = [];
  commits = ap (λ (m : Machine). commits_of m.held.log) same ∙ sym (append-nil (commits_of old.held.log));
  adds = refl;
  held = inl (was_refused old (work.Decide trans verdict) (NotDecided r) new (same, refused) k);
  published = ap (λ (m : Machine). m.published) same;
}

-- ---- what is not begun

same_was : (m : Machine) (asked : Work) (answer : Answer) → IsNotDone m asked answer m → WasRefused m asked answer
same_was m asked answer n = record { before = m; after = m; refused = n; grown = grows_refl m; goes_on = grows_refl m }

pub commit_not_begun : (t : Transaction) (r : Refusal) → IsUnwritten r → IsNotBegun (work.Commit t) (Refused r)
commit_not_begun t r u = record { held = held; adds = λ log. refl }
  where
    held : (m : Machine) → IsHeld m (work.Commit t) (Refused r)
    held m = elim u [
      | inl e ↦ inl (same_was m (work.Commit t) (Refused r) (subst (λ (q : Refusal). NotWritten m t q m × ShowsFailing m.held.log t.asks.items q) (sym e) ((refl, refl), tt)))
      | inr ended ↦ inr ended
    ]

pub prepare_not_begun : (t : Transaction) (r : Refusal) → IsUnwritten r → IsNotBegun (work.Prepare t) (Refused r)
prepare_not_begun t r u = record { held = held; adds = λ log. refl }
  where
    held : (m : Machine) → IsHeld m (work.Prepare t) (Refused r)
    held m = elim u [
      | inl e ↦ inl (same_was m (work.Prepare t) (Refused r) (subst (λ (q : Refusal). NotPrepared m t q m × ShowsFailing m.held.log t.asks.items q) (sym e) ((refl, refl), tt)))
      | inr ended ↦ inr ended
    ]

pub decide_not_begun : (trans : TransId) (verdict : Decision) (r : Undecided) → IsUndecided r → IsNotBegun (work.Decide trans verdict) (NotDecided r)
decide_not_begun trans verdict r u = record { held = held; adds = λ log. refl }
  where
    held : (m : Machine) → IsHeld m (work.Decide trans verdict) (NotDecided r)
    held m = elim u [
      | inl e ↦ inl (same_was m (work.Decide trans verdict) (NotDecided r) (refl, subst (λ (q : Undecided). DecisionRefused m trans q) (sym e) tt))
      | inr ended ↦ inr ended
    ]

-- ---- what was owed came first

-- what brings no commit comes before a work
pub does_tidied : (old tidied new : Machine) (asked : Work) (answer : Answer) → Tidies old tidied → Does tidied asked answer new → Does old asked answer new
does_tidied old tidied new asked answer before last = record {
  grows = grows_trans old tidied new before.grows last.grows;
  added = last.added;
  commits = last.commits ∙ ap (λ (cs : List Commit). cs ++ last.added) before.commits;
  adds = last.adds;
  held = last.held;
  published = last.published ∙ before.published;
}

pub does_not_begin : (old new : Machine) (asked : Work) (answer : Answer) → Tidies old new → IsNotBegun asked answer → Does old asked answer new
does_not_begin old new asked answer before n = record {
  grows = before.grows;
  added = [];
  commits = before.commits ∙ sym (append-nil (commits_of old.held.log));
  adds = n.adds new.held.log;
  held = n.held new;
  published = before.published;
}

-- a work that adds no commit
none_added : (old new : Machine) (asked : Work) (answer : Answer) → (d : Does old asked answer new) → d.added ≡ [] → Tidies old new
none_added old new asked answer d e = record {
  grows = d.grows;
  commits = d.commits ∙ ap (λ (cs : List Commit). commits_of old.held.log ++ cs) e ∙ append-nil (commits_of old.held.log);
  published = d.published;
}

-- it is refused first, and then asked for again
pub refused_again : (old mid new : Machine) (asked : Work) (r : Refusal) (answer : Answer) → Does old asked (Refused r) mid → Does mid asked answer new → Does old asked answer new
refused_again old mid new asked r answer first last = does_tidied old mid new asked answer (none_added old mid asked (Refused r) first first.adds) last

pub undecided_again : (old mid new : Machine) (asked : Work) (r : Undecided) (answer : Answer) → Does old asked (NotDecided r) mid → Does mid asked answer new → Does old asked answer new
undecided_again old mid new asked r answer first last = does_tidied old mid new asked answer (none_added old mid asked (NotDecided r) first first.adds) last

-- ---- what is held stays so

in_on : (mid new : Machine) (cs : List Commit) → Grows mid new → commits_of new.held.log ≡ commits_of mid.held.log ++ cs → (t : Transaction) (w : Written) → IsIn mid t w → IsIn new t w
in_on mid new cs g e t w i =
    let records : List Record = committed i.past w.trans.0 t.sets.items in
    record {
      past = i.past;
      rest = i.rest ++ g.more;
      later = i.later ++ cs;
      log = g.log ∙ ap (λ (l : List Record). l ++ g.more) i.log ∙ append_assoc (i.past ++ records) i.rest g.more;
      may = subst (λ (n : ℕ). MayWrite n i.past w.trans.0 t.sets.items) (sym g.pages) i.may;
      lsn = i.lsn;
      end = i.end;
      asked = i.asked;
      commits = e ∙ ap (λ (x : List Commit). x ++ cs) i.commits ∙ append_assoc (commits_of i.past) (commit_by t w ∷ i.later) cs;
    }

prepared_on : (mid new : Machine) → Grows mid new → (t : Transaction) (w : Written) → IsPreparedIn mid t w → IsPreparedIn new t w
prepared_on mid new g t w i =
    let records : List Record = prepared i.past w.trans.0 t.sets.items in
    record {
      past = i.past;
      rest = i.rest ++ g.more;
      log = g.log ∙ ap (λ (l : List Record). l ++ g.more) i.log ∙ append_assoc (i.past ++ records) i.rest g.more;
      may = subst (λ (n : ℕ). MayWrite n i.past w.trans.0 t.sets.items) (sym g.pages) i.may;
      lsn = i.lsn;
      end = i.end;
      asked = i.asked;
    }

decided_on : (mid new : Machine) → Grows mid new → (trans : TransId) (verdict : Decision) (w : Written) → IsDecidedIn mid trans verdict w → IsDecidedIn new trans verdict w
decided_on mid new g trans verdict w i = record {
  past = i.past;
  rest = i.rest ++ g.more;
  log = g.log ∙ ap (λ (l : List Record). l ++ g.more) i.log ∙ append_assoc i.past (deciding i.past trans verdict ∷ i.rest) g.more;
  doubted = i.doubted;
  trans_is = i.trans_is;
  lsn = i.lsn;
  end = i.end;
}

pub written_on : (mid new : Machine) (cs : List Commit) → Grows mid new → commits_of new.held.log ≡ commits_of mid.held.log ++ cs → (asked : Work) (w : Written) → IsWritten mid asked w → IsWritten new asked w
written_on mid new cs g e (work.Commit t) w i = in_on mid new cs g e t w i
written_on mid new cs g e (work.Prepare t) w i = prepared_on mid new g t w i
written_on mid new cs g e (work.Decide trans verdict) w i = decided_on mid new g trans verdict w i

abbrev pub was_on : (mid new : Machine) (asked : Work) (answer : Answer) → Grows mid new → WasRefused mid asked answer → WasRefused new asked answer
was_on mid new asked answer g w = record { before = w.before; after = w.after; refused = w.refused; grown = w.grown; goes_on = grows_trans w.after mid new w.goes_on g }

held_on : (mid new : Machine) (cs : List Commit) → Grows mid new → commits_of new.held.log ≡ commits_of mid.held.log ++ cs → (asked : Work) (a : Answer) → IsHeld mid asked a → IsHeld new asked a
held_on mid new cs g e asked (Committed w) h = (h.0, written_on mid new cs g e asked w h.1)
held_on mid new cs g e asked (Prepared w) h = (h.0, written_on mid new cs g e asked w h.1)
held_on mid new cs g e asked (Decided w) h = (h.0, written_on mid new cs g e asked w h.1)
held_on mid new cs g e asked (Unknown w) h = written_on mid new cs g e asked w h
held_on mid new cs g e asked Withheld h = h
held_on mid new cs g e asked (Refused r) h = elim h [
  | inl was ↦ inl (was_on mid new asked (Refused r) g was)
  | inr ended ↦ inr ended
]
held_on mid new cs g e asked (NotDecided r) h = elim h [
  | inl was ↦ inl (was_on mid new asked (NotDecided r) g was)
  | inr ended ↦ inr ended
]

pub all_held_on : (mid new : Machine) (cs : List Commit) → Grows mid new → commits_of new.held.log ≡ commits_of mid.held.log ++ cs → (told : List Told) → AllByRecursion (IsHeldOf mid) told → AllByRecursion (IsHeldOf new) told
all_held_on mid new cs g e [] h = tt
all_held_on mid new cs g e (x ∷ xs) h = (held_on mid new cs g e x.asked.work x.answer h.0, all_held_on mid new cs g e xs h.1)

-- ---- what is added to the commits of a longer log

added_on : (log more : List Record) (asked : Work) (w : Written) (cs : List Commit) → AddsWritten log asked w cs → AddsWritten (log ++ more) asked w cs
added_on log more (work.Commit t) w cs a = a
added_on log more (work.Prepare t) w cs a = a
added_on log more (work.Decide trans verdict) w cs a = record {
  past = a.past;
  rest = a.rest ++ more;
  front = ap (λ (l : List Record). l ++ more) a.front ∙ append_assoc a.past a.rest more;
  ends = a.ends;
  are = a.are;
}

by_on : (log more : List Record) (asked : Work) (a : Answer) (cs : List Commit) → AddsBy log asked a cs → AddsBy (log ++ more) asked a cs
by_on log more asked (Committed w) cs a = added_on log more asked w cs a
by_on log more asked (Prepared w) cs a = added_on log more asked w cs a
by_on log more asked (Decided w) cs a = added_on log more asked w cs a
by_on log more asked (Unknown w) cs a = added_on log more asked w cs a
by_on log more asked (Refused r) cs a = a
by_on log more asked (NotDecided r) cs a = a
by_on log more asked Withheld cs a = a

adds_on : (log more : List Record) (told : List Told) (cs : List Commit) → Adds log told cs → Adds (log ++ more) told cs
adds_on log more [] cs a = a
adds_on log more (x ∷ xs) cs a = (a.0, a.1, a.2, by_on log more x.asked.work x.answer a.0 a.3, adds_on log more xs a.1 a.4)

pub adds_grown : (mid new : Machine) (told : List Told) (cs : List Commit) → Grows mid new → Adds mid.held.log told cs → Adds new.held.log told cs
adds_grown mid new told cs g a = subst (λ (l : List Record). Adds l told cs) (sym g.log) (adds_on mid.held.log g.more told cs a)

pub adds_both : (log : List Record) (xs ys : List Told) (cs ds : List Commit) → Adds log xs cs → Adds log ys ds → Adds log (xs ++ ys) (cs ++ ds)
adds_both log [] ys cs ds a b = subst (λ (c : List Commit). Adds log ys (c ++ ds)) (sym a) b
adds_both log (x ∷ xs) ys cs ds a b =
    (a.0, a.1 ++ ds, ap (λ (c : List Commit). c ++ ds) a.2 ∙ append_assoc a.0 a.1 ds, a.3, adds_both log xs ys a.1 ds a.4 b)

adds_one : (log : List Record) (x : Told) (cs : List Commit) → AddsBy log x.asked.work x.answer cs → Adds log (x ∷ []) cs
adds_one log x cs a = (cs, [], sym (append-nil cs), a, refl)

-- ---- several

pub all_append : (P : Told → Type 0) (xs ys : List Told) → AllByRecursion P xs → AllByRecursion P ys → AllByRecursion P (xs ++ ys)
all_append P [] ys h k = k
all_append P (x ∷ xs) ys h k = (h.0, all_append P xs ys h.1 k)

pub does_none : (m : Machine) → DoesAll m [] m
does_none m = record { grows = grows_refl m; added = []; commits = sym (append-nil (commits_of m.held.log)); adds = refl; held = tt; published = refl }

pub does_more : (old mid new : Machine) (told : List Told) (x : Told) → DoesAll old told mid → Does mid x.asked.work x.answer new → DoesAll old (told ++ x ∷ []) new
does_more old mid new told x d last = record {
  grows = grows_trans old mid new d.grows last.grows;
  added = d.added ++ last.added;
  commits = last.commits ∙ ap (λ (cs : List Commit). cs ++ last.added) d.commits ∙ append_assoc (commits_of old.held.log) d.added last.added;
  adds = adds_both new.held.log told (x ∷ []) d.added last.added (adds_grown mid new told d.added last.grows d.adds) (adds_one new.held.log x last.added last.adds);
  held = all_append (IsHeldOf new) told (x ∷ []) (all_held_on mid new last.added last.grows last.commits told d.held) (last.held, tt);
  published = last.published ∙ d.published;
}

pub does_then : (old mid new : Machine) (told : List Told) → DoesAll old told mid → Tidies mid new → DoesAll old told new
does_then old mid new told d t = record {
  grows = grows_trans old mid new d.grows t.grows;
  added = d.added;
  commits = t.commits ∙ d.commits;
  adds = adds_grown mid new told d.added t.grows d.adds;
  held = all_held_on mid new [] t.grows (t.commits ∙ sym (append-nil (commits_of mid.held.log))) told d.held;
  published = t.published ∙ d.published;
}
