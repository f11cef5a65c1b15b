-- The commits of a valid log stand in rising LSN, each with its record in the log.
use Rattle.std.proofs.Common.{◌≡◌, ℕ, ◌+◌, ◌-◌, ◌≤◌, ◌<◌, nat_le, nat_lt, Bool, true, false, cond, List, [], ◌∷◌, ◌++◌, length, length-append, filter, refl, sym, ap, ◌∙◌, subst, inl, inr, arith, append-nil, suc, take}
use Rattle.std.specs.List.{AllByRecursion}
use Rattle.std.proofs.lemmas.Bool.{cases_Bool, ltb-true, ltb-false, le-leb}
use Rattle.std.proofs.lemmas.Bool.Decides.{nat_tests}
use Rattle.std.proofs.lemmas.List.Elements.{filter-append}
use Rattle.als_record.specs.declared.lsn.Lsn.{Lsn}
use Rattle.als_record.specs.declared.record.Record.{Record}
use Rattle.als_record.specs.LogText.{end_of}
use Rattle.als_record.specs.Transactions.{is_commit}
use Rattle.als_record.specs.Validity.{is_valid, may_follow}
use Rattle.als_record.specs.Commits.{Commit, commits_of}
use Rattle.als_record.proofs.Validity.{valid_induction, is_valid-push, may_follow-admitted}
use Rattle.als_record.proofs.Places.{end_of-push, record_len-head}
use Rattle.als_record.proofs.CommitSteps.{commit_by, commits_of-push}
use Rattle.std.proofs.lemmas.Bool.{and_from}
use Rattle.als_commits.specs.Counting.{count_below}
use Rattle.als_commits.specs.Counting.{IsEnded, ended_count}

pub every : (P Q : Commit → Type 0) → ((c : Commit) → P c → Q c) → (cs : List Commit) → AllByRecursion P cs → AllByRecursion Q cs
every P Q f [] a = tt
every P Q f (c ∷ cs) a = (f c a.0, every P Q f cs a.1)

pub every-append : (P : Commit → Type 0) (cs ds : List Commit) → AllByRecursion P cs → AllByRecursion P ds → AllByRecursion P (cs ++ ds)
every-append P [] ds a b = b
every-append P (c ∷ cs) ds a b = (a.0, every-append P cs ds a.1 b)

-- each commit begins below those behind it
abbrev pub Rising : List Commit → Type 0
Rising [] = Unit {0}
Rising (c ∷ rest) = AllByRecursion (λ d. c.lsn.0 < d.lsn.0) rest × Rising rest

Rising-push : (cs : List Commit) (d : Commit) → Rising cs → AllByRecursion (λ c. c.lsn.0 < d.lsn.0) cs → Rising (cs ++ d ∷ [])
Rising-push [] d r a = (tt, tt)
Rising-push (c ∷ cs) d r a = (every-append (λ e. c.lsn.0 < e.lsn.0) cs (d ∷ []) r.0 (a.0, tt), Rising-push cs d r.1 a.1)

pub Rising-back : (cs ds : List Commit) → Rising (cs ++ ds) → Rising ds
Rising-back [] ds r = r
Rising-back (c ∷ cs) ds r = Rising-back cs ds r.1

pub record Stands (log : List Record) : Type 0 where
  pub rising : Rising (commits_of log)
  pub within : AllByRecursion (IsEnded (end_of log)) (commits_of log)
  pub few : length (commits_of log) + 16 ≤ end_of log

stands-nil : Stands []
unfolding commits_of end_of
stands-nil = record { rising = tt; within = tt; few = omega arith }

stands-push : (log : List Record) (r : Record) → is_valid (log ++ r ∷ []) ≡ true → r.lsn.0 ≡ end_of log → Stands log → Stands (log ++ r ∷ [])
stands-push log r v at s = go (is_commit r.body) refl
  where
    long : end_of log + 28 ≤ end_of (log ++ r ∷ [])
    long = omega (arith, end_of-push log r, record_len-head r)

    kept : AllByRecursion (IsEnded (end_of (log ++ r ∷ []))) (commits_of log)
    kept = every (IsEnded (end_of log)) (IsEnded (end_of (log ++ r ∷ []))) (λ c h. omega (arith, h, long)) (commits_of log) s.within

    go : (b : Bool) → is_commit r.body ≡ b → Stands (log ++ r ∷ [])
    go false e =
        let q : commits_of (log ++ r ∷ []) ≡ commits_of log = commits_of-push log r v ∙ ap (λ b. commits_of log ++ cond b (commit_by log r ∷ []) []) e ∙ append-nil (commits_of log) in
        record { rising = subst Rising (sym q) s.rising; within = subst (AllByRecursion (IsEnded (end_of (log ++ r ∷ [])))) (sym q) kept; few = omega (arith, ap (λ (cs : List Commit). length cs) q, s.few, long) }
    go true e =
        let one : Commit = commit_by log r in
        let q : commits_of (log ++ r ∷ []) ≡ commits_of log ++ one ∷ [] = commits_of-push log r v ∙ ap (λ b. commits_of log ++ cond b (one ∷ []) []) e in
        let below : AllByRecursion (λ c. c.lsn.0 < one.lsn.0) (commits_of log) = every (IsEnded (end_of log)) (λ c. c.lsn.0 < one.lsn.0) (λ c h. omega (arith, h, at)) (commits_of log) s.within in
        record {
          rising = subst Rising (sym q) (Rising-push (commits_of log) one s.rising below);
          within = subst (AllByRecursion (IsEnded (end_of (log ++ r ∷ [])))) (sym q) (every-append (IsEnded (end_of (log ++ r ∷ []))) (commits_of log) (one ∷ []) kept (omega (arith, at, long), tt));
          few = omega (arith, ap (λ (cs : List Commit). length cs) q, length-append (commits_of log) (one ∷ []), s.few, long);
        }

pub stands : (log : List Record) → is_valid log ≡ true → Stands log
stands log v = valid_induction Stands stands-nil (λ l r w h a. stands-push l r (is_valid-push l r ∙ and_from (is_valid l) (may_follow l r) w (may_follow-admitted l r a)) a.place h) log v

-- ---- how many end at or below an offset

pub all_ended : (a : ℕ) (cs : List Commit) → AllByRecursion (IsEnded a) cs → length (filter (λ c. nat_le (c.lsn.0 + 28) a) cs) ≡ length cs
all_ended a [] h = refl
all_ended a (c ∷ cs) h =
    let y : nat_le (c.lsn.0 + 28) a ≡ true = le-leb (c.lsn.0 + 28) a h.0 in
    ap (λ b. length (cond b (c ∷ filter (λ c. nat_le (c.lsn.0 + 28) a) cs) (filter (λ c. nat_le (c.lsn.0 + 28) a) cs))) y ∙ ap (λ n. suc n) (all_ended a cs h.1)

not_ended : (a : ℕ) (c : Commit) → a < c.lsn.0 + 28 → nat_le (c.lsn.0 + 28) a ≡ false
not_ended a c h = grind (arith, nat_tests)

pub none_ended : (a : ℕ) (cs : List Commit) → AllByRecursion (λ c. a < c.lsn.0 + 28) cs → length (filter (λ c. nat_le (c.lsn.0 + 28) a) cs) ≡ 0
none_ended a [] h = refl
none_ended a (c ∷ cs) h =
    let n : nat_le (c.lsn.0 + 28) a ≡ false = not_ended a c h.0 in
    ap (λ b. length (cond b (c ∷ filter (λ c. nat_le (c.lsn.0 + 28) a) cs) (filter (λ c. nat_le (c.lsn.0 + 28) a) cs))) n ∙ none_ended a cs h.1

-- of rising commits these are the first ones
first_ended : (a : ℕ) (lsn : Lsn) → lsn.0 ≡ a - 27 → (cs : List Commit) → Rising cs → length (filter (λ c. nat_le (c.lsn.0 + 28) a) cs) ≡ count_below lsn cs
first_ended a lsn e [] r = refl
first_ended a lsn e (c ∷ cs) r = elim (cases_Bool (nat_lt c.lsn.0 lsn.0)) [
  | inl y ↦
      let lt : c.lsn.0 < lsn.0 = ltb-true c.lsn.0 lsn.0 y in
      let z : nat_le (c.lsn.0 + 28) a ≡ true = le-leb (c.lsn.0 + 28) a (omega (arith, lt, e)) in
      rw (y, z) (ap (λ n. suc n) (first_ended a lsn e cs r.1))
  | inr n ↦
      let ge : lsn.0 ≤ c.lsn.0 = ltb-false c.lsn.0 lsn.0 n in
      let z : nat_le (c.lsn.0 + 28) a ≡ false = not_ended a c (omega (arith, ge, e)) in
      rw (n, z) (none_ended a cs (every (λ d. c.lsn.0 < d.lsn.0) (λ d. a < d.lsn.0 + 28) (λ d h. omega (arith, h, ge, e)) cs r.0))
]

pub ended_count-parts : (a : ℕ) (lsn : Lsn) → lsn.0 ≡ a - 27 → (front queued : List Commit) → AllByRecursion (IsEnded a) front → Rising queued → ended_count a (front ++ queued) ≡ length front + count_below lsn queued
unfolding ended_count
ended_count-parts a lsn e front queued h r =
    ap (λ (cs : List Commit). length cs) (filter-append (λ (c : Commit). nat_le (c.lsn.0 + 28) a) front queued)
    ∙ length-append (filter (λ c. nat_le (c.lsn.0 + 28) a) front) (filter (λ c. nat_le (c.lsn.0 + 28) a) queued)
    ∙ cc (all_ended a front h, first_ended a lsn e queued r)

-- those counted are ended
pub counted_ended : (a : ℕ) (lsn : Lsn) → lsn.0 ≡ a - 27 → (cs : List Commit) → AllByRecursion (IsEnded a) (take (count_below lsn cs) cs)
counted_ended a lsn e [] = tt
counted_ended a lsn e (c ∷ cs) = elim (cases_Bool (nat_lt c.lsn.0 lsn.0)) [
  | inl y ↦ let lt : c.lsn.0 < lsn.0 = ltb-true c.lsn.0 lsn.0 y in rw y (omega (arith, lt, e), counted_ended a lsn e cs)
  | inr n ↦ rw n tt
]

-- all commits of the log end in it
pub ended_count-all : (log : List Record) (a : ℕ) → is_valid log ≡ true → end_of log ≤ a → ended_count a (commits_of log) ≡ length (commits_of log)
unfolding ended_count
ended_count-all log a v le = all_ended a (commits_of log) (every (IsEnded (end_of log)) (IsEnded a) (λ c h. omega (arith, h, le)) (commits_of log) (stands log v).within)
