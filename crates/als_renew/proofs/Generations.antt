-- A new generation, page by page.
use Rattle.std.proofs.Common.{◌≡◌, ◌≢◌, ◌⊎◌, ℕ, suc, ◌==◌, ◌+◌, ◌*◌, ◌^◌, ◌<◌, ◌≤◌, nat_lt, max, Bool, true, false, cond, not, ◌&&◌, List, [], ◌∷◌, ◌++◌, length, map, fold, Option, None, Some, refl, sym, ap, ◌∙◌, inl, inr, subst, arith, append-nil}
use Rattle.std.specs.List.{list_any, AllByRecursion}
use Rattle.std.proofs.lemmas.Bool.{cases_Bool, cases_lt, eqb-true, eq-eqb, lt-ltb, le-ltb, false≢true}
use Rattle.als_record.specs.declared.key.Key.{Key}
use Rattle.als_record.specs.declared.record.Record.{Record}
use Rattle.als_record.specs.Spelling.{Image, IsKey, IsImage}
use Rattle.als_record.specs.LogText.{end_of, follow_from}
use Rattle.als_record.specs.Transactions.{is_unended, is_open, is_among, transactions, unended, greatest_trans, all_surviving}
use Rattle.als_record.specs.Images.{image_now, is_update_at}
use Rattle.als_record.specs.Validity.{IsValidLog, is_valid, may_follow_all}
use Rattle.als_record.specs.Commits.{Write, commits_of, after_write, seen_after}
use Rattle.als_record.proofs.Unended.{is_among-unended, greatest_trans-push}
use Rattle.als_record.proofs.SeenCommits.{seen_after-commits_of}
use Rattle.als_writing.specs.Writing.{Move, Writes, Commits, Ends, record_for, moved, transaction, is_free, is_new, MayWrite}
use Rattle.als_writing.proofs.Moved.{moved-next, moved-none}
use Rattle.als_writing.proofs.Committing.{Committed-transaction}
use Rattle.als_writing.proofs.Fitting.{IsValidLog-transaction}
use Rattle.als_renew.specs.Pages.{value_in, key_at, page_writes, written_by, page_records, IsUnwritten}
use Rattle.als_renew.specs.Renewed.{IsWrittenBelow}
use Rattle.als_renew.proofs.PageWrites.{other_page, none-below, fold-others, fold-own, all-keys}

-- ---- no record

valid-nil : (pages : ℕ) → IsValidLog pages []
unfolding follow_from is_valid may_follow_all
valid-nil pages = record { text = record { laid_out = refl; records = tt }; valid = refl }

pub end-nil : end_of [] ≡ 16
unfolding end_of
end-nil = refl

-- ---- a transaction may begin where none is open

nobody : (f : Record → Bool) (us : List Record) → ((u : Record) → f u ≡ false) → list_any f us ≡ false
nobody f [] h = refl
nobody f (u ∷ us) h = let a : f u ≡ false = h u in let b : list_any f us ≡ false = nobody f us h in simp (a, b)

module _ (log : List Record) (none : unended log ≡ []) where
  closed : (t : ℕ) → is_unended log t ≡ false
  closed t = sym (is_among-unended log t) ∙ ap (λ (ts : List ℕ). is_among ts t) none

  pub free : (t : ℕ) (key : Key) → is_free log t key ≡ true
  unfolding is_free is_open
  free t key = ap not (nobody (λ u. is_update_at key u.body && not (u.trans.0 == t) && is_open log u.trans.0) (all_surviving log) here)
    where
      off : (a : Bool) → (a && false) ≡ false
      off true = refl
      off false = refl

      here : (u : Record) → (is_update_at key u.body && not (u.trans.0 == t) && is_open log u.trans.0) ≡ false
      here u = rw (closed u.trans.0) (off (is_update_at key u.body && not (u.trans.0 == t)))

  pub new : (t : ℕ) → greatest_trans log < t → is_new log t ≡ true
  unfolding is_new
  new t above =
      let a : nat_lt (greatest_trans log) t ≡ true = lt-ltb (greatest_trans log) t above in
      let b : nat_lt (length (unended log)) 256 ≡ true = ap (λ (ts : List ℕ). nat_lt (length ts) 256) none in
      simp (a, b)

-- where there is place for one more
pub new-behind : (log : List Record) → length (unended log) < 256 → (t : ℕ) → greatest_trans log < t → is_new log t ≡ true
unfolding is_new
new-behind log few t above =
    let a : nat_lt (greatest_trans log) t ≡ true = lt-ltb (greatest_trans log) t above in
    let b : nat_lt (length (unended log)) 256 ≡ true = lt-ltb (length (unended log)) 256 few in
    simp (a, b)

-- ---- the greatest number

pub greatest-moved : (t : ℕ) (moves : List Move) (log : List Record) → greatest_trans log ≤ t → greatest_trans (log ++ moved log t moves) ≤ t
greatest-moved t [] log le = omega (arith, le, ap greatest_trans (moved-none log t))
greatest-moved t (move ∷ rest) log le =
    let r : Record = record_for log t move in
    let one : greatest_trans (log ++ r ∷ []) ≡ max (greatest_trans log) t = greatest_trans-push log r in
    let le' : greatest_trans (log ++ r ∷ []) ≤ t = omega (arith, one, le) in
    omega (arith, ap greatest_trans (moved-next log t move rest), greatest-moved t rest (log ++ r ∷ []) le')

-- ---- what a transaction, or none, adds

pub record Added (pages : ℕ) (log : List Record) (t : ℕ) (ws : List Write) : Type 0 where
  pub valid : IsValidLog pages (log ++ written_by log t ws)
  pub seen : (k : Key) → seen_after (commits_of (log ++ written_by log t ws)) k ≡ fold (after_write k) (seen_after (commits_of log) k) ws
  pub now : (k : Key) → image_now (log ++ written_by log t ws) k ≡ fold (after_write k) (image_now log k) ws
  pub ended : unended (log ++ written_by log t ws) ≡ unended log
  pub greatest : greatest_trans log ≤ t → greatest_trans (log ++ written_by log t ws) ≤ t

pub adds : (pages : ℕ) (log : List Record) (t : ℕ) (ws : List Write) → IsValidLog pages log → MayWrite pages log t ws → end_of (log ++ written_by log t ws) ≤ 2 ^ 64 → Added pages log t ws
unfolding transaction
adds pages log t [] v m le =
    let same : log ++ [] ≡ log = append-nil log in
    record {
      valid = subst (IsValidLog pages) (sym same) v;
      seen = λ k. ap (λ (l : List Record). seen_after (commits_of l) k) same;
      now = λ k. ap (λ (l : List Record). image_now l k) same;
      ended = ap unended same;
      greatest = λ g. omega (arith, g, ap greatest_trans same);
    }
adds pages log t (w ∷ rest) v m le =
    let c = Committed-transaction pages log t (w ∷ rest) v.valid m in
    record {
      valid = IsValidLog-transaction pages log t (w ∷ rest) v m le;
      seen = λ k.
          seen_after-commits_of (log ++ transaction log t (w ∷ rest)) c.valid k
          ∙ c.won k
          ∙ ap (λ i. fold (after_write k) i (w ∷ rest)) (sym (seen_after-commits_of log v.valid k));
      now = c.now;
      ended = c.unended;
      greatest = greatest-moved t (map Writes (w ∷ rest) ++ Commits ∷ Ends ∷ []) log;
    }

-- ---- one more page

-- what a key has below a page
abbrev pub value_below : List Record → ℕ → Key → Image
value_below held page k = cond (nat_lt k.page page) (value_in held k) None

module _ (held : List Record) (page : ℕ) (k : Key) (slot : k.slot ≤ 14) where
  here : (x : Image) → x ≡ value_below held page k → fold (after_write k) x (page_writes (value_in held) page 15) ≡ value_below held (page + 1) k
  here x e = elim (cases_Bool (page == k.page)) [
    | inl same ↦
        let is : page ≡ k.page = eqb-true page k.page same in
        let before : nat_lt k.page page ≡ false = le-ltb k.page page (omega (arith, is)) in
        let behind : nat_lt k.page (page + 1) ≡ true = lt-ltb k.page (page + 1) (omega (arith, is)) in
        let nothing : x ≡ None = e ∙ ap (λ b. cond b (value_in held k) None) before in
        let key : key_at page k.slot ≡ k = ap (λ n. key_at n k.slot) is in
        ap (λ (y : Image). fold (after_write k) y (page_writes (value_in held) page 15)) nothing
        ∙ subst (λ (q : Key). fold (after_write q) None (page_writes (value_in held) page 15) ≡ value_in held q) key (fold-own (value_in held) page k.slot 15 (omega (arith, slot)))
        ∙ sym (ap (λ b. cond b (value_in held k) None) behind)
    | inr other ↦
        let differs : page ≢ k.page = λ q. false≢true (sym other ∙ eq-eqb page k.page q) in
        let same : nat_lt k.page page ≡ nat_lt k.page (page + 1) = elim (cases_lt k.page page) [
          | inl lt ↦ lt-ltb k.page page lt ∙ sym (lt-ltb k.page (page + 1) (omega (arith, lt)))
          | inr le ↦ le-ltb k.page page le ∙ sym (le-ltb k.page (page + 1) (above le differs))
        ] in
        fold-others k (page_writes (value_in held) page 15) x (none-below (value_in held) page k 15 (λ n lt. other_page page n k other))
        ∙ e
        ∙ ap (λ b. cond b (value_in held k) None) same
  ]
    where
      above : page ≤ k.page → page ≢ k.page → page + 1 ≤ k.page
      above le ne = elim (cases_lt page k.page) [
        | inl lt ↦ omega (arith, lt)
        | inr over ↦ absurd (ne (omega (arith, le, over)))
      ]

module _ (pages page : ℕ) (held log : List Record) (b : IsWrittenBelow pages page held log) (lt : page < pages) (few : pages < 2 ^ 32)
    (images : AllByRecursion (λ (w : Write). IsImage w.after) (page_writes (value_in held) page 15)) where
  may : MayWrite pages log (page + 1) (page_writes (value_in held) page 15)
  may = record {
    new = new log b.ended (page + 1) (omega (arith, b.greatest));
    width = omega (arith, lt, few);
    free = all-keys (value_in held) page (λ (k : Key). is_free log (page + 1) k ≡ true) 15 (λ slot l. free log b.ended (page + 1) (key_at page slot));
    keys = all-keys (value_in held) page (IsKey pages) 15 (λ slot l. record { page = lt; width = omega (arith, lt, few); slot = omega (arith, l) });
    images = images;
  }

  pub IsWrittenBelow-more : end_of (log ++ page_records (value_in held) page log) ≤ 16 + 1046 * (page + 1) → IsWrittenBelow pages (page + 1) held (log ++ page_records (value_in held) page log)
  IsWrittenBelow-more length =
      let a : Added pages log (page + 1) (page_writes (value_in held) page 15) = adds pages log (page + 1) (page_writes (value_in held) page 15) b.valid may (omega (arith, length, lt, few)) in
      record {
        valid = a.valid;
        seen = λ k s. a.seen k ∙ here held page k s (seen_after (commits_of log) k) (b.seen k s);
        now = λ k s. a.now k ∙ here held page k s (image_now log k) (b.now k s);
        ended = a.ended ∙ b.ended;
        greatest = a.greatest (omega (arith, b.greatest));
        length_is = length;
      }

seen_none : (k : Key) → seen_after (commits_of []) k ≡ None
unfolding seen_after commits_of
seen_none k = refl

now_none : (k : Key) → image_now [] k ≡ None
unfolding image_now
now_none k = refl

ended_none : unended [] ≡ []
unfolding unended transactions
ended_none = refl

pub greatest_none : greatest_trans [] ≡ 0
unfolding greatest_trans
greatest_none = refl

-- a log of no record
pub IsWrittenBelow-none : (pages : ℕ) (held : List Record) → IsWrittenBelow pages 0 held []
IsWrittenBelow-none pages held = record {
  valid = valid-nil pages;
  seen = λ k s. seen_none k ∙ sym (ap (λ b. cond b (value_in held k) None) (le-ltb k.page 0 (omega arith)));
  now = λ k s. now_none k ∙ sym (ap (λ b. cond b (value_in held k) None) (le-ltb k.page 0 (omega arith)));
  ended = ended_none;
  greatest = omega (arith, greatest_none);
  length_is = omega (arith, end-nil);
}

-- where the next page goes
pub IsUnwritten-below : (pages page : ℕ) (held log : List Record) (end : ℕ) → IsWrittenBelow pages page held log → end ≡ end_of log → IsUnwritten page end log
IsUnwritten-below pages page held log end b e = record {
  valid = b.valid.valid;
  ends = e;
  new = new log b.ended (page + 1) (omega (arith, b.greatest));
  nothing = λ slot lt. b.now (key_at page slot) (omega (arith, lt)) ∙ ap (λ c. cond c (value_in held (key_at page slot)) None) (le-ltb page page (omega arith));
}
