-- One record more of a log that is being read.
use Rattle.std.proofs.Common.{◌≡◌, ℕ, suc, ◌+◌, ◌-◌, ◌<◌, ◌≤◌, ◌^◌, Bool, true, false, List, [], ◌∷◌, ◌++◌, length, Option, Some, None, refl, sym, ap, subst, ◌∙◌, append_assoc, length-append, arith}
use Rattle.std.specs.Prelude.{if◌then◌else◌, IfSome, IsSome, IsSomeAnd, MatchOption, MatchBool}
use Rattle.std.specs.List.{AllByRecursion}
use Rattle.als_record.specs.declared.change.Change.{Change}
use Rattle.als_record.specs.declared.lsn.Lsn.{Lsn}
use Rattle.als_record.specs.declared.record.Record.{Record}
use Rattle.als_record.specs.declared.rows.LoggedPage.{LoggedPage}
use Rattle.als_record.specs.Pages.{change_of}
use Rattle.als_record.specs.Commits.{Commit}
use Rattle.als_record.specs.Spelling.{IsRecord}
use Rattle.als_record.specs.Validity.{IsValidLog}
use Rattle.als_record.specs.LogText.{end_of, IsLog, log_text}
use Rattle.als_record.proofs.LogLaws.{follow-cons}
use Rattle.als_record.proofs.PageLaws.{follow_from-parts, end_of-push, record_len-least}
use Rattle.als_analysis.specs.declared.open_row.OpenRow.{OpenRow}
use Rattle.als_analysis.specs.Open.{rows_of as transaction_rows}
use Rattle.als_ckpt_codec.specs.declared.checkpoint.Checkpoint.{Checkpoint}
use Rattle.als_ckpt_codec.specs.declared.numbers.Numbers.{Numbers}
use Rattle.als_scan.specs.Scanned.{Scanned, IsScanned, HandsOut, HandsNext}
use Rattle.als_tables.specs.declared.commit_count.CommitCount.{CommitCount}
use Rattle.als_tables.specs.Counting.{IsCountOf}
use Rattle.als_tables.specs.Fronts.{IsCheckpointOf, IsOfFront}
use Rattle.als_tables.proofs.Counts.{commit_count-few}
use Rattle.als_frames.specs.Frames.{Paged}
use Rattle.als_pool.specs.Queues.{total_waiting}
use Rattle.als_pool.specs.Pooled.{Pooled, unread_of}
use Rattle.als_pool.specs.Outcomes.{CanRoute}
use Rattle.als_pool.specs.Images.{QueuesOf, IsFromOn}
use Rattle.als_pool.specs.Restart.{HasRowsFrom}
use Rattle.als_pool.proofs.PoolLaws.{change_inside}
use Rattle.als_reopen.specs.Node.{position_of, rows_of}
use Rattle.als_reopen.specs.Reading.{IsReading, IsMetBefore, IsOneMore, IsFrontOf, IsBelowMark}
use Rattle.als_reopen.specs.Taking.{CanTake, Takes}
use Rattle.als_reopen.proofs.Fronts.{length-below_end, same_front, none_within}
use Rattle.als_reopen.proofs.Texts.{length-text}

-- ---- bounds

pub end_low : (s : Scanned) → IsScanned s → end_of s.log ≤ s.mark
end_low s f = omega (arith, f.size, ap length f.parts, length-append (log_text s.pages s.log) f.rest, length-text s.pages s.log)

-- the records of a log that a device holds are not so many
pub few_records : (s : Scanned) → IsScanned s → length s.log ≤ 2147483648
few_records s f = omega (arith, length-below_end s.log, end_low s f, f.high, f.few)

pub few_counted : (s : Scanned) (count : CommitCount) → IsScanned s → IsCountOf count s.log → (count.records < 4611686018427387904) × (count.commits < 4611686018427387904)
few_counted s count f h =
    let few = few_records s f in
    (omega (arith, few, h.records), omega (arith, few, h.commits, commit_count-few s.log))

-- ---- the record that is handed out

last-of : {X : Type 0} (P : X → Type 0) (xs : List X) (x : X) → AllByRecursion P (xs ++ x ∷ []) → P x
last-of P [] x all = all.0
last-of P (y ∷ ys) x all = last-of P ys x all.1

placed : (pages : ℕ) (log : List Record) (r : Record) → IsLog pages (log ++ r ∷ []) → r.lsn.0 ≡ end_of log
placed pages log r h = (follow-cons (end_of log) r [] (follow_from-parts log (r ∷ []) h.laid_out).1).placed

some_from : (o : Option Lsn) (P : Lsn → Type 0) → MatchOption o ⊥ P → IsSome o
some_from None P h = absurd h
some_from (Some from) P h = refl

-- the law by which a change goes behind others while a log is read
abbrev pub CanBeRead : Type 0
CanBeRead = (front : List Record) (r : Record) (c : Change) (position : Lsn) (rows : List LoggedPage) (pool : Pooled) → HasRowsFrom position rows pool → QueuesOf front pool → IsLog pool.frames.pages (front ++ r ∷ []) → r.lsn.0 ≡ end_of front
    → change_of r ≡ Some c → IsFromOn pool c → total_waiting pool.waits + 1 < 2 ^ 64 → CanRoute pool c

-- what is known of a record that was handed out
pub record Handed (pages : ℕ) (log : List Record) (r : Record) : Type 0 where
  pub is_log : IsLog pages (log ++ r ∷ [])
  pub at : r.lsn.0 ≡ end_of log
  pub fits : IsRecord pages r

-- the last record of a valid log
last_handed : (pages : ℕ) (log : List Record) (r : Record) → IsValidLog pages (log ++ r ∷ []) → Handed pages log r
last_handed pages log r v = record { is_log = v.text; at = placed pages log r v.text; fits = last-of (IsRecord pages) log r v.text.records }

handed : (old new : Scanned) (r : Record) → HandsOut old r new → IsScanned new → Handed old.pages old.log r
handed old new r h f = last_handed old.pages old.log r (subst (λ (s : Scanned). IsValidLog s.pages s.log) h.after f.valid)

module _ (checkpoint : Option Checkpoint) (s : Scanned) (pool : Pooled) (count : CommitCount) (reading : IsReading checkpoint s pool count) (r : Record) (h : Handed s.pages s.log r) where
  page_count : length pool.waits ≡ s.pages
  page_count = sym reading.rows.paged ∙ reading.paged

  -- its page was not read
  change_unread : (o : Option Change) → change_of r ≡ o → IfSome o (λ c. IsSome (unread_of pool.unread c.key.page))
  change_unread None is = tt
  change_unread (Some c) is =
      let lt : c.key.page < length pool.waits = omega (arith, change_inside s.pages s.log r c h.is_log h.at is, page_count) in
      some_from (unread_of pool.unread c.key.page) _ (reading.queues.each c.key.page lt)

  -- its change can go behind those that its page waits for
  change_can : CanBeRead → (o : Option Change) → change_of r ≡ o → IfSome o (λ c. IsFromOn pool c → CanRoute pool c)
  change_can law None is = tt
  change_can law (Some c) is = λ from.
      law s.log r c (position_of checkpoint) (rows_of checkpoint) pool reading.rows reading.queues (subst (λ n. IsLog n (s.log ++ r ∷ [])) (sym reading.paged) h.is_log) h.at is from
      (omega (arith, reading.few, few_records s reading.facts))

  -- and it is taken in
  read_on : (new : Scanned) (next : Pooled) (counted : CommitCount) → new ≡ record s { log = s.log ++ r ∷ [] } → IsScanned new → QueuesOf (s.log ++ r ∷ []) next
      → HasRowsFrom (position_of checkpoint) (rows_of checkpoint) next → total_waiting next.waits ≤ total_waiting pool.waits + 1 → next.frames ≡ pool.frames → next.next ≡ pool.next → IsCountOf counted (s.log ++ r ∷ []) → IsReading checkpoint new next counted
  read_on new next counted is facts queues rows few frames numbers counts =
      let log : new.log ≡ s.log ++ r ∷ [] = ap (λ (x : Scanned). x.log) is in
      record {
        facts = facts;
        paged = ap (λ (f : Paged). f.pages) frames ∙ reading.paged ∙ sym (ap (λ (x : Scanned). x.pages) is);
        queues = subst (λ (l : List Record). QueuesOf l next) (sym log) queues;
        rows = rows;
        few = omega (arith, few, reading.few, ap (λ (l : List Record). length l) log, length-append s.log (r ∷ []));
        numbered = numbers ∙ reading.numbered;
        counted = subst (IsCountOf counted) (sym log) counts;
      }

-- the next record can be taken
pub can_take : (checkpoint : Option Checkpoint) (s : Scanned) (pool : Pooled) (count : CommitCount) → CanBeRead → IsReading checkpoint s pool count → (r : Record) → IsValidLog s.pages (s.log ++ r ∷ []) → CanTake pool count r
can_take checkpoint s pool count law reading r valid =
    let h = last_handed s.pages s.log r valid in
    let few = few_counted s count reading.facts reading.counted in
    record {
      unread = change_unread checkpoint s pool count reading r h (change_of r) refl;
      can = change_can checkpoint s pool count reading r h law (change_of r) refl;
      records = few.0;
      commits = few.1;
    }

-- and where it was, or there is none, all is as it should be
pub taken_on : (checkpoint : Option Checkpoint) (s new : Scanned) (pool next : Pooled) (count counted : CommitCount) (before after : List Commit) (kept : Type 0) (more : Bool) → IsReading checkpoint s pool count → IsScanned new → next.frames ≡ pool.frames
    → (kept → (next ≡ pool) × (counted ≡ count)) → MatchBool more ((r : Record) × HandsOut s r new × Takes pool count before s.log r next counted after) (HandsNext s None new × kept) → IsReading checkpoint new next counted
taken_on checkpoint s new pool next count counted before after kept true reading facts frames same (r, out, took) =
    read_on checkpoint s pool count reading r (handed s new r out facts) new next counted out.after facts (took.queues reading.queues) (took.given (position_of checkpoint) (rows_of checkpoint) reading.rows) took.few frames took.numbers
    (took.count reading.counted)
taken_on checkpoint s new pool next count counted before after kept false reading facts frames same (none, k) =
    let is = same k in
    let first : IsReading checkpoint s pool counted = subst (IsReading checkpoint s pool) (sym is.1) reading in
    let second : IsReading checkpoint s next counted = subst (λ (p : Pooled). IsReading checkpoint s p counted) (sym is.0) first in
    subst (λ (x : Scanned). IsReading checkpoint x next counted) (sym none.1) second

-- ---- fronts of the whole log

-- the checkpoint of a front of a log is that of the front that ends at its position
pub met_front : (whole log rest : List Record) (c : Checkpoint) → whole ≡ log ++ rest → IsOfFront whole c → end_of log ≡ c.numbers.position.0 → IsCheckpointOf log c
met_front whole log rest c parts f at =
    let ends : c.numbers.position.0 ≡ end_of f.front = ap (λ (n : Numbers). n.position.0) f.holds.numbers in
    let same : f.front ≡ log = same_front f.front log f.rest rest (sym f.parts ∙ parts) (sym ends ∙ sym at) in
    subst (λ (l : List Record). IsCheckpointOf l c) same f.holds

pub met_none : (whole log rest : List Record) (o : Option Checkpoint) (c : Checkpoint) → o ≡ Some c → whole ≡ log ++ rest → IfSome o (IsOfFront whole) → IfSome o (λ c. end_of log ≤ c.numbers.position.0) → c.numbers.position.0 ≤ end_of log
    → (IsCheckpointOf log c → ⊥) → ⊥
met_none whole log rest None c is parts f low high no' = absurd cc
met_none whole log rest (Some d) c is parts f low high no' =
    let same : d ≡ c = cc in
    let of : IsOfFront whole c = subst (IsOfFront whole) same f in
    let under : end_of log ≤ c.numbers.position.0 = subst (λ (x : Checkpoint). end_of log ≤ x.numbers.position.0) same low in
    no' (met_front whole log rest c parts of (omega (arith, under, high)))

-- no front of a log passes over the position of its checkpoint
not_over : (whole old new : List Record) (c : Checkpoint) → IsOfFront whole c → end_of old < c.numbers.position.0 → c.numbers.position.0 < end_of new → IsOneMore old new → IsFrontOf new whole → ⊥
not_over whole old new c f low high one front =
    let ends : c.numbers.position.0 ≡ end_of f.front = ap (λ (n : Numbers). n.position.0) f.holds.numbers in
    let longer : end_of new ≡ end_of (old ++ one.r ∷ []) = ap end_of one.is in
    let parts : f.front ++ f.rest ≡ old ++ one.r ∷ front.rest
    = sym f.parts ∙ front.parts ∙ ap (λ (l : List Record). l ++ front.rest) one.is ∙ append_assoc old (one.r ∷ []) front.rest in
    none_within f.front f.rest old front.rest one.r parts (omega (arith, low, ends)) (omega (arith, high, ends, longer))

pub not_passed : (o : Option Checkpoint) (met more : Bool) (old new whole : List Record) (ended : Type 0) → IsMetBefore met old o → MatchBool more (IsOneMore old new) (ended × (new ≡ old)) → IsFrontOf new whole → IfSome o (IsOfFront whole)
    → IsSomeAnd o (λ c. (met ≡ false) × (c.numbers.position.0 < end_of new)) → ⊥
not_passed None met more old new whole ended before step front f past = absurd past
not_passed (Some c) true more old new whole ended before step front f past = let no' : true ≡ false = past.0 in absurd cc
not_passed (Some c) false true old new whole ended before step front f past = not_over whole old new c f before past.1 step front
not_passed (Some c) false false old new whole ended before step front f past = omega (arith, before, past.1, ap end_of step.1)

-- ---- the loop ends

-- with each step the bytes that are left get fewer, or none is left to take
pub steps_down : (more before : Bool) (old new : Scanned) (whole ended : Type 0) → MatchBool more (IsOneMore old.log new.log) (whole × (new.log ≡ old.log) × ended) → new.mark ≡ old.mark → IsScanned new → before ≡ true
    → new.mark - end_of new.log + (if more then 1 else 0) < old.mark - end_of old.log + (if before then 1 else 0)
steps_down true before old new whole ended step mark facts is =
    rw is (omega (arith, mark, end_low new facts, ap end_of step.is, end_of-push old.log step.r, record_len-least step.r))
steps_down false before old new whole ended step mark facts is = rw is (omega (arith, mark, ap end_of step.1))

-- ---- rows

pub length_rows : (os : List OpenRow) → length (transaction_rows os) ≡ length os
length_rows [] = refl
length_rows (o ∷ os) = ap (λ (n : ℕ). suc n) (length_rows os)

-- ---- the beginning

end-nil : end_of [] ≡ 16
unfolding end_of
end-nil = refl

-- no record ends past the position of a checkpoint yet
pub begins_met : (o : Option Checkpoint) (mark : ℕ) (log : List Record) → log ≡ [] → IfSome o (IsBelowMark mark) → IfSome o (λ c. end_of log ≤ c.numbers.position.0)
begins_met None mark log is h = tt
begins_met (Some c) mark log is h = omega (arith, ap end_of is, end-nil, h.0)
