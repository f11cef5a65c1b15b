-- The text of what a log begins with, as far as it is written.
use Rattle.std.proofs.Common.{◌≡◌, ℕ, suc, ◌==◌, ◌+◌, ◌^◌, ◌<◌, ◌≤◌, cond, arith, List, [], ◌∷◌, ◌++◌, length, map, Option, None, refl, sym, ap, subst, ◌∙◌, append_assoc, append-nil}
use Rattle.std.specs.List.{AllByRecursion}
use Rattle.std.proofs.lemmas.Bool.{lt-ltb}
use Rattle.std.proofs.lemmas.List.{length-map}
use Rattle.std.specs.Io.KnownBytes.{Appends}
use Rattle.std.proofs.KnownBytes.{Appends-trans}
use Rattle.als_record.specs.declared.key.Key.{Key}
use Rattle.als_record.specs.declared.record.Record.{Record}
use Rattle.als_record.specs.Spelling.{Image}
use Rattle.als_record.specs.LogText.{header_bytes, spellings, log_text, end_of}
use Rattle.als_record.specs.Transactions.{unended, in_doubt, greatest_trans}
use Rattle.als_record.specs.Validity.{IsValidLog}
use Rattle.als_record.specs.Commits.{commits_of}
use Rattle.als_record.proofs.LogLaws.{spellings-nil, spellings-append}
use Rattle.als_lookback.specs.Doubts.{Doubt, doubt_in, doubts_in}
use Rattle.als_lookback.specs.Seen.{Seen, IsSeenOf}
use Rattle.als_renew.specs.Beginning.{pages_written, raised, beginning_of}
use Rattle.als_renew.specs.Carried.{carried, MayCarry, HasNow}
use Rattle.als_renew.specs.Closing.{kept_number, closing}
use Rattle.als_renew.specs.Pages.{value_in, page_writes, page_records}
use Rattle.als_renew.specs.Renewed.{Begins, IsWrittenBelow, WritesPage, WritesPages}
use Rattle.als_renew.proofs.Begun.{IsOfPages, GoesOn, may, goes_on}
use Rattle.als_renew.proofs.Closing.{greatest-written}
use Rattle.als_renew.proofs.Generations.{end-nil, greatest_none, IsWrittenBelow-none}
use Rattle.als_renew.proofs.Raising.{begins-all}

-- ---- the pages

pages-none : (value : Key → Image) → [] ≡ pages_written value 0
unfolding pages_written
pages-none value = refl

pages-next : (value : Key → Image) (page : ℕ) → pages_written value (page + 1) ≡ pages_written value page ++ page_records value page (pages_written value page)
unfolding pages_written
pages-next value page = let e : page + 1 ≡ suc page = omega arith in ap (pages_written value) e

pub pages-header : (pages : ℕ) (held : List Record) (old new : Option (List ℕ)) (end : ℕ) → end ≡ 16 → Appends old new (header_bytes pages) → WritesPages pages 0 held old new 0 end
pages-header pages held old new end is written = record {
  log = [];
  is = pages-none (value_in held);
  below = IsWrittenBelow-none pages held;
  ends = is ∙ sym end-nil;
  greatest_is = sym greatest_none;
  written = subst (Appends old new) (sym (ap (λ (xs : List ℕ). header_bytes pages ++ xs) spellings-nil ∙ append-nil (header_bytes pages))) written;
}

-- a text of records, and more of them
pub text-more : (pages : ℕ) (log more : List Record) (old mid new : Option (List ℕ)) → Appends old mid (log_text pages log) → Appends mid new (spellings more) → Appends old new (log_text pages (log ++ more))
text-more pages log more old mid new before behind = subst (Appends old new)
    (append_assoc (header_bytes pages) (spellings log) (spellings more) ∙ ap (λ (xs : List ℕ). header_bytes pages ++ xs) (sym (spellings-append log more)))
    (Appends-trans old mid new (log_text pages log) (spellings more) before behind)

pub pages-page : (pages page : ℕ) (held : List Record) (old mid new : Option (List ℕ)) (greatest end next : ℕ) (s : WritesPages pages page held old mid greatest end) → WritesPage pages page held s.log mid new next
    → WritesPages pages (page + 1) held old new (cond (next == end) greatest (page + 1)) next
pages-page pages page held old mid new greatest end next s w =
    let more : List Record = page_records (value_in held) page s.log in
    record {
      log = s.log ++ more;
      is = ap (λ (l : List Record). l ++ page_records (value_in held) page l) s.is ∙ sym (pages-next (value_in held) page);
      below = w.below;
      ends = w.ends;
      greatest_is =
          ap (λ (n : ℕ). cond (n == end) greatest (page + 1)) w.ends
          ∙ ap (λ (n : ℕ). cond (end_of (s.log ++ more) == n) greatest (page + 1)) s.ends
          ∙ ap (λ (n : ℕ). cond (end_of (s.log ++ more) == end_of s.log) n (page + 1)) s.greatest_is
          ∙ sym (greatest-written s.log (page + 1) (page_writes (value_in held) page 15) (omega (arith, s.below.greatest)));
      written = text-more pages s.log more old mid new s.written w.written;
    }

-- ---- all of it

-- what readers see of the pages is what keys have now
pub now-pages : (pages : ℕ) (held log : List Record) (seen : Seen) → IsSeenOf seen pages held → IsWrittenBelow pages pages held log → HasNow seen pages log
now-pages pages held log seen i b = record {
  commits = commits_of held;
  images = record { pages_are = i.pages_are; images_are = i.images_are };
  now = λ k is. sym (b.now k is.slot ∙ ap (λ c. cond c (value_in held k) None) (lt-ltb k.page pages is.page));
}

pub of-pages : (pages : ℕ) (held log : List Record) → IsWrittenBelow pages pages held log → IsOfPages pages held log
of-pages pages held log b = record {
  valid = b.valid;
  seen = λ k is. b.seen k is.slot ∙ ap (λ c. cond c (value_in held k) None) (lt-ltb k.page pages is.page);
  ended = b.ended;
  low = b.greatest;
}

-- numbers of doubts are those of the transactions in doubt
above-doubts : (pages : ℕ) (log : List Record) (ts : List ℕ) → AllByRecursion (λ (d : Doubt). pages < d.trans) (map (doubt_in log) ts) → AllByRecursion (λ t. pages < t) ts
above-doubts pages log [] a = tt
above-doubts pages log (t ∷ ts) a = (a.0, above-doubts pages log ts a.1)

pub may-carry : (pages : ℕ) (held first : List Record) (ds : List Doubt) → IsValidLog pages held → IsOfPages pages held first → ds ≡ doubts_in held → AllByRecursion (λ (d : Doubt). pages < d.trans) ds → MayCarry pages first ds
may-carry pages held first ds l p are above =
    subst (MayCarry pages first) (sym are) (may pages held first l p (above-doubts pages held (in_doubt held) (subst (AllByRecursion (λ (d : Doubt). pages < d.trans)) are above)))

module _ (pages : ℕ) (held first : List Record) (ds : List Doubt) (l : IsValidLog pages held) (first_is : first ≡ pages_written (value_in held) pages) (p : IsOfPages pages held first) (are : ds ≡ doubts_in held)
    (above : AllByRecursion (λ (d : Doubt). pages < d.trans) ds) (few : length ds < 256) where
  abbrev log : List Record
  log = first ++ carried first ds

  pub goes-on : end_of log ≤ 2 ^ 64 → GoesOn pages held log
  goes-on room =
      let is : log ≡ first ++ carried first (doubts_in held) = ap (λ (xs : List Doubt). first ++ carried first xs) are in
      subst (GoesOn pages held) (sym is) (goes_on pages held first l p (above-doubts pages held (in_doubt held) (subst (AllByRecursion (λ (d : Doubt). pages < d.trans)) are above)) (subst (λ (x : List Record). end_of x ≤ 2 ^ 64) is room))

  pub few-open : end_of log ≤ 2 ^ 64 → length (unended log) < 256
  few-open room = omega (arith, few, ap (λ (ts : List ℕ). length ts) (goes-on room).open_are, ap (λ (xs : List Doubt). length xs) are, length-map (in_doubt held) (doubt_in held))

  pub beginning-is : (number : ℕ) → number ≡ kept_number (greatest_trans held) → raised number log ≡ beginning_of pages held
  unfolding beginning_of
  beginning-is number kept =
      ap (λ (n : ℕ). raised n log) kept
      ∙ ap (λ (xs : List Doubt). raised (kept_number (greatest_trans held)) (first ++ carried first xs)) are
      ∙ ap (λ (f : List Record). raised (kept_number (greatest_trans held)) (f ++ carried f (doubts_in held))) first_is

  pub begun : (number next : ℕ) (old mid new : Option (List ℕ)) → number ≡ kept_number (greatest_trans held) → number < 2 ^ 32 → end_of log ≤ 2 ^ 64 → next ≤ 2 ^ 64 → Appends old mid (log_text pages log)
      → (next ≡ end_of (log ++ closing number log)) × Appends mid new (spellings (closing number log))
      → Begins pages held (beginning_of pages held) × (next ≡ end_of (beginning_of pages held)) × Appends old new (log_text pages (beginning_of pages held))
  begun number next old mid new kept width room far written w =
      let is : raised number log ≡ beginning_of pages held = beginning-is number kept in (
        subst (Begins pages held) is (begins-all pages number held log (goes-on room) width (few-open room) (sym kept) (omega (arith, far, w.0))),
        w.0 ∙ ap end_of is,
        subst (λ (x : List Record). Appends old new (log_text pages x)) is (text-more pages log (closing number log) old mid new written w.1),
      )
