-- Transactions in doubt that are carried behind a log, one after another.
use Rattle.std.proofs.Common.{◌≡◌, ℕ, ◌+◌, ◌<◌, ◌≤◌, ◌^◌, true, false, List, [], ◌∷◌, ◌++◌, length, map, flat_map, fold, refl, sym, ap, ◌∙◌, subst, arith, append_assoc, append-nil}
use Rattle.std.specs.List.{AllByRecursion}
use Rattle.std.proofs.lemmas.Bool.{or_parts, and_from, lt-ltb}
use Rattle.std.proofs.lemmas.List.{length-append}
use Rattle.std.proofs.lemmas.List.Sums.{fold-append}
use Rattle.als_record.specs.declared.key.Key.{Key}
use Rattle.als_record.specs.declared.record.Record.{Record}
use Rattle.als_record.specs.LogText.{end_of}
use Rattle.als_record.specs.Transactions.{unended, in_doubt, is_in_doubt, greatest_trans}
use Rattle.als_record.specs.Images.{same_key, is_update_at, kept}
use Rattle.als_record.specs.Validity.{is_valid, IsValidLog}
use Rattle.als_record.specs.Commits.{Write, commits_of, after_write, writes_of}
use Rattle.als_record.specs.Tail.{tail_of}
use Rattle.als_record.proofs.Unended.{greatest_trans-push}
use Rattle.als_writing.specs.Writing.{Move, Writes, Prepares, body_for, record_for, moved, updates, prepared, is_free, is_new, MayWrite}
use Rattle.als_writing.proofs.Moved.{moved-next, moved-none, end_of-front}
use Rattle.als_writing.proofs.Others.{is_free-stays}
use Rattle.als_writing.proofs.Preparing.{prepared-is, valid_prepared, unended_prepared, in_doubt_prepared, commits_prepared, kept_prepared, tail_of-prepared, IsValidLog-prepared}
use Rattle.als_writing.proofs.Doubting.{writes_of-prepared}
use Rattle.als_lookback.specs.Doubts.{Doubt}
use Rattle.als_renew.specs.Carried.{numbers, carried, is_written, Misses, AreDoubts, AreFree, MayCarry}

-- ---- what the records of one transaction leave

-- the greatest number is not above that of the transaction, where it was not
greatest-moved : (n t : ℕ) (moves : List Move) (log : List Record) → greatest_trans log ≤ n → t ≤ n → greatest_trans (log ++ moved log t moves) ≤ n
greatest-moved n t [] log g h = rw (moved-none log t) g
greatest-moved n t (move ∷ rest) log g h =
    rw (moved-next log t move rest)
    (greatest-moved n t rest (log ++ record_for log t move ∷ [])
    (rw (greatest_trans-push log (record_for log t move)) (omega arith)) h)

-- a move that writes no key leaves it free
abbrev Spares : Key → Move → Type 0
Spares key move = (log : List Record) → is_update_at key (body_for log move) ≡ false

is_free-moved : (s : ℕ) (key : Key) (t : ℕ) (moves : List Move) → AllByRecursion (Spares key) moves → (log : List Record) → is_free log s key ≡ true → is_free (log ++ moved log t moves) s key ≡ true
is_free-moved s key t [] a log f = ap (λ l. is_free l s key) (moved-none log t) ∙ f
is_free-moved s key t (move ∷ rest) a log f =
    ap (λ l. is_free l s key) (moved-next log t move rest)
    ∙ is_free-moved s key t rest a.1 (log ++ record_for log t move ∷ []) (is_free-stays log (record_for log t move) s key (a.0 log) f)

-- writes that miss a key spare it, and so does the prepare record
spare_key : (key : Key) (ws : List Write) → is_written ws key ≡ false → AllByRecursion (Spares key) (map Writes ws ++ Prepares ∷ [])
spare_key key [] e = ((λ log. refl), tt)
spare_key key (w ∷ ws) e =
    let p : (same_key w.key key ≡ false) × (is_written ws key ≡ false) = or_parts (same_key w.key key) (is_written ws key) e in
    ((λ log. p.0), spare_key key ws p.1)

-- ---- the next doubt

module _ (pages : ℕ) (log : List Record) (d : Doubt) (rest : List Doubt) (v : is_valid log ≡ true) (m : MayCarry pages log (d ∷ rest)) where
  abbrev next : List Record
  next = log ++ prepared log d.trans d.writes

  few_unended : length (unended log) < 256
  few_unended = let f : length (unended log) + length (d ∷ rest) ≤ 256 = m.few in omega arith

  pub may : MayWrite pages log d.trans d.writes
  unfolding is_new
  may = record {
    new = and_from _ _ (lt-ltb (greatest_trans log) d.trans m.are.0) (lt-ltb (length (unended log)) 256 few_unended);
    width = m.are.1;
    free = m.free.0;
    keys = m.are.2;
    images = m.are.3;
  }

  same : next ≡ (log ++ updates log d.trans d.writes) ++ record_for (log ++ updates log d.trans d.writes) d.trans Prepares ∷ []
  same = prepared-is pages log d.trans d.writes v may

  pub valid_next : is_valid next ≡ true
  valid_next = ap is_valid same ∙ valid_prepared pages log d.trans d.writes v may

  pub unended_next : unended next ≡ unended log ++ d.trans ∷ []
  unended_next = ap unended same ∙ unended_prepared pages log d.trans d.writes v may

  pub in_doubt_next : in_doubt next ≡ in_doubt log ++ d.trans ∷ []
  in_doubt_next = ap in_doubt same ∙ in_doubt_prepared pages log d.trans d.writes v may

  pub greatest_next : greatest_trans next ≤ d.trans
  unfolding prepared
  greatest_next = greatest-moved d.trans d.trans (map Writes d.writes ++ Prepares ∷ []) log (let a : greatest_trans log < d.trans = m.are.0 in omega arith) (omega arith)

  lower : (least most : ℕ) → least ≤ most → (ds : List Doubt) → AreDoubts pages most ds → AreDoubts pages least ds
  lower least most le [] a = tt
  lower least most le (e ∷ es) a = ((let h : most < e.trans = a.0 in omega arith), a.1, a.2, a.3, a.4, a.5)

  free_one : (e : Doubt) (ws : List Write) → Misses d.writes ws → AllByRecursion (λ (w : Write). is_free log e.trans w.key ≡ true) ws → AllByRecursion (λ (w : Write). is_free next e.trans w.key ≡ true) ws
  unfolding prepared
  free_one e [] s f = tt
  free_one e (w ∷ ws) s f = (is_free-moved e.trans w.key d.trans (map Writes d.writes ++ Prepares ∷ []) (spare_key w.key d.writes s.0) log f.0, free_one e ws s.1 f.1)

  free_all : (es : List Doubt) → AllByRecursion (λ (e : Doubt). Misses d.writes e.writes) es → AreFree log es → AreFree next es
  free_all [] s f = tt
  free_all (e ∷ es) s f = (free_one e e.writes s.0 f.0, free_all es s.1 f.1)

  pub may_rest : MayCarry pages next rest
  may_rest = record {
    are = lower (greatest_trans next) d.trans greatest_next rest m.are.5;
    few = rw unended_next (let f : length (unended log) + length (d ∷ rest) ≤ 256 = m.few in omega (arith, length-append (unended log) (d.trans ∷ [])));
    free = free_all rest m.are.4 m.free.1;
  }

-- ---- all of them

pub record Carries (log : List Record) (ds : List Doubt) : Type 0 where
  pub valid : is_valid (log ++ carried log ds) ≡ true
  pub unended_are : unended (log ++ carried log ds) ≡ unended log ++ numbers ds
  pub doubts_are : in_doubt (log ++ carried log ds) ≡ in_doubt log ++ numbers ds
  pub commits : commits_of (log ++ carried log ds) ≡ commits_of log
  pub kept_are : (k : Key) → kept (log ++ carried log ds) k ≡ fold (after_write k) (kept log k) (flat_map (λ (d : Doubt). d.writes) ds)
  pub owed : tail_of log ≡ [] → tail_of (log ++ carried log ds) ≡ []

pub carried-none : (log : List Record) → log ++ carried log [] ≡ log
unfolding carried
carried-none log = append-nil log

pub carried-next : (log : List Record) (d : Doubt) (rest : List Doubt) → log ++ carried log (d ∷ rest) ≡ (log ++ prepared log d.trans d.writes) ++ carried (log ++ prepared log d.trans d.writes) rest
unfolding carried
carried-next log d rest = sym (append_assoc log (prepared log d.trans d.writes) (carried (log ++ prepared log d.trans d.writes) rest))

pub carries : (pages : ℕ) (ds : List Doubt) (log : List Record) → is_valid log ≡ true → MayCarry pages log ds → Carries log ds
carries pages [] log v m = record {
  valid = ap is_valid (carried-none log) ∙ v;
  unended_are = ap unended (carried-none log) ∙ sym (append-nil (unended log));
  doubts_are = ap in_doubt (carried-none log) ∙ sym (append-nil (in_doubt log));
  commits = ap commits_of (carried-none log);
  kept_are = λ k. ap (λ l. kept l k) (carried-none log);
  owed = λ t. ap tail_of (carried-none log) ∙ t;
}
carries pages (d ∷ rest) log v m =
    let p : MayWrite pages log d.trans d.writes = may pages log d rest v m in
    let s = prepared-is pages log d.trans d.writes v p in
    let i : Carries (log ++ prepared log d.trans d.writes) rest = carries pages rest (log ++ prepared log d.trans d.writes) (valid_next pages log d rest v m) (may_rest pages log d rest v m) in
    let e = carried-next log d rest in
    record {
      valid = ap is_valid e ∙ i.valid;
      unended_are = ap unended e ∙ i.unended_are ∙ ap (λ ts. ts ++ numbers rest) (unended_next pages log d rest v m) ∙ append_assoc (unended log) (d.trans ∷ []) (numbers rest);
      doubts_are = ap in_doubt e ∙ i.doubts_are ∙ ap (λ ts. ts ++ numbers rest) (in_doubt_next pages log d rest v m) ∙ append_assoc (in_doubt log) (d.trans ∷ []) (numbers rest);
      commits = ap commits_of e ∙ i.commits ∙ ap commits_of s ∙ commits_prepared pages log d.trans d.writes v p;
      kept_are = λ k.
          ap (λ l. kept l k) e ∙ i.kept_are k
          ∙ ap (λ x. fold (after_write k) x (flat_map (λ (d : Doubt). d.writes) rest)) (ap (λ l. kept l k) s ∙ kept_prepared pages log d.trans d.writes v p k)
          ∙ sym (fold-append (after_write k) (kept log k) d.writes (flat_map (λ (d : Doubt). d.writes) rest));
      owed = λ t. ap tail_of e ∙ i.owed (ap tail_of s ∙ tail_of-prepared pages log d.trans d.writes v p t);
    }

-- the text holds them
pub carried_fits : (pages : ℕ) (ds : List Doubt) (log : List Record) → IsValidLog pages log → MayCarry pages log ds → end_of (log ++ carried log ds) ≤ 2 ^ 64 → IsValidLog pages (log ++ carried log ds)
carried_fits pages [] log l m room = subst (IsValidLog pages) (sym (carried-none log)) l
carried_fits pages (d ∷ rest) log l m room =
    let p : MayWrite pages log d.trans d.writes = may pages log d rest l.valid m in
    let e = carried-next log d rest in
    let far : end_of ((log ++ prepared log d.trans d.writes) ++ carried (log ++ prepared log d.trans d.writes) rest) ≤ 2 ^ 64 = subst (λ l. end_of l ≤ 2 ^ 64) e room in
    let near : end_of (log ++ prepared log d.trans d.writes) ≤ 2 ^ 64 =
    (let f = end_of-front (log ++ prepared log d.trans d.writes) (carried (log ++ prepared log d.trans d.writes) rest) in omega arith) in
    subst (IsValidLog pages) (sym e)
    (carried_fits pages rest (log ++ prepared log d.trans d.writes) (IsValidLog-prepared pages log d.trans d.writes l p near) (may_rest pages log d rest l.valid m) far)

-- ---- what each of them wrote

pub keeps_writes : (pages : ℕ) (ds : List Doubt) (log more : List Record) → is_valid log ≡ true → MayCarry pages log ds → is_valid ((log ++ carried log ds) ++ more) ≡ true
    → AllByRecursion (λ (d : Doubt). is_in_doubt ((log ++ carried log ds) ++ more) d.trans ≡ true → writes_of ((log ++ carried log ds) ++ more) d.trans ≡ d.writes) ds
keeps_writes pages [] log more v m w = tt
keeps_writes pages (d ∷ rest) log more v m w =
    let p : MayWrite pages log d.trans d.writes = may pages log d rest v m in
    let next : List Record = log ++ prepared log d.trans d.writes in
    let e : (log ++ carried log (d ∷ rest)) ++ more ≡ (next ++ carried next rest) ++ more = ap (λ l. l ++ more) (carried-next log d rest) in
    let a : (next ++ carried next rest) ++ more ≡ next ++ (carried next rest ++ more) = append_assoc next (carried next rest) more in (
      (λ still.
          ap (λ l. writes_of l d.trans) (e ∙ a)
          ∙ writes_of-prepared pages log (carried next rest ++ more) d.trans d.writes p (ap is_valid (sym (e ∙ a)) ∙ w) (ap (λ l. is_in_doubt l d.trans) (sym (e ∙ a)) ∙ still)),
      subst (λ l. AllByRecursion (λ (x : Doubt). is_in_doubt l x.trans ≡ true → writes_of l x.trans ≡ x.writes) rest) (sym e)
          (keeps_writes pages rest next more (valid_next pages log d rest v m) (may_rest pages log d rest v m) (ap is_valid (sym e) ∙ w)),
    )
