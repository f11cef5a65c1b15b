-- Transactions in doubt, as they are spelled and written one after another.
use Rattle.std.proofs.Common.{◌≡◌, ℕ, zero, suc, ◌+◌, ◌<◌, ◌≤◌, nat_lt, Bool, true, ◌&&◌, cond, List, [], ◌∷◌, ◌++◌, length, map, flat_map, fold, drop, get_or, Option, None, inl, inr, refl, sym, ap, subst, ◌∙◌, arith, append_assoc, append-nil}
use Rattle.std.specs.List.{AllByRecursion}
use Rattle.std.specs.Prelude.{All}
use Rattle.std.specs.Io.KnownBytes.{Appends}
use Rattle.std.proofs.lemmas.Bool.{lt-ltb}
use Rattle.std.proofs.lemmas.Grind.{flat_map-append}
use Rattle.std.proofs.lemmas.List.{map_push, length-map}
use Rattle.std.proofs.lemmas.List.Sums.{fold-append}
use Rattle.als_record.specs.declared.key.Key.{Key}
use Rattle.als_record.specs.declared.record.Record.{Record}
use Rattle.als_record.specs.declared.trans_id.TransId.{TransId}
use Rattle.als_record.specs.Spelling.{Image, IsKey, spelling, record_len}
use Rattle.als_record.specs.LogText.{spellings, log_text, end_of}
use Rattle.als_record.specs.Transactions.{is_in_doubt, in_doubt, greatest_trans}
use Rattle.als_record.specs.Images.{image_now}
use Rattle.als_record.specs.Validity.{is_valid}
use Rattle.als_record.specs.Commits.{Commit, Write, after_write, seen_after}
use Rattle.als_record.proofs.Images.{image_now-push}
use Rattle.als_writing.specs.Writing.{Move, Writes, Prepares, record_for, moved, prepared, is_new}
use Rattle.als_writing.specs.declared.place.Place.{Place}
use Rattle.als_writing.specs.Placing.{IsPlaceOf, SoFar}
use Rattle.als_writing.proofs.Moved.{moved-none, moved-push}
use Rattle.als_writing.proofs.Spelt.{SoFar-none, SoFar-more, Spelled-more, end_of-more}
use Rattle.als_lookback.specs.declared.until.Until.TheVariants.{End}
use Rattle.als_lookback.specs.Doubts.{Doubt, doubt_in, doubts_in}
use Rattle.als_lookback.specs.Fronts.{IsFrontOf}
use Rattle.als_lookback.specs.Seen.{Seen, HasImages, commit_of}
use Rattle.als_renew.specs.declared.fault.Fault.{Fault}
use Rattle.als_renew.specs.declared.fault.Fault.TheVariants.{InDoubt}
use Rattle.als_renew.specs.Carried.{carried, MayCarry, HasNow, SpellsDoubt, WritesDoubt, WritesDoubts, IsUncarriable}
use Rattle.als_renew.specs.Refusals.{RefusesBegin}
use Rattle.als_renew.proofs.Carries.{carried-none, carried-next, may, valid_next, may_rest, greatest_next}
use Rattle.als_renew.proofs.Closing.{greatest-reaches}
use Rattle.als_renew.proofs.Doubts.{All-in_doubt}
use Rattle.als_renew.proofs.Written.{text-more}

-- ---- what the keys have

seen-more : (k : Key) (cs : List Commit) (c : Commit) → seen_after (cs ++ c ∷ []) k ≡ fold (after_write k) (seen_after cs k) (flat_map (λ (c : Commit). c.writes) (c ∷ []))
unfolding seen_after
seen-more k cs c =
    ap (fold (after_write k) None) (flat_map-append (λ (c : Commit). c.writes) cs (c ∷ []))
    ∙ fold-append (after_write k) None (flat_map (λ (c : Commit). c.writes) cs) (flat_map (λ (c : Commit). c.writes) (c ∷ []))

-- a key that is free of an update has what was found
pub found-now : (pages : ℕ) (log : List Record) (seen : Seen) (h : HasNow seen pages log) (key : Key) (image : Image) → IsKey pages key
    → image ≡ cond (nat_lt key.page pages && nat_lt key.slot 15) (seen_after h.commits key) None → image ≡ image_now log key
found-now pages log seen h key image is e =
    let a : nat_lt key.page pages ≡ true = lt-ltb key.page pages is.page in
    let b : nat_lt key.slot 15 ≡ true = lt-ltb key.slot 15 (omega (arith, is.slot)) in
    e
    ∙ ap (λ (x : Bool). cond (x && nat_lt key.slot 15) (seen_after h.commits key) None) a
    ∙ ap (λ (x : Bool). cond (true && x) (seen_after h.commits key) None) b
    ∙ h.now key is

-- one more update
pub now-written : (pages : ℕ) (log : List Record) (t : ℕ) (w : Write) (seen then : Seen) (h : HasNow seen pages log) → HasImages then pages (h.commits ++ commit_of w ∷ []) → HasNow then pages (log ++ record_for log t (Writes w) ∷ [])
now-written pages log t w seen then h images = record {
  commits = h.commits ++ commit_of w ∷ [];
  images = images;
  now = λ k is.
      seen-more k h.commits (commit_of w)
      ∙ ap (λ (x : Image). after_write k x w) (h.now k is)
      ∙ sym (image_now-push log (record_for log t (Writes w)) k);
}

-- a prepare record changes nothing
now-prepared : (pages : ℕ) (log : List Record) (t : ℕ) (seen : Seen) → HasNow seen pages log → HasNow seen pages (log ++ record_for log t Prepares ∷ [])
now-prepared pages log t seen h = record {
  commits = h.commits;
  images = h.images;
  now = λ k is. h.now k is ∙ sym (image_now-push log (record_for log t Prepares) k);
}

-- ---- the writes of one

pub record SpelledSoFar (pages : ℕ) (log : List Record) (t : ℕ) (writes left : List Write) (piece : List ℕ) (place : Place) (now : Seen) : Type 0 where
  pub done : List Write
  pub parts : done ++ left ≡ writes
  pub keys : AllByRecursion (λ (w : Write). IsKey pages w.key) left
  pub so_far : SoFar log t (map Writes done) piece place
  pub now_is : HasNow now pages (log ++ moved log t (map Writes done))

pub spelled-none : (pages : ℕ) (log : List Record) (t : ℕ) (writes : List Write) (piece : List ℕ) (place : Place) (now : Seen) → piece ≡ [] → IsPlaceOf place log → AllByRecursion (λ (w : Write). IsKey pages w.key) writes → HasNow now pages log
    → SpelledSoFar pages log t writes writes piece place now
spelled-none pages log t writes piece place now empty p keys h = record {
  done = [];
  parts = refl;
  keys = keys;
  so_far = SoFar-none log t piece place empty p;
  now_is = subst (HasNow now pages) (sym (moved-none log t)) h;
}

-- what one more write does behind any log
abbrev pub SpellsWrite : ℕ → ℕ → Write → List ℕ → List ℕ → Place → Place → Seen → Seen → Type 0
SpellsWrite pages t w piece after place next now then = (l : List Record) → IsPlaceOf place l → IsKey pages w.key → HasNow now pages l
    → (after ≡ piece ++ spelling (record_for l t (Writes w))) × IsPlaceOf next (l ++ record_for l t (Writes w) ∷ []) × HasNow then pages (l ++ record_for l t (Writes w) ∷ [])

pub spelled-next : (pages : ℕ) (log : List Record) (t : ℕ) (writes left : List Write) (w : Write) (piece after : List ℕ) (place next : Place) (now then : Seen) → SpelledSoFar pages log t writes (w ∷ left) piece place now
    → place.trans.0 ≡ t → SpellsWrite pages place.trans.0 w piece after place next now then → SpelledSoFar pages log t writes left after next then
spelled-next pages log t writes left w piece after place next now then s same g =
    let f : SpellsWrite pages t w piece after place next now then = subst (λ (n : ℕ). SpellsWrite pages n w piece after place next now then) same g in
    let moves : List Move = map Writes s.done in
    let l : List Record = log ++ moved log t moves in
    let r = f l s.so_far.behind s.keys.0 s.now_is in
    let more : map Writes (s.done ++ w ∷ []) ≡ moves ++ Writes w ∷ [] = map_push Writes s.done w in
    let path : l ++ record_for l t (Writes w) ∷ [] ≡ log ++ moved log t (map Writes (s.done ++ w ∷ [])) =
    append_assoc log (moved log t moves) (record_for l t (Writes w) ∷ []) ∙ ap (λ (rs : List Record). log ++ rs) (sym (moved-push log t moves (Writes w)) ∙ ap (moved log t) (sym more)) in
    record {
      done = s.done ++ w ∷ [];
      parts = append_assoc s.done (w ∷ []) left ∙ s.parts;
      keys = s.keys.1;
      so_far = subst (λ (xs : List Move). SoFar log t xs after next) (sym more) (SoFar-more log t moves piece after place next (Writes w) s.so_far r.0 r.1);
      now_is = subst (HasNow then pages) path r.2;
    }

pub spelled-all : (pages : ℕ) (log : List Record) (t : ℕ) (writes left : List Write) (piece : List ℕ) (place : Place) (now : Seen) → SpelledSoFar pages log t writes left piece place now → length left ≡ 0
    → SoFar log t (map Writes writes) piece place × HasNow now pages (log ++ moved log t (map Writes writes))
spelled-all pages log t writes [] piece place now s none =
    let is : s.done ≡ writes = sym (append-nil s.done) ∙ s.parts in (
      subst (λ (ws : List Write). SoFar log t (map Writes ws) piece place) is s.so_far,
      subst (λ (ws : List Write). HasNow now pages (log ++ moved log t (map Writes ws))) is s.now_is,
    )
spelled-all pages log t writes (w ∷ left) piece place now s none = absurd (omega (arith, none))

-- ---- and its prepare record

prepare_len : (log : List Record) (t : ℕ) → record_len (record_for log t Prepares) ≡ 28
unfolding record_len
prepare_len log t = refl

pub doubt-spelled : (pages : ℕ) (log : List Record) (d : Doubt) (piece after : List ℕ) (place : Place) (end : ℕ) (now : Seen)
    → SoFar log d.trans (map Writes d.writes) piece place × HasNow now pages (log ++ moved log d.trans (map Writes d.writes))
    → after ≡ piece ++ spelling (record_for (log ++ moved log d.trans (map Writes d.writes)) d.trans Prepares) → end ≡ place.end.0 + 28 → SpellsDoubt pages d log after end now
unfolding prepared
doubt-spelled pages log d piece after place end now s more ends =
    let t : ℕ = d.trans in
    let moves : List Move = map Writes d.writes in
    let l : List Record = log ++ moved log t moves in
    let path : l ++ record_for l t Prepares ∷ [] ≡ log ++ moved log t (moves ++ Prepares ∷ []) =
    append_assoc log (moved log t moves) (record_for l t Prepares ∷ []) ∙ ap (λ (rs : List Record). log ++ rs) (sym (moved-push log t moves Prepares)) in
    record {
      spelled = Spelled-more log t moves piece after Prepares s.0.spelled more;
      ends =
          ends
          ∙ ap (λ (x : ℕ). x + 28) s.0.behind.end
          ∙ ap (λ (x : ℕ). end_of l + x) (sym (prepare_len l t))
          ∙ sym (end_of-more log t moves Prepares);
      now_is = subst (HasNow now pages) path (now-prepared pages l t now s.1);
    }

-- ---- all of them

greatest-prepared : (t : ℕ) (ws : List Write) (log : List Record) → t ≤ greatest_trans (log ++ prepared log t ws)
unfolding prepared
greatest-prepared t [] log = greatest-reaches t Prepares [] log
greatest-prepared t (w ∷ ws) log = greatest-reaches t (Writes w) (map Writes ws ++ Prepares ∷ []) log

-- some are written behind a log, and the others would make it this one
pub record CarriedSoFar (pages : ℕ) (whole_log : List Record) (rest : List Doubt) (before new : Option (List ℕ)) (greatest end : ℕ) (now : Seen) : Type 0 where
  pub log : List Record
  pub valid : is_valid log ≡ true
  pub may_be : MayCarry pages log rest
  pub whole : log ++ carried log rest ≡ whole_log
  pub ends : end ≡ end_of log
  pub greatest_is : greatest ≡ greatest_trans log
  pub written : Appends before new (log_text pages log)
  pub now_is : HasNow now pages log

pub carried-step : (pages : ℕ) (whole_log : List Record) (d : Doubt) (rest : List Doubt) (before mid new : Option (List ℕ)) (greatest end next : ℕ) (now then : Seen) (s : CarriedSoFar pages whole_log (d ∷ rest) before mid greatest end now)
    → WritesDoubt pages d s.log mid new next then → CarriedSoFar pages whole_log rest before new d.trans next then
carried-step pages whole_log d rest before mid new greatest end next now then s w = record {
  log = s.log ++ prepared s.log d.trans d.writes;
  valid = valid_next pages s.log d rest s.valid s.may_be;
  may_be = may_rest pages s.log d rest s.valid s.may_be;
  whole = sym (carried-next s.log d rest) ∙ s.whole;
  ends = w.ends;
  greatest_is = omega (arith, greatest-prepared d.trans d.writes s.log, greatest_next pages s.log d rest s.valid s.may_be);
  written = text-more pages s.log (prepared s.log d.trans d.writes) before mid new s.written w.written;
  now_is = w.now_is;
}

-- that the next one may be written
pub next-new : (pages : ℕ) (log : List Record) (d : Doubt) (rest : List Doubt) → is_valid log ≡ true → MayCarry pages log (d ∷ rest) → (is_new log d.trans ≡ true) × AllByRecursion (λ (w : Write). IsKey pages w.key) d.writes
next-new pages log d rest v m = ((may pages log d rest v m).new, m.are.2)

pub carried-all : (pages : ℕ) (log : List Record) (ds rest : List Doubt) (before new : Option (List ℕ)) (greatest end : ℕ) (now : Seen) → CarriedSoFar pages (log ++ carried log ds) rest before new greatest end now → length rest ≡ 0
    → WritesDoubts pages log ds before new greatest end
carried-all pages log ds [] before new greatest end now s none =
    let is : s.log ≡ log ++ carried log ds = sym (carried-none s.log) ∙ s.whole in
    record {
      ends = s.ends ∙ ap end_of is;
      greatest_is = s.greatest_is ∙ ap greatest_trans is;
      written = subst (λ (l : List Record). Appends before new (log_text pages l)) is s.written;
    }
carried-all pages log ds (d ∷ rest) before new greatest end now s none = absurd (omega (arith, none))

-- ---- those that are left

pub drop-at : (xs : List Doubt) (i : ℕ) (d : Doubt) → i < length xs → get_or xs i d ∷ drop (i + 1) xs ≡ drop i xs
drop-at [] i d lt = absurd (omega arith)
drop-at (x ∷ xs) zero d lt = refl
drop-at (x ∷ xs) (suc i) d lt = let e : suc i + 1 ≡ suc (i + 1) = omega arith in ap (λ (n : ℕ). get_or xs i d ∷ drop n (x ∷ xs)) e ∙ drop-at xs i d (omega arith)

pub drop-none : (xs : List Doubt) (i : ℕ) → length xs ≤ i → length (drop i xs) ≡ 0
drop-none [] zero le = refl
drop-none [] (suc i) le = refl
drop-none (x ∷ xs) zero le = absurd (omega arith)
drop-none (x ∷ xs) (suc i) le = drop-none xs i (omega arith)

-- ---- those that can't be carried on

pub All-recursive : {X : Type 0} (P : X → Type 0) (xs : List X) → All P xs → AllByRecursion P xs
All-recursive P [] a = tt
All-recursive P (x ∷ xs) a = (a 0 x (omega arith), All-recursive P xs (λ i d lt. a (suc i) d (omega (arith, lt))))

-- the number of each is that of a transaction in doubt
doubt-at : (log : List Record) (ts : List ℕ) (i : ℕ) (d : Doubt) → AllByRecursion (λ t. is_in_doubt log t ≡ true) ts → i < length (map (doubt_in log) ts) → is_in_doubt log (get_or (map (doubt_in log) ts) i d).trans ≡ true
doubt-at log [] i d a lt = absurd (omega arith)
doubt-at log (t ∷ ts) zero d a lt = a.0
doubt-at log (t ∷ ts) (suc i) d a lt = doubt-at log ts i d a.1 (omega arith)

pub uncarriable : (text : Option (List ℕ)) (pages : ℕ) (held : List Record) (ds : List Doubt) (fault : Fault) → IsFrontOf text End pages held → ds ≡ doubts_in held
    → (trans : TransId) × (fault ≡ InDoubt trans) × IsUncarriable pages ds trans → RefusesBegin text fault
uncarriable text pages held ds fault whole are (trans, is, u) =
    let v : IsUncarriable pages (doubts_in held) trans = subst (λ (xs : List Doubt). IsUncarriable pages xs trans) are u in
    let here : is_in_doubt held (get_or (doubts_in held) v.i v.d).trans ≡ true = doubt-at held (in_doubt held) v.i v.d (All-in_doubt held) v.within in
    let number : trans.0 ≡ (get_or (doubts_in held) v.i v.d).trans = v.is ∙ ap (λ (x : Doubt). x.trans) v.at in
    subst (RefusesBegin text) (sym is) (record {
      pages = pages;
      held = held;
      whole = whole;
      doubt = (
        ap (is_in_doubt held) number ∙ here,
        elim v.cause [
          | inl low ↦ inl low
          | inr many ↦ inr (omega (arith, many, length-map (in_doubt held) (doubt_in held)))
        ],
      );
    })
