-- What a log keeps, call by call.
use Rattle.std.proofs.Common.{◌≡◌, ℕ, ◌+◌, ◌-◌, ◌*◌, ◌/◌, ◌<◌, ◌≤◌, true, eqb, None, List, [], ◌∷◌, ◌++◌, length, drop, refl, sym, ap, subst, ◌∙◌, append_assoc, arith}
use Rattle.std.specs.Prelude.{Contains, slice_index, IsTrue}
use Rattle.std.specs.List.{AllByRecursion}
use Rattle.std.proofs.lemmas.Bool.{and_from, eq-eqb}
use Rattle.std.proofs.lemmas.List.{append-nil, length-append, length-drop, drop-drop, drop-append-le, get_or_append_left, get_or-drop}
use Rattle.als_record.specs.declared.record.Record.{Record}
use Rattle.als_record.specs.Spelling.{record_len, spelling, IsRecord}
use Rattle.als_record.specs.LogText.{header_bytes, spellings, log_text, end_of, follow_from, IsLog}
use Rattle.als_record.proofs.HeaderLaws.{length-header_bytes}
use Rattle.als_record.proofs.LogLaws.{spellings-nil, spellings_push, end_of_is, end_of_push, follow-append}
use Rattle.als_disk.specs.Slot.{Slot, SameBlocks, SameBlocksBut, IsSettled}
use Rattle.als_log.specs.Local.{IsFrontEnd, IsLocal}
use Rattle.als_log.specs.Near.{IsNear}
use Rattle.als_log.specs.declared.near.Near.{Near}
use Rattle.als_log.specs.Texts.{HasText, AllHaveText}
use Rattle.als_log.specs.Held.{IsStored, IsSettledBut, IsHeld, IsText}
use Rattle.als_log.specs.Reading.{IsReadable}
use Rattle.als_log.proofs.Nearness.{near-none, near-push, near-rise}

-- ---- settled blocks

pub all-settled : (slots : ℕ → Slot) (written synced : ℕ) → ((k : ℕ) → IsSettled (slots k)) → IsSettledBut slots written synced
all-settled slots written synced settled = record { before = λ k le. settled k; beyond = λ k lt. settled k }

pub settled-same : (old new : ℕ → Slot) (written synced : ℕ) → SameBlocks old new → IsSettledBut old written synced → IsSettledBut new written synced
settled-same old new written synced same s = record {
  before = λ k le. subst (λ (slot : Slot). IsSettled slot) (sym (same k)) (s.before k le);
  beyond = λ k lt. subst (λ (slot : Slot). IsSettled slot) (sym (same k)) (s.beyond k lt);
}

-- a write of the first block with unwritten bytes, one that failed too
pub settled-but : (old new : ℕ → Slot) (written synced next : ℕ) → SameBlocksBut (written / 512) old new → synced ≤ written → written ≤ next → IsSettledBut old written synced
    → IsSettledBut new next synced
settled-but old new written synced next others low more s = record {
  before = λ k le. subst (λ (slot : Slot). IsSettled slot) (sym (others k (λ (e : k ≡ written / 512). omega (arith, e, le, low)))) (s.before k le);
  beyond = λ k lt. subst (λ (slot : Slot). IsSettled slot) (sym (others k (λ (e : k ≡ written / 512). omega (arith, e, lt, more)))) (s.beyond k (omega (arith, lt, more)));
}

-- ---- lengths

pub length-text : (pages : ℕ) (log : List Record) → length (log_text pages log) ≡ end_of log
length-text pages log = omega (arith, length-append (header_bytes pages) (spellings log), length-header_bytes pages, end_of_is log)

module _ {pages : ℕ} {log : List Record} {base written synced cursor blocks : ℕ} {bytes : List ℕ} {near : Near} {slots : ℕ → Slot} (h : IsHeld pages log base written synced cursor blocks bytes near slots) where
  -- the bytes in memory reach to the end
  pub reach : base + length bytes ≡ end_of log
  reach =
      let len : length bytes ≡ end_of log - base = ap length h.tail.held ∙ length-drop base (log_text pages log) ∙ ap (λ (n : ℕ). n - base) (length-text pages log) in
      omega (arith, len, h.tail.low, h.order.order, h.order.within)

  pub local : (failures attempts room : ℕ) → IsLocal (record { pages = pages; log = log; written = written; synced = synced; blocks = blocks; failures = failures; attempts = attempts; room = room })
  local failures attempts room = record {
    is_log = h.order.is_log;
    fits = h.order.fits;
    written = h.order.within;
    synced = h.order.order;
    synced_front = h.order.front;
    few = h.order.few;
    some = h.order.some;
  }

  pub text : IsText log bytes base
  text = record { pages = pages; is_log = h.order.is_log; held = h.tail.held }

  -- the first block with unwritten bytes, as memory has it
  pub block_text : (block : List ℕ) → written < end_of log → ((o : ℕ) → o < 512 → slice_index block o ≡ slice_index bytes (512 * (written / 512) - base + o))
      → HasText (log_text pages log) (end_of log) (written / 512) block
  block_text block more has o lt below =
      let low : base ≤ 512 * (written / 512) = omega (arith, h.tail.low, h.tail.block, h.order.order) in
      let place : base + (512 * (written / 512) - base + o) ≡ 512 * (written / 512) + o = omega (arith, low) in
      has o lt
      ∙ ap (λ (xs : List ℕ). slice_index xs (512 * (written / 512) - base + o)) h.tail.held
      ∙ get_or-drop base (log_text pages log) (512 * (written / 512) - base + o) 0
      ∙ ap (slice_index (log_text pages log)) place

  pub low_block : base ≤ 512 * (written / 512)
  low_block = omega (arith, h.tail.low, h.tail.block, h.order.order)

  -- after a write
  pub held-write : (next : ℕ) (now : ℕ → Slot) → synced ≤ next → next ≤ end_of log → IsStored now (log_text pages log) next synced → IsSettledBut now next synced → IsHeld pages log base next synced cursor blocks bytes near now
  held-write next now low within stored settled = record {
    order = record { is_log = h.order.is_log; fits = h.order.fits; within = within; order = low; front = h.order.front; few = h.order.few; some = h.order.some };
    tail = h.tail;
    stored = stored;
    settled = settled;
    walked = h.walked;
    near = h.near;
  }

  -- after a sync
  pub held-sync : (whole : ℕ) (left : List ℕ) (now : ℕ → Slot) → IsFrontEnd log whole → synced ≤ whole → whole ≤ written → left ≡ drop (512 * (whole / 512) - base) bytes
      → IsStored now (log_text pages log) written whole → ((k : ℕ) → IsSettled (now k)) → IsHeld pages log (512 * (whole / 512)) written whole cursor blocks left near now
  held-sync whole left now front low within is stored settled =
      let below : base ≤ 512 * (whole / 512) = omega (arith, h.tail.low, h.tail.block, low) in
      let place : base + (512 * (whole / 512) - base) ≡ 512 * (whole / 512) = omega (arith, below) in
      record {
        order = record { is_log = h.order.is_log; fits = h.order.fits; within = h.order.within; order = within; front = front; few = h.order.few; some = h.order.some };
        tail = record {
          held = is ∙ ap (drop (512 * (whole / 512) - base)) h.tail.held ∙ drop-drop (512 * (whole / 512) - base) base (log_text pages log) ∙ ap (λ (n : ℕ). drop n (log_text pages log)) place;
          block = omega arith;
          low = omega arith;
        };
        stored = stored;
        settled = all-settled now written whole settled;
        walked = h.walked;
        near = near-rise near (log_text pages log) base (512 * (whole / 512)) below h.near;
      }

-- ---- one more record

text-push : (pages : ℕ) (log : List Record) (r : Record) → log_text pages (log ++ r ∷ []) ≡ log_text pages log ++ spelling r
text-push pages log r = ap (λ (xs : List ℕ). header_bytes pages ++ xs) (spellings_push log r) ∙ sym (append_assoc (header_bytes pages) (spellings log) (spelling r))

-- what has a text below an end within it has a longer one too
texts-more : (contents : ℕ → List (List ℕ)) (text more : List ℕ) (end : ℕ) → end ≤ length text → AllHaveText contents text end → AllHaveText contents (text ++ more) end
texts-more contents text more end within all b x has o lt below =
    all b x has o lt below ∙ sym (get_or_append_left text more 0 (512 * b + o) (omega (arith, within, below)))

all-push : (pages : ℕ) (log : List Record) (r : Record) → AllByRecursion (IsRecord pages) log → IsRecord pages r → AllByRecursion (IsRecord pages) (log ++ r ∷ [])
all-push pages [] r all is = (is, tt)
all-push pages (s ∷ log) r all is = (all.0, all-push pages log r all.1 is)

follow-one : (at : ℕ) (r : Record) → r.lsn.0 ≡ at → IsTrue (follow_from at (r ∷ []))
unfolding follow_from
follow-one at r is = and_from (eqb r.lsn.0 at) true (eq-eqb r.lsn.0 at is) refl

is_log-push : (pages : ℕ) (log : List Record) (r : Record) → IsLog pages log → IsRecord pages r → r.lsn.0 ≡ end_of log → IsLog pages (log ++ r ∷ [])
is_log-push pages log r is logged placed =
    let last : r.lsn.0 ≡ 16 + length (spellings log) = placed ∙ end_of_is log in
    record {
      laid_out = follow-append 16 log (r ∷ []) ∙ and_from (follow_from 16 log) (follow_from (16 + length (spellings log)) (r ∷ [])) is.laid_out (follow-one (16 + length (spellings log)) r last);
      records = all-push pages log r is.records logged;
    }

front-push : (log : List Record) (r : Record) (at : ℕ) → IsFrontEnd log at → IsFrontEnd (log ++ r ∷ []) at
front-push log r at f = record {
  front = f.front;
  rest = f.rest ++ r ∷ [];
  parts = ap (λ (xs : List Record). xs ++ r ∷ []) f.parts ∙ append_assoc f.front f.rest (r ∷ []);
  ends = f.ends;
}

pub held-push : {pages : ℕ} {log : List Record} {base written synced cursor blocks : ℕ} {bytes : List ℕ} {near : Near} {slots : ℕ → Slot} → IsHeld pages log base written synced cursor blocks bytes near slots
    → (r : Record) → IsRecord pages r → r.lsn.0 ≡ end_of log → end_of log + record_len r ≤ 512 * blocks
    → IsHeld pages (log ++ r ∷ []) base written synced cursor blocks (bytes ++ spelling r) near slots
held-push {pages} {log} {base} {written} {synced} {cursor} {blocks} {bytes} {near} {slots} h r logged placed fits =
    let longer = text-push pages log r in
    let len = length-text pages log in
    let within : base ≤ length (log_text pages log) = omega (arith, len, h.tail.low, h.order.order, h.order.within) in
    let stored : IsStored slots (log_text pages log ++ spelling r) written synced = record {
      kept = texts-more (λ b. (slots b).candidates) (log_text pages log) (spelling r) synced (omega (arith, len, h.order.order, h.order.within)) h.stored.kept;
      stored = texts-more (λ b. (slots b).readable) (log_text pages log) (spelling r) written (omega (arith, len, h.order.within)) h.stored.stored;
    } in
    record {
      order = record {
        is_log = is_log-push pages log r h.order.is_log logged placed;
        fits = omega (arith, fits, end_of_push log r);
        within = omega (arith, h.order.within, end_of_push log r);
        order = h.order.order;
        front = front-push log r synced h.order.front;
        few = h.order.few;
        some = h.order.some;
      };
      tail = record {
        held = ap (λ (xs : List ℕ). xs ++ spelling r) h.tail.held ∙ sym (drop-append-le base (log_text pages log) (spelling r) within) ∙ ap (drop base) (sym longer);
        block = h.tail.block;
        low = h.tail.low;
      };
      stored = subst (λ (xs : List ℕ). IsStored slots xs written synced) (sym longer) stored;
      settled = h.settled;
      walked = front-push log r cursor h.walked;
      near = subst (λ (xs : List ℕ). IsNear near xs base) (sym longer) (near-push near (log_text pages log) (spelling r) base within h.near);
    }

-- ---- the empty log

end-nil : end_of [] ≡ 16
unfolding end_of
end-nil = refl

text-nil : (pages : ℕ) → log_text pages [] ≡ header_bytes pages
text-nil pages = ap (λ (xs : List ℕ). header_bytes pages ++ xs) spellings-nil ∙ append-nil (header_bytes pages)

is_log-nil : (pages : ℕ) → IsLog pages []
unfolding follow_from
is_log-nil pages = record { laid_out = refl; records = tt }

pub held-new : (pages blocks : ℕ) (bytes : List ℕ) (near : Near) (slots : ℕ → Slot) → near.even.index ≡ None → near.odd.index ≡ None → 1 ≤ blocks → blocks ≤ 4194304 → bytes ≡ header_bytes pages → IsStored slots (header_bytes pages) 16 16 → ((k : ℕ) → IsSettled (slots k))
    → IsHeld pages [] 0 16 16 16 blocks bytes near slots
held-new pages blocks bytes near slots even odd some few is stored settled = record {
  order = record {
    is_log = is_log-nil pages;
    fits = omega (arith, end-nil, some);
    within = omega (arith, end-nil);
    order = omega arith;
    front = record { front = []; rest = []; parts = refl; ends = end-nil };
    few = few;
    some = some;
  };
  tail = record { held = is ∙ sym (text-nil pages); block = omega arith; low = omega arith };
  stored = subst (λ (xs : List ℕ). IsStored slots xs 16 16) (sym (text-nil pages)) stored;
  settled = all-settled slots 16 16 settled;
  walked = record { front = []; rest = []; parts = refl; ends = end-nil };
  near = near-none near (log_text pages []) 0 even odd;
}

-- ---- reading

same-readable : (old new : ℕ → Slot) → SameBlocks old new → (text : List ℕ) (written synced : ℕ) → IsStored old text written synced → IsStored new text written synced
same-readable old new same text written synced s = record {
  kept = λ b x has. s.kept b x (subst (λ (slot : Slot). Contains slot.candidates x) (same b) has);
  stored = λ b x has. s.stored b x (subst (λ (slot : Slot). Contains slot.readable x) (same b) has);
}

module _ {pages : ℕ} {log : List Record} {base written synced cursor blocks : ℕ} {bytes : List ℕ} {near : Near} {slots : ℕ → Slot} (h : IsHeld pages log base written synced cursor blocks bytes near slots) where
  -- the log's text can be read
  pub readable : IsReadable pages log slots blocks bytes base near
  readable = record {
    is_log = h.order.is_log;
    source = record {
      below = λ b x has o lt under. h.stored.stored b x has o lt (omega (arith, under, h.tail.low, h.order.order));
      held = h.tail.held;
      reach = omega (arith, length-text pages log, h.tail.low, h.order.order, h.order.within);
    };
    whole = h.tail.block;
    fits = h.order.fits;
    few = h.order.few;
    near = h.near;
  }

  -- after a reading
  pub held-read : (next : ℕ) (read : Near) (now : ℕ → Slot) → IsFrontEnd log next → IsNear read (log_text pages log) base → SameBlocks slots now → IsHeld pages log base written synced next blocks bytes read now
  held-read next read now front kept same = record {
    order = h.order;
    tail = h.tail;
    stored = same-readable slots now same (log_text pages log) written synced h.stored;
    settled = settled-same slots now written synced same h.settled;
    walked = front;
    near = kept;
  }

-- ---- a log that stands on a device

pub held-reopened : (pages blocks end : ℕ) (log : List Record) (bytes : List ℕ) (near : Near) (slots now : ℕ → Slot) → near.even.index ≡ None → near.odd.index ≡ None → IsLog pages log → end ≡ end_of log → end ≤ 512 * blocks → blocks ≤ 4194304 → bytes ≡ drop (512 * (end / 512)) (log_text pages log)
    → SameBlocks slots now → IsStored slots (log_text pages log) end end → ((k : ℕ) → IsSettled (slots k)) → IsHeld pages log (512 * (end / 512)) end end 16 blocks bytes near now
held-reopened pages blocks end log bytes near slots now even odd is at fits few held same stored settled = record {
  order = record {
    is_log = is;
    fits = omega (arith, at, fits);
    within = omega (arith, at);
    order = omega arith;
    front = record { front = log; rest = []; parts = sym (append-nil log); ends = sym at };
    few = few;
    some = omega (arith, at, fits, end_of_is log);
  };
  tail = record { held = held; block = omega arith; low = omega arith };
  stored = same-readable slots now same (log_text pages log) end end stored;
  settled = settled-same slots now end end same (all-settled slots end end settled);
  walked = record { front = []; rest = log; parts = refl; ends = end-nil };
  near = near-none near (log_text pages log) (512 * (end / 512)) even odd;
}
