-- A scan, record by record.
use Rattle.std.proofs.Common.{◌≡◌, ℕ, ◌+◌, ◌*◌, ◌<◌, ◌≤◌, Bool, true, false, List, [], ◌∷◌, ◌++◌, length, take, drop, Option, Some, None, Ok, Err, refl, sym, ap, subst, ◌∙◌, append_assoc, append-nil, length-append, take-append-drop, arith}
use Rattle.std.proofs.lemmas.List.{take_at}
use Rattle.std.specs.Prelude.{MatchBool}
use Rattle.als_record.specs.declared.fault.Fault.{Fault as ShapeFault}
use Rattle.als_record.specs.declared.record.Record.{Record}
use Rattle.als_record.specs.Reading.{read_record}
use Rattle.als_record.specs.Spelling.{record_len, spelling}
use Rattle.als_record.specs.HeaderReading.{read_header}
use Rattle.als_record.specs.LogText.{header_bytes, spellings, log_text, end_of}
use Rattle.als_record.specs.Validity.{IsValidLog}
use Rattle.als_record.proofs.HeaderLaws.{length-header_bytes, header_again}
use Rattle.als_record.proofs.LogLaws.{spellings-nil, spellings_push, end_of_push}
use Rattle.als_record.proofs.ReadingLaws.{found_more, fault_more}
use Rattle.als_record.proofs.RecordLaws.{length-spelling}
use Rattle.als_disk.specs.Slot.{Slot, IsSettled, SameBlocks, GivesCandidates, HoldsBlocks}
use Rattle.als_scan.specs.declared.fault.Fault.{Fault}
use Rattle.als_scan.specs.declared.fault.Fault.TheVariants.{Shape, Invalid, BadControl, Device, Memory}
use Rattle.als_scan.specs.Judged.{Judged, Reads, IsReady, Takes, TakesNext, Refuses, begun, position_of, reading_of, HasHeader, FailsToBegin}
use Rattle.als_scan.specs.Scanned.{IsScan, IsScanned, Scanned, scanned, IsWhole, HandsOut, HandsNext, RefusesNext, RefusesHeader, RefusesLog}
use Rattle.als_scan.specs.Texts.{text_of, slots_from, slot_in, StandsBelow}
use Rattle.als_scan.proofs.JudgeLaws.{valid-nil, end-nil}
use Rattle.als_scan.proofs.TextLaws.{settled_stands, slot_at, text_from-same, slots_from-same, length-text_from, block_len, header_is}
use Rattle.als_scan.proofs.ReadingLaws.{drop_end, length-rest}

text-nil : (pages : ℕ) → log_text pages [] ≡ header_bytes pages
text-nil pages = ap (λ (xs : List ℕ). header_bytes pages ++ xs) spellings-nil ∙ append-nil (header_bytes pages)

-- what always holds
pub scan_facts : (pages mark blocks failures attempts : ℕ) (slots : ℕ → Slot) (j : Judged) → IsScan pages mark blocks slots j → IsScanned (scanned pages j.log mark slots blocks failures attempts)
scan_facts pages mark blocks failures attempts slots j s = record {
  valid = s.valid;
  rest = j.kept ++ s.reads.rest;
  parts = s.reads.parts ∙ ap (λ n. log_text n j.log ++ (j.kept ++ s.reads.rest)) s.page_count;
  size = length-text_from slots 0 mark;
  high = s.high;
  few = s.few;
}

pub facts_seen : (pages mark blocks failures attempts : ℕ) (slots : ℕ → Slot) (j : Judged) (now : Scanned) → scanned pages j.log mark slots blocks failures attempts ≡ now → IsScan pages mark blocks slots j → IsScanned now
facts_seen pages mark blocks failures attempts slots j now view s = subst IsScanned view (scan_facts pages mark blocks failures attempts slots j s)

-- what stands in a block, as callers see it
pub slot_seen : (pages mark blocks failures attempts k : ℕ) (log : List Record) (slots : ℕ → Slot) (now : Scanned) → scanned pages log mark slots blocks failures attempts ≡ now → k < now.blocks → slots k ≡ slot_in now.slots k
slot_seen pages mark blocks failures attempts k log slots now view lt =
    sym (slot_at blocks k slots (omega (arith, lt, ap (λ (s : Scanned). s.blocks) view))) ∙ ap (λ (s : Scanned). slot_in s.slots k) view

-- ---- the beginning

settled-same : (old new : ℕ → Slot) → SameBlocks old new → ((k : ℕ) → IsSettled (old k)) → (k : ℕ) → IsSettled (new k)
settled-same old new same settled k = subst IsSettled (sym (same k)) (settled k)

pub scan_new : (pages mark count blocks : ℕ) (old new : ℕ → Slot) (j : Judged) → GivesCandidates old → HoldsBlocks old → ((k : ℕ) → IsSettled (old k)) → blocks ≤ 4194304 → 16 ≤ mark → mark ≤ 512 * blocks
    → j ≡ begun pages → HasHeader old pages → SameBlocks old new → count ≡ blocks → IsScan pages mark count new j
scan_new pages mark count blocks old new j gives holds settled few low high e header same is =
    let text = text_of old mark in
    let whole = block_len old gives holds 0 header.block header.given in
    let front : header_bytes pages ≡ take 16 text = sym header.is ∙ header_is old text mark header.block (settled_stands old mark settled) header.given whole low in
    let parts : text ≡ log_text pages [] ++ ([] ++ drop 16 text) = sym (take-append-drop 16 text) ∙ ap (λ (xs : List ℕ). xs ++ drop 16 text) (sym front ∙ sym (text-nil pages)) in
    let reads : Reads text (begun pages) = record { rest = drop 16 text; parts = parts } in
    record {
      settled = settled-same old new same settled;
      few = omega (arith, few, is);
      low = low;
      high = omega (arith, high, is);
      page_count = ap (λ (x : Judged). x.pages) e;
      within = omega (arith, ap position_of e, end-nil, low);
      reads = subst (λ (xs : List ℕ). Reads xs j) (sym (text_from-same old new same 0 mark)) (subst (Reads text) (sym e) reads);
      valid = subst (IsValidLog pages) (sym (ap (λ (x : Judged). x.log) e)) (valid-nil pages);
    }

pub refuses_header : (pages mark before now : ℕ) (slots : ℕ → Slot) (fault : Fault) → GivesCandidates slots → HoldsBlocks slots → ((k : ℕ) → IsSettled (slots k)) → 16 ≤ mark
    → FailsToBegin fault slots pages before now → RefusesHeader fault (text_of slots mark) pages before now
refuses_header pages mark before now slots (Shape fault) gives holds settled low (is, other, same) =
    let whole = block_len slots gives holds 0 other.block other.given in
    let front = header_is slots (text_of slots mark) mark other.block (settled_stands slots mark settled) other.given whole low in
    (is, λ e. other.is_not (ap read_header front ∙ e), same)
refuses_header pages mark before now slots Device gives holds settled low h = h
refuses_header pages mark before now slots Memory gives holds settled low h = h
refuses_header pages mark before now slots (Invalid cause) gives holds settled low h = absurd h
refuses_header pages mark before now slots BadControl gives holds settled low h = absurd h

-- the header of a log's text is taken
pub bare_header : (pages before now : ℕ) (log : List Record) (text : List ℕ) (fault : Fault) → 1 ≤ pages → pages ≤ 4096 → text ≡ log_text pages log → RefusesHeader fault text pages before now → RefusesLog fault before now
bare_header pages before now log text (Shape fault) low high e (is, other, same) =
    let front : take 16 text ≡ header_bytes pages ++ [] = ap (take 16) e ∙ take_at (header_bytes pages) (spellings log) 16 (length-header_bytes pages) ∙ sym (append-nil (header_bytes pages)) in
    absurd (other (ap read_header front ∙ header_again pages [] low high))
bare_header pages before now log text Device low high e h = h
bare_header pages before now log text Memory low high e h = h
bare_header pages before now log text (Invalid cause) low high e h = absurd h
bare_header pages before now log text BadControl low high e h = absurd h

-- ---- more bytes

pub scan_fill : (pages mark count blocks : ℕ) (old new : ℕ → Slot) (j k : Judged) → IsScan pages mark count old j → SameBlocks old new → blocks ≡ count → k ≡ record j { kept = k.kept }
    → ((text : List ℕ) → StandsBelow old text mark → Reads text j → Reads text k) → position_of k ≤ mark → IsScan pages mark blocks new k
scan_fill pages mark count blocks old new j k s same is e reads within = record {
  settled = settled-same old new same s.settled;
  few = omega (arith, s.few, is);
  low = s.low;
  high = omega (arith, s.high, is);
  page_count = ap (λ (x : Judged). x.pages) e ∙ s.page_count;
  within = within;
  reads = subst (λ (xs : List ℕ). Reads xs k) (sym (text_from-same old new same 0 mark)) (reads (text_of old mark) (settled_stands old mark s.settled) s.reads);
  valid = subst (IsValidLog pages) (sym (ap (λ (x : Judged). x.log) e)) s.valid;
}

-- callers see the same
pub scanned-same : (pages mark count blocks before failures a attempts : ℕ) (log : List Record) (old new : ℕ → Slot) → SameBlocks old new → blocks ≡ count → failures ≡ before → attempts ≡ a
    → scanned pages log mark old count before a ≡ scanned pages log mark new blocks failures attempts
scanned-same pages mark count blocks before failures a attempts log old new same eb ef ea =
    ap (λ (xs : List ℕ). record { pages = pages; log = log; mark = mark; text = xs; slots = slots_from 0 count old; blocks = count; failures = before; attempts = a }) (sym (text_from-same old new same 0 mark))
    ∙ ap (λ (xs : List Slot). record { pages = pages; log = log; mark = mark; text = text_of new mark; slots = xs; blocks = count; failures = before; attempts = a }) (sym (slots_from-same old new same 0 count))
    ∙ ap (λ n. scanned pages log mark new n before a) (sym eb)
    ∙ ap (λ n. scanned pages log mark new blocks n a) (sym ef)
    ∙ ap (λ n. scanned pages log mark new blocks failures n) (sym ea)

pub seen_filled : (pages mark count blocks before failures a attempts : ℕ) (old new : ℕ → Slot) (j k : Judged) (now : Scanned) → scanned pages j.log mark old count before a ≡ now → SameBlocks old new → blocks ≡ count → failures ≡ before → attempts ≡ a
    → k ≡ record j { kept = k.kept } → now ≡ scanned pages k.log mark new blocks failures attempts
seen_filled pages mark count blocks before failures a attempts old new j k now view same eb ef ea e =
    sym view ∙ scanned-same pages mark count blocks before failures a attempts j.log old new same eb ef ea ∙ ap (λ (x : Judged). scanned pages x.log mark new blocks failures attempts) (sym e)

-- ---- the next record

length-zero : (xs : List ℕ) → length xs ≡ 0 → xs ≡ []
length-zero [] e = refl
length-zero (x ∷ xs) e = absurd (omega (arith, e))

log-push : (pages : ℕ) (log : List Record) (r : Record) → log_text pages (log ++ r ∷ []) ≡ log_text pages log ++ spelling r
log-push pages log r = ap (λ (xs : List ℕ). header_bytes pages ++ xs) (spellings_push log r) ∙ sym (append_assoc (header_bytes pages) (spellings log) (spelling r))

reads_taken : (text : List ℕ) (j k : Judged) (r : Record) → Takes j r k → Reads text j → Reads text k
reads_taken text j k r t reads =
    let rest = reads.rest in
    let parts : text ≡ log_text j.pages (j.log ++ r ∷ []) ++ (k.kept ++ rest)
    = reads.parts ∙ ap (λ (xs : List ℕ). log_text j.pages j.log ++ (xs ++ rest)) t.bytes ∙ ap (λ (xs : List ℕ). log_text j.pages j.log ++ xs) (append_assoc (spelling r) k.kept rest)
    ∙ sym (append_assoc (log_text j.pages j.log) (spelling r) (k.kept ++ rest)) ∙ ap (λ (xs : List ℕ). xs ++ (k.kept ++ rest)) (sym (log-push j.pages j.log r)) in
    let made : Reads text (record { pages = j.pages; log = j.log ++ r ∷ []; kept = k.kept }) = record { rest = rest; parts = parts } in
    subst (Reads text) (sym t.after) made

position_taken : (j k : Judged) (r : Record) → Takes j r k → position_of k ≡ position_of j
position_taken j k r t =
    let log : end_of k.log ≡ end_of j.log + record_len r = ap (λ (x : Judged). end_of x.log) t.after ∙ end_of_push j.log r in
    omega (arith, log, ap length t.bytes, length-append (spelling r) k.kept, length-spelling r)

pub scan_take : (pages mark blocks : ℕ) (slots : ℕ → Slot) (j k : Judged) (found : Option Record) → IsScan pages mark blocks slots j → TakesNext j found k → IsValidLog k.pages k.log → IsScan pages mark blocks slots k
scan_take pages mark blocks slots j k None s (none, empty, e) valid = subst (IsScan pages mark blocks slots) (sym e) s
scan_take pages mark blocks slots j k (Some r) s t valid =
    let count : k.pages ≡ pages = ap (λ (x : Judged). x.pages) t.after ∙ s.page_count in
    record {
      settled = s.settled;
      few = s.few;
      low = s.low;
      high = s.high;
      page_count = count;
      within = omega (arith, position_taken j k r t, s.within);
      reads = reads_taken (text_of slots mark) j k r t s.reads;
      valid = subst (λ n. IsValidLog n k.log) count valid;
    }

-- so it is with a record that is handed to a taker
pub scan_hand : (took : List Record → Record → Type 0) (kept : Type 0) (pages mark blocks : ℕ) (slots : ℕ → Slot) (j k : Judged) (more : Bool) → IsScan pages mark blocks slots j
    → MatchBool more ((r : Record) × Takes j r k × took j.log r) (TakesNext j None k × kept) → IsValidLog k.pages k.log → IsScan pages mark blocks slots k
scan_hand took kept pages mark blocks slots j k true s (r, t, w) valid = scan_take pages mark blocks slots j k (Some r) s t valid
scan_hand took kept pages mark blocks slots j k false s (t, w) valid = scan_take pages mark blocks slots j k None s t valid

module _ (pages mark blocks : ℕ) (slots : ℕ → Slot) (j : Judged) (s : IsScan pages mark blocks slots j) where
  there : read_record pages (end_of j.log) (drop (end_of j.log) (text_of slots mark)) ≡ read_record j.pages (end_of j.log) (j.kept ++ s.reads.rest)
  there = ap (λ n. read_record n (end_of j.log) (drop (end_of j.log) (text_of slots mark))) (sym s.page_count) ∙ ap (read_record j.pages (end_of j.log)) (drop_end (text_of slots mark) j s.reads)

  next_found : (x : Record × ℕ) → reading_of j ≡ Ok (Some x) → read_record pages (end_of j.log) (drop (end_of j.log) (text_of slots mark)) ≡ Ok (Some x)
  next_found x e = there ∙ found_more j.pages (end_of j.log) j.kept s.reads.rest x e

  next_fault : (fault : ShapeFault) → reading_of j ≡ Err fault → read_record pages (end_of j.log) (drop (end_of j.log) (text_of slots mark)) ≡ Err fault
  next_fault fault e = there ∙ fault_more j.pages (end_of j.log) j.kept s.reads.rest fault e

  no_rest : position_of j ≡ mark → s.reads.rest ≡ []
  no_rest at = length-zero s.reads.rest (omega (arith, at, length-rest (text_of slots mark) j s.reads, length-text_from slots 0 mark))

  next_none : position_of j ≡ mark → reading_of j ≡ Ok None → read_record pages (end_of j.log) (drop (end_of j.log) (text_of slots mark)) ≡ Ok None
  next_none at e = there ∙ ap (λ (xs : List ℕ). read_record j.pages (end_of j.log) (j.kept ++ xs)) (no_rest at) ∙ ap (read_record j.pages (end_of j.log)) (append-nil j.kept) ∙ e

  whole : (failures attempts : ℕ) → position_of j ≡ mark → length j.kept ≡ 0 → IsWhole (scanned pages j.log mark slots blocks failures attempts)
  whole failures attempts at none = record {
    text_is = s.reads.parts ∙ ap (λ n. log_text n j.log ++ (j.kept ++ s.reads.rest)) s.page_count
        ∙ ap (λ (xs : List ℕ). log_text pages j.log ++ xs) (ap (λ (xs : List ℕ). xs ++ s.reads.rest) (length-zero j.kept none) ∙ no_rest at) ∙ append-nil (log_text pages j.log);
    end_is = omega (arith, at, none);
  }

  pub hands_next : (failures attempts : ℕ) (k : Judged) (found : Option Record) → IsReady j mark → TakesNext j found k → HandsNext (scanned pages j.log mark slots blocks failures attempts) found (scanned pages k.log mark slots blocks failures attempts)
  hands_next failures attempts k None ready (none, empty, e) = (whole failures attempts (ready none) empty, ap (λ (x : Judged). scanned pages x.log mark slots blocks failures attempts) e)
  hands_next failures attempts k (Some r) ready t = record {
    reading = next_found (r, record_len r) t.reading;
    good = t.good;
    after = ap (λ (x : Judged). scanned pages x.log mark slots blocks failures attempts) t.after;
  }

  -- the same of a record that is handed to a taker, of which this holds
  pub hands_to : (took : List Record → Record → Type 0) (kept : Type 0) (failures attempts : ℕ) (k : Judged) (more : Bool) → IsReady j mark
      → MatchBool more ((r : Record) × Takes j r k × took j.log r) (TakesNext j None k × kept)
      → MatchBool more ((r : Record) × HandsOut (scanned pages j.log mark slots blocks failures attempts) r (scanned pages k.log mark slots blocks failures attempts) × took j.log r)
      (HandsNext (scanned pages j.log mark slots blocks failures attempts) None (scanned pages k.log mark slots blocks failures attempts) × kept)
  hands_to took kept failures attempts k true ready (r, t, w) = (r, hands_next failures attempts k (Some r) ready t, w)
  hands_to took kept failures attempts k false ready (t, w) = (hands_next failures attempts k None ready t, w)

  pub refuses_next : (failures attempts : ℕ) (k : Judged) (fault : Fault) → IsReady j mark → Refuses j fault → k ≡ j → RefusesNext (scanned pages j.log mark slots blocks failures attempts) fault (scanned pages k.log mark slots blocks failures attempts)
  refuses_next failures attempts k (Shape fault) ready h e = (next_fault fault h, ap (λ (x : Judged). scanned pages x.log mark slots blocks failures attempts) e)
  refuses_next failures attempts k (Invalid cause) ready h e =
      (record { bad = h.bad; reading = next_found (h.bad, record_len h.bad) h.reading; cause_is = h.cause_is }, ap (λ (x : Judged). scanned pages x.log mark slots blocks failures attempts) e)
  refuses_next failures attempts k BadControl ready h e =
      let at = ready h.0 in
      (record { reading = next_none at h.0; some = omega (arith, at, h.1) }, ap (λ (x : Judged). scanned pages x.log mark slots blocks failures attempts) e)
  refuses_next failures attempts k Memory ready h e = ap (λ (x : Judged). scanned pages x.log mark slots blocks failures attempts) e
  refuses_next failures attempts k Device ready h e = absurd h
