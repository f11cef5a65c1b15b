-- Records that go over one after another, and pieces of bytes one after another.
use Rattle.std.proofs.Common.{◌≡◌, ℕ, ◌+◌, ◌<◌, List, [], ◌∷◌, ◌++◌, length, take, drop}
use Rattle.std.proofs.Common.{take-append-drop, Some, None, Ok, refl, sym, ap, subst, ◌∙◌, inl, inr}
use Rattle.std.proofs.Common.{append_assoc, append-nil, length-append, arith}
use Rattle.als_record.specs.declared.record.Record.{Record}
use Rattle.als_record.specs.Spelling.{record_len, spelling}
use Rattle.als_record.specs.Reading.{read_record}
use Rattle.als_record.specs.Validity.{first_bad}
use Rattle.als_record.specs.LogText.{spellings, end_of}
use Rattle.als_record.proofs.RecordLaws.{length-spelling, record_len-low}
use Rattle.als_record.proofs.ReadingLaws.{found_more, fault_more}
use Rattle.als_record.proofs.LogLaws.{spellings-nil, spellings-append, spellings_push, end_of_push}
use Rattle.als_record.proofs.LogLaws.{end_of_is}
use Rattle.als_receiver.specs.Reception.{Reception, HandsOut, with_kept, fresh}
use Rattle.als_store.specs.declared.fault.Fault.{Fault as StoreFault}
use Rattle.als_store.specs.Stored.{Stored, routed, formatted, IsTooLong, IsRefused}
use Rattle.als_record.specs.Pages.{change_of}
use Rattle.als_pool.specs.Pooled.{Pooled}
use Rattle.std.proofs.lemmas.Grind.{fold-append}
use Rattle.als_engine.specs.declared.fault.Fault.{Fault}
use Rattle.als_engine.specs.declared.fault.Fault.TheVariants.{Memory}
use Rattle.als_engine.specs.Faults.{from_store}
use Rattle.als_engine.specs.Feeds.{IsCause, grown, AllFit}
use Rattle.als_engine.specs.TakingIn.{Meets, Rests, TakesOne, TakesAll, TakesFront}

-- ---- one record

pub hands_one : (held new : Stored) (before after : Reception) (r : Record) → Meets held before
    → first_bad held.log r ≡ None → (IsTooLong held r → ⊥) → HandsOut before r after
    → new ≡ grown held (r ∷ []) → TakesOne held before new after
hands_one held new before after r meets good fits out more = record {
  logged = r;
  reading = ap (λ n. read_record n (end_of held.log) before.kept) (sym meets.pages)
      ∙ ap (λ n. read_record before.pages n before.kept) (sym meets.wanted) ∙ out.reading;
  whole = out.bytes;
  good = good;
  fits = fits;
  after = more;
  meets = record {
    wanted = ap (λ (x : Reception). x.wanted) out.after ∙ ap (λ n. n + record_len r) meets.wanted
        ∙ sym (end_of_push held.log r) ∙ ap (λ (h : Stored). end_of h.log) (sym more);
    pages = ap (λ (x : Reception). x.pages) out.after ∙ meets.pages
        ∙ ap (λ (h : Stored). h.pages) (sym more);
    takes = ap (λ (x : Reception). x.refusal) out.after;
  };
}

-- ---- records one after another

-- of these bytes some records went over, and the receiver keeps the rest
pub record SoFar (old : Stored) (bytes : List ℕ) (new : Stored) (receiver : Reception) : Type
    0 where
  pub records : List Record
  pub whole : bytes ≡ spellings records ++ receiver.kept
  pub fit : AllFit old records
  pub after : new ≡ grown old records
  pub meets : Meets new receiver

same_log : (h : Stored) → h ≡ grown h []
same_log h = ap (λ (log : List Record). record h { log = log }) (sym (append-nil h.log))

-- a record more in the pages
abbrev pool_with : Pooled → Record → Pooled
pool_with pool r = routed pool (change_of r)

grown_more : (h : Stored) (xs ys : List Record) → grown (grown h xs) ys ≡ grown h (xs ++ ys)
grown_more h xs ys =
    λ j. record h {
      log = append_assoc h.log xs ys j;
      pool =
          sym (fold-append pool_with h.pool xs ys) j;
    }

grown_twice : (h a b : Stored) (xs ys : List Record) → a ≡ grown h xs → b ≡ grown a ys
    → b ≡ grown h (xs ++ ys)
grown_twice h a b xs ys e f = f ∙ ap (λ (x : Stored). grown x ys) e ∙ grown_more h xs ys

spelled_twice : (bytes mid rest : List ℕ) (xs ys : List Record) → bytes ≡ spellings xs ++ mid
    → mid ≡ spellings ys ++ rest → bytes ≡ spellings (xs ++ ys) ++ rest
spelled_twice bytes mid rest xs ys e f =
    e ∙ ap (λ (m : List ℕ). spellings xs ++ m) f
    ∙ sym (append_assoc (spellings xs) (spellings ys) rest)
    ∙ ap (λ (m : List ℕ). m ++ rest) (sym (spellings-append xs ys))

fit_append : (h : Stored) (xs ys : List Record) → AllFit h xs → AllFit (grown h xs) ys
    → AllFit h (xs ++ ys)
fit_append h [] ys fit rest = subst (λ (s : Stored). AllFit s ys) (sym (same_log h)) rest
fit_append h (x ∷ xs) ys fit rest = (
  fit.0,
  fit_append (grown h (x ∷ [])) xs ys fit.1
      (subst (λ (s : Stored). AllFit s ys) (sym (grown_more h (x ∷ []) xs)) rest),
)

fit_twice : (h a : Stored) (xs ys : List Record) → a ≡ grown h xs → AllFit h xs → AllFit a ys
    → AllFit h (xs ++ ys)
fit_twice h a xs ys e fit rest = fit_append h xs ys fit (subst (λ (x : Stored). AllFit x ys) e rest)

pub so_far_start : (held : Stored) (receiver : Reception) → Meets held receiver
    → SoFar held receiver.kept held receiver
so_far_start held receiver meets = record {
  records = [];
  whole = ap (λ (m : List ℕ). m ++ receiver.kept) (sym spellings-nil);
  fit = tt;
  after = same_log held;
  meets = meets;
}

pub so_far_more : (old now new : Stored) (bytes : List ℕ) (receiver after : Reception)
    → SoFar old bytes now receiver → TakesOne now receiver new after → SoFar old bytes new after
so_far_more old now new bytes receiver after so_far one =
    let r = one.logged in
    let single : spelling r ++ after.kept ≡ spellings (r ∷ []) ++ after.kept =
    ap (λ (m : List ℕ). m ++ after.kept)
    (sym (spellings_push [] r ∙ ap (λ (m : List ℕ). m ++ spelling r) spellings-nil)) in
    record {
      records = so_far.records ++ r ∷ [];
      whole = spelled_twice bytes receiver.kept after.kept so_far.records (r ∷ []) so_far.whole
          (one.whole ∙ single);
      fit = fit_twice old now so_far.records (r ∷ []) so_far.after so_far.fit (one.fits, tt);
      after = grown_twice old now new so_far.records (r ∷ []) so_far.after one.after;
      meets = one.meets;
    }

pub one_shorter : (now new : Stored) (receiver after : Reception) → TakesOne now receiver new after
    → length after.kept < length receiver.kept
one_shorter now new receiver after one =
    omega (
      arith,
      ap length one.whole,
      length-append (spelling one.logged) after.kept,
      length-spelling one.logged,
      record_len-low one.logged,
    )

pub all_from_so_far : (old new : Stored) (bytes : List ℕ) (receiver : Reception)
    → SoFar old bytes new receiver → Rests new receiver → TakesAll old bytes new receiver
all_from_so_far old new bytes receiver so_far rests =
    record {
      records = so_far.records;
      whole = so_far.whole;
      fit = so_far.fit;
      after =
          so_far.after;
      rests = rests;
    }

so_far_from_all : (old new : Stored) (bytes : List ℕ) (receiver : Reception)
    → TakesAll old bytes new receiver → SoFar old bytes new receiver
so_far_from_all old new bytes receiver all =
    record {
      records = all.records;
      whole = all.whole;
      fit = all.fit;
      after = all.after;
      meets =
          all.rests.meets;
    }

-- ---- a cause

cause_at : (old now : Stored) (xs ys : List Record) (rest : List ℕ) (fault : Fault)
    → now ≡ grown old xs → IsCause (grown now ys) rest fault
    → IsCause (grown old (xs ++ ys)) rest fault
cause_at old now xs ys rest fault e cause =
    let there : IsCause (grown (grown old xs) ys) rest fault =
    subst (λ (h : Stored). IsCause (grown h ys) rest fault) e cause in
    subst (λ (s : Stored). IsCause s rest fault) (grown_more old xs ys) there

-- a cause in front of more bytes is the same cause
cause_more : (held : Stored) (rest more : List ℕ) (fault : Fault) → IsCause held rest fault
    → IsCause held (rest ++ more) fault
cause_more held rest more fault cause = elim cause [
  | inl shape ↦ inl (
    shape.0,
    fault_more held.pages (end_of held.log) rest more shape.0 shape.1,
    shape.2,
  )
  | inr other ↦ elim other [
    | inl bad ↦ inr (inl (
      bad.0,
      bad.1,
      found_more held.pages (end_of held.log) rest more
          (bad.0, record_len bad.0) bad.2,
      bad.3,
      bad.4,
    ))
    | inr last ↦ elim last [
      | inl full ↦ inr (inr
          (inl (
            full.0,
            found_more held.pages (end_of held.log) rest more
                (full.0, record_len full.0) full.1,
            full.2,
            full.3,
            full.4,
          )))
      | inr memory ↦ inr (inr (inr memory))
    ]
  ]
]

-- why the record in front is not held is why the bytes are not
pub cause_refused : (held : Stored) (r : Record) (rest : List ℕ) (fault : StoreFault)
    → read_record held.pages (end_of held.log) rest ≡ Ok (Some (r, record_len r))
    → IsRefused held r fault → IsCause held rest (from_store fault)
cause_refused held r rest fault reading refused = elim refused [
  | inl bad ↦ inr (inl (r, bad.0, reading, bad.1, ap from_store bad.2))
  | inr other ↦ elim other [
    | inl full ↦ inr (inr (inl (r, reading, full.0, full.1, ap from_store full.2)))
    | inr memory ↦ inr (inr (inr (ap from_store memory)))
  ]
]

pub front_from_so_far : (old now : Stored) (bytes : List ℕ) (receiver : Reception) (fault : Fault)
    → SoFar old bytes now receiver → IsCause now receiver.kept fault
    → TakesFront old bytes now fault
front_from_so_far old now bytes receiver fault so_far cause = record {
  records = so_far.records;
  rest = receiver.kept;
  whole = so_far.whole;
  fit = so_far.fit;
  after = so_far.after;
  cause = subst (λ (h : Stored). IsCause h receiver.kept fault) so_far.after cause;
}

-- nothing goes over for want of memory
pub front_memory : (held : Stored) (bytes : List ℕ) → TakesFront held bytes held Memory
front_memory held bytes = record {
  records = [];
  rest = bytes;
  whole = ap (λ (m : List ℕ). m ++ bytes) (sym spellings-nil);
  fit = tt;
  after = same_log held;
  cause = inr (inr (inr refl));
}

-- ---- pieces one after another

pub all_start : (held : Stored) (receiver : Reception) → Rests held receiver
    → TakesAll held receiver.kept held receiver
all_start held receiver rests =
    all_from_so_far held held receiver.kept receiver (so_far_start held receiver rests.meets) rests

pub all_then_all : (old now new : Stored) (bytes chunk : List ℕ) (receiver after : Reception)
    → TakesAll old bytes now receiver → TakesAll now (receiver.kept ++ chunk) new after
    → TakesAll old (bytes ++ chunk) new after
all_then_all old now new bytes chunk receiver after first second = record {
  records = first.records ++ second.records;
  whole = spelled_twice (bytes ++ chunk) (receiver.kept ++ chunk) after.kept first.records
      second.records (ap (λ (m : List ℕ). m ++ chunk) first.whole
      ∙ append_assoc (spellings first.records) receiver.kept chunk) second.whole;
  fit = fit_twice old now first.records second.records first.after first.fit second.fit;
  after = grown_twice old now new first.records second.records first.after second.after;
  rests = second.rests;
}

pub all_then_front : (old now new : Stored) (bytes chunk more : List ℕ) (receiver : Reception)
    (fault : Fault) → TakesAll old bytes now receiver
    → TakesFront now (receiver.kept ++ chunk) new fault
    → TakesFront old (bytes ++ (chunk ++ more)) new fault
all_then_front old now new bytes chunk more receiver fault first second = record {
  records = first.records ++ second.records;
  rest = second.rest ++ more;
  whole = spelled_twice (bytes ++ (chunk ++ more)) (receiver.kept ++ (chunk ++ more))
      (second.rest ++ more) first.records second.records
      (ap (λ (m : List ℕ). m ++ (chunk ++ more)) first.whole
      ∙ append_assoc (spellings first.records) receiver.kept (chunk ++ more))
      (sym (append_assoc receiver.kept chunk more) ∙ ap (λ (m : List ℕ). m ++ more) second.whole
      ∙ append_assoc (spellings second.records) second.rest more);
  fit = fit_twice old now first.records second.records first.after first.fit second.fit;
  after = grown_twice old now new first.records second.records first.after second.after;
  cause = cause_more (grown old (first.records ++ second.records)) second.rest more fault
      (cause_at old now first.records second.records second.rest fault first.after second.cause);
}

-- a piece, of which some bytes are taken: what is taken, and what is left
pub record PieceSoFar (old : Stored) (bytes : List ℕ) (now : Stored) (receiver : Reception)
    (rest : List ℕ) : Type 0 where
  pub done : List ℕ
  pub whole : done ++ rest ≡ bytes
  pub takes : TakesAll old done now receiver

-- ---- a receiver that keeps nothing

read-nil : (pages at : ℕ) → read_record pages at [] ≡ Ok None
unfolding read_record
read-nil pages at = refl

pub rests_empty : (held : Stored) (receiver : Reception) → Meets held receiver → receiver.kept ≡ []
    → Rests held receiver
rests_empty held receiver meets none = record {
  meets = meets;
  waits = ap (read_record held.pages (end_of held.log)) none
      ∙ read-nil held.pages (end_of held.log);
  short = omega (arith, ap length none);
}

-- a receiver whose partial record was dropped
pub rests_dropped : (held : Stored) (receiver after : Reception) → Rests held receiver
    → after ≡ with_kept receiver [] after.room → Rests held after
rests_dropped held receiver after rests e = subst (λ (x : Reception). Rests held x) (sym e)
    (rests_empty held (with_kept receiver [] after.room)
    (record {
      wanted = rests.meets.wanted;
      pages = rests.meets.pages;
      takes =
          rests.meets.takes;
    }) refl)

end-start : end_of [] ≡ 16
unfolding end_of
end-start = refl

-- a new receiver at the start of an empty log
pub rests_new : (held : Stored) (receiver : Reception) (pages : ℕ) (pool : Pooled)
    (blocks failures attempts : ℕ) → held ≡ formatted pages pool blocks failures attempts
    → receiver ≡ fresh 16 pages → Rests held receiver
rests_new held receiver pages pool blocks failures attempts e f =
    rests_empty held receiver (record {
      wanted = ap (λ (x : Reception). x.wanted) f ∙ sym end-start ∙ ap (λ (h : Stored). end_of h.log)
          (sym e);
      pages = ap (λ (x : Reception). x.pages) f ∙ ap (λ (h : Stored). h.pages) (sym e);
      takes = ap (λ (x : Reception). x.refusal) f;
    }) (ap (λ (x : Reception). x.kept) f)

-- a new receiver at the end of a log
pub rests_again : (held : Stored) (receiver : Reception) (end pages : ℕ)
    → receiver ≡ fresh end pages → end ≡ end_of held.log → pages ≡ held.pages → Rests held receiver
rests_again held receiver end pages f e p = rests_empty held receiver (record {
  wanted = ap (λ (x : Reception). x.wanted) f ∙ e;
  pages = ap (λ (x : Reception). x.pages) f ∙ p;
  takes = ap (λ (x : Reception). x.refusal) f;
}) (ap (λ (x : Reception). x.kept) f)

grown_sum : (a b c e : ℕ) → c ≡ a + b → e ≡ 16 + a → 16 + c ≡ e + b
grown_sum a b c e f g = omega (arith, f, g)

-- a log that grew by records ends so many bytes later
pub end_grown : (old new : Stored) (records : List Record) → new ≡ grown old records
    → end_of new.log ≡ end_of old.log + length (spellings records)
end_grown old new records e =
    ap (λ (h : Stored). end_of h.log) e ∙ end_of_is (old.log ++ records)
    ∙ ap (λ (m : List ℕ). 16 + length m) (spellings-append old.log records)
    ∙ grown_sum (length (spellings old.log)) (length (spellings records))
    (length (spellings old.log ++ spellings records)) (end_of old.log)
    (length-append (spellings old.log) (spellings records)) (end_of_is old.log)

-- a chunk and what is behind it
pub chunk_parts : (n : ℕ) (rest chunk after : List ℕ) → chunk ≡ take n rest → after ≡ drop n rest
    → chunk ++ after ≡ rest
chunk_parts n rest chunk after e f =
    ap (λ (m : List ℕ). m ++ after) e ∙ ap (λ (m : List ℕ). take n rest ++ m) f
    ∙ take-append-drop n rest
