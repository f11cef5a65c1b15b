-- Laws of histories: each call accounts for its bytes, and what is read does not depend on when it is read.
use Rattle.std.proofs.Common.{◌≡◌, ℕ, ◌+◌, ◌-◌, Bool, true, false, IsTrue, MatchBool, MatchOption, List, [], ◌∷◌, ◌++◌, length, drop, Option, Some, None, Result, Ok, Err, refl, ap, ap₂, sym, ◌∙◌, subst, arith, append_assoc, append-nil, length-append, flat_map, sum_by, ◌==◌, eq-eqb}
use Rattle.std.proofs.lemmas.Bool.{and_from}
use Rattle.std.proofs.lemmas.List.{take_at, drop_at}
use Rattle.std.proofs.lemmas.List.Concat.{flat_map-append}
use Rattle.std.proofs.lemmas.List.Sums.{sum_by-cons}
use Rattle.std.specs.List.{AllByRecursion}
use Rattle.als_record.specs.declared.fault.Fault.{Fault}
use Rattle.als_record.specs.declared.record.Record.{Record}
use Rattle.als_record.specs.Spelling.{record_len, spelling, IsRecord}
use Rattle.als_record.specs.LogText.{spellings, follow_from}
use Rattle.als_record.specs.Reading.{read_record, TakesMemory}
use Rattle.als_receiver.specs.declared.refusal.Refusal.{Refusal}
use Rattle.als_receiver.specs.Reception.{Reception, fresh, with_kept, with_room, behind, is_memory, HandsOut, CanHandOut, Waits, WantsMemory, RefusesBytes, Refuses, IsRefusal}
use Rattle.als_receiver.specs.History.{Call, Runs, handed, bytes_after, KeepsAll, reading_of, IsEmptied, Accounts, EndAlike, Stays}
use Rattle.als_receiver.specs.History.Call.{Push, Look, Take, Next, Drop, Room}
use Rattle.als_receiver.proofs.ReadingLaws.{read_record-more}

-- ---- what a refusal leaves

record SameBytes (old new : Reception) : Type 0 where
  pages : new.pages ≡ old.pages
  wanted : new.wanted ≡ old.wanted
  kept : new.kept ≡ old.kept

same : (old new : Reception) → new ≡ old → SameBytes old new
same old new is = record { pages = ap (λ (s : Reception). s.pages) is; wanted = ap (λ (s : Reception). s.wanted) is; kept = ap (λ (s : Reception). s.kept) is }

room-same : (old new : Reception) → new ≡ with_room old new.room → SameBytes old new
room-same old new is = record { pages = ap (λ (s : Reception). s.pages) is; wanted = ap (λ (s : Reception). s.wanted) is; kept = ap (λ (s : Reception). s.kept) is }

refuses-same : (old : Reception) (e : Refusal) (new : Reception) → Refuses old e new → SameBytes old new
refuses-same old e new h = by_refusal old.refusal h
  where
    by_fault : (b : Bool) → MatchBool b (WantsMemory old new) (RefusesBytes old e new) → SameBytes old new
    by_fault true wants = same old new wants.same
    by_fault false refused = record {
      pages = ap (λ (s : Reception). s.pages) refused.stays;
      wanted = ap (λ (s : Reception). s.wanted) refused.stays;
      kept = ap (λ (s : Reception). s.kept) refused.stays;
    }

    by_refusal : (o : Option Refusal) → MatchOption o ((e.lsn.0 ≡ old.wanted) × MatchBool (is_memory e.fault) (WantsMemory old new) (RefusesBytes old e new)) (λ before. (e ≡ before) × (new ≡ old))
        → SameBytes old new
    by_refusal None h = by_fault (is_memory e.fault) h.1
    by_refusal (Some before) h = same old new h.1

spellings-push : (done : List Record) (r : Record) → spellings (done ++ r ∷ []) ≡ spellings done ++ spelling r
unfolding spellings
spellings-push done r = flat_map-append spelling done (r ∷ []) ∙ ap (λ xs. flat_map spelling done ++ xs) (append-nil (spelling r))

-- what was shown and is taken is handed out
taken : (old : Reception) (r : Record) (len : ℕ) (new : Reception) → CanHandOut old r len × (new ≡ behind old len) → HandsOut old r new
taken old r len new does = subst (λ (s : Reception). HandsOut old r s) (sym does.1) does.0.out

-- ---- bytes in, records and bytes kept out

accounted-out : (done : List Record) (s : Reception) (r : Record) (between : Reception) (calls : List Call) (t : Reception) → HandsOut s r between
    → bytes_after (spellings (done ++ r ∷ []) ++ between.kept) calls ≡ spellings ((done ++ r ∷ []) ++ handed calls) ++ t.kept
    → bytes_after (spellings done ++ s.kept) calls ≡ spellings (done ++ r ∷ handed calls) ++ t.kept
accounted-out done s r between calls t does rest =
    ap (λ bytes. bytes_after bytes calls)
    (ap (λ bytes. spellings done ++ bytes) does.bytes ∙ sym (append_assoc (spellings done) (spelling r) between.kept)
    ∙ ap (λ bytes. bytes ++ between.kept) (sym (spellings-push done r)))
    ∙ rest
    ∙ ap (λ rs. spellings rs ++ t.kept) (append_assoc done (r ∷ []) (handed calls))

accounted : (done : List Record) (s : Reception) (calls : List Call) (t : Reception) → Runs s calls t
    → bytes_after (spellings done ++ s.kept) calls ≡ spellings (done ++ handed calls) ++ t.kept
accounted done s [] t h = ap₂ (λ rs (u : Reception). spellings rs ++ u.kept) (sym (append-nil done)) (sym h)
accounted done s (Push piece ∷ calls) t (between, does, rest) =
    let kept : between.kept ≡ s.kept ++ piece = ap (λ (u : Reception). u.kept) does in
    ap (λ bytes. bytes_after bytes calls) (append_assoc (spellings done) s.kept piece ∙ ap (λ bytes. spellings done ++ bytes) (sym kept))
    ∙ accounted done between calls t rest
accounted done s (Look answer ∷ calls) t (between, does, rest) =
    ap (λ (u : Reception). bytes_after (spellings done ++ u.kept) calls) (sym does.1) ∙ accounted done between calls t rest
accounted done s (Take r len ∷ calls) t (between, does, rest) =
    accounted-out done s r between calls t (taken s r len between does) (accounted (done ++ r ∷ []) between calls t rest)
accounted done s (Next (Ok (Some r)) ∷ calls) t (between, does, rest) = accounted-out done s r between calls t does (accounted (done ++ r ∷ []) between calls t rest)
accounted done s (Next (Ok None) ∷ calls) t (between, does, rest) =
    ap (λ (u : Reception). bytes_after (spellings done ++ u.kept) calls) (sym does.same) ∙ accounted done between calls t rest
accounted done s (Next (Err e) ∷ calls) t (between, does, rest) =
    ap (λ bytes. bytes_after (spellings done ++ bytes) calls) (sym (refuses-same s e between does).kept) ∙ accounted done between calls t rest
accounted done s (Drop bytes ∷ calls) t (between, does, rest) =
    let front = spellings done in
    let kept : between.kept ≡ [] = ap (λ (u : Reception). u.kept) does.1 in
    let count : length front ≡ length (front ++ s.kept) - length bytes = omega (arith, length-append front s.kept, ap length does.0) in
    ap (λ xs. bytes_after xs calls) (take_at front s.kept (length (front ++ s.kept) - length bytes) count ∙ sym (append-nil front) ∙ ap (λ xs. front ++ xs) (sym kept))
    ∙ accounted done between calls t rest
accounted done s (Room ∷ calls) t (between, does, rest) =
    ap (λ bytes. bytes_after (spellings done ++ bytes) calls) (sym (room-same s between does).kept) ∙ accounted done between calls t rest

-- ---- where the records stand

-- the offset behind records that begin at an offset
abbrev end_at : ℕ → List Record → ℕ
end_at at [] = at
end_at at (r ∷ rs) = end_at (at + record_len r) rs

end_at-sum : (at : ℕ) (rs : List Record) → end_at at rs ≡ at + sum_by record_len rs
end_at-sum at [] = omega arith
end_at-sum at (r ∷ rs) = omega (arith, end_at-sum (at + record_len r) rs, sum_by-cons record_len r rs)

record Placed (s : Reception) (rs : List Record) (t : Reception) : Type 0 where
  follow : IsTrue (follow_from s.wanted rs)
  records : AllByRecursion (IsRecord s.pages) rs
  next : t.wanted ≡ end_at s.wanted rs
  pages : t.pages ≡ s.pages

placed-at : (s between : Reception) (rs : List Record) (t : Reception) → between.pages ≡ s.pages → between.wanted ≡ s.wanted → Placed between rs t → Placed s rs t
placed-at s between rs t pages wanted p = record {
  follow = subst (λ n. IsTrue (follow_from n rs)) wanted p.follow;
  records = subst (λ n. AllByRecursion (IsRecord n) rs) pages p.records;
  next = p.next ∙ ap (λ n. end_at n rs) wanted;
  pages = p.pages ∙ pages;
}

placed-same : (s between : Reception) (rs : List Record) (t : Reception) → SameBytes s between → Placed between rs t → Placed s rs t
placed-same s between rs t h p = placed-at s between rs t h.pages h.wanted p

placed-out : (s : Reception) (r : Record) (between : Reception) (rs : List Record) (t : Reception) → HandsOut s r between → Placed between rs t → Placed s (r ∷ rs) t
unfolding follow_from
placed-out s r between rs t does p =
    let wanted : between.wanted ≡ s.wanted + record_len r = ap (λ (u : Reception). u.wanted) does.after in
    let pages : between.pages ≡ s.pages = ap (λ (u : Reception). u.pages) does.after in
    record {
      follow = and_from (r.lsn.0 == s.wanted) (follow_from (s.wanted + record_len r) rs) (eq-eqb r.lsn.0 s.wanted does.place)
          (subst (λ n. IsTrue (follow_from n rs)) wanted p.follow);
      records = (does.fits, subst (λ n. AllByRecursion (IsRecord n) rs) pages p.records);
      next = p.next ∙ ap (λ n. end_at n rs) wanted;
      pages = p.pages ∙ pages;
    }

placed : (s : Reception) (calls : List Call) (t : Reception) → Runs s calls t → Placed s (handed calls) t
unfolding follow_from
placed s [] t h = record { follow = refl; records = tt; next = ap (λ (u : Reception). u.wanted) h; pages = ap (λ (u : Reception). u.pages) h }
placed s (Push piece ∷ calls) t (between, does, rest) =
    placed-at s between (handed calls) t (ap (λ (u : Reception). u.pages) does) (ap (λ (u : Reception). u.wanted) does) (placed between calls t rest)
placed s (Look answer ∷ calls) t (between, does, rest) = placed-same s between (handed calls) t (same s between does.1) (placed between calls t rest)
placed s (Take r len ∷ calls) t (between, does, rest) = placed-out s r between (handed calls) t (taken s r len between does) (placed between calls t rest)
placed s (Next (Ok (Some r)) ∷ calls) t (between, does, rest) = placed-out s r between (handed calls) t does (placed between calls t rest)
placed s (Next (Ok None) ∷ calls) t (between, does, rest) = placed-same s between (handed calls) t (same s between does.same) (placed between calls t rest)
placed s (Next (Err e) ∷ calls) t (between, does, rest) = placed-same s between (handed calls) t (refuses-same s e between does) (placed between calls t rest)
placed s (Drop bytes ∷ calls) t (between, does, rest) =
    placed-at s between (handed calls) t (ap (λ (u : Reception). u.pages) does.1) (ap (λ (u : Reception). u.wanted) does.1) (placed between calls t rest)
placed s (Room ∷ calls) t (between, does, rest) = placed-same s between (handed calls) t (room-same s between does) (placed between calls t rest)

-- a history from the first record on accounts for its bytes
pub history-accounts : (wanted pages : ℕ) (calls : List Call) (s : Reception) → Runs (fresh wanted pages) calls s → Accounts wanted pages calls s
unfolding spellings
history-accounts wanted pages calls s h =
    let p = placed (fresh wanted pages) calls s h in
    record { bytes = accounted [] (fresh wanted pages) calls s h; follow = p.follow; records = p.records; next = p.next ∙ end_at-sum wanted (handed calls) }

-- ---- what is read does not depend on when it is read

-- these records are read one after another at the front of bytes, and the rest is left
abbrev Reads : ℕ → ℕ → List ℕ → List Record → List ℕ → Type 0
Reads pages at bytes [] rest = bytes ≡ rest
Reads pages at bytes (r ∷ rs) rest =
    (after : List ℕ) × (read_record pages at bytes ≡ Ok (Some (r, record_len r))) × (bytes ≡ spelling r ++ after) × Reads pages (at + record_len r) after rs rest

reads-same : (pages pages' at at' : ℕ) (bytes bytes' : List ℕ) (rs : List Record) (rest : List ℕ) → pages ≡ pages' → at ≡ at' → bytes ≡ bytes'
    → Reads pages at bytes rs rest → Reads pages' at' bytes' rs rest
reads-same pages pages' at at' bytes bytes' rs rest ep ea eb h =
    subst (λ n. Reads n at' bytes' rs rest) ep (subst (λ n. Reads pages n bytes' rs rest) ea (subst (λ xs. Reads pages at xs rs rest) eb h))

-- all bytes pushed
abbrev pushed : List Call → List ℕ
pushed [] = []
pushed (Push piece ∷ calls) = piece ++ pushed calls
pushed (Look answer ∷ calls) = pushed calls
pushed (Take shown len ∷ calls) = pushed calls
pushed (Next answer ∷ calls) = pushed calls
pushed (Drop bytes ∷ calls) = pushed calls
pushed (Room ∷ calls) = pushed calls

bytes_after-pushed : (before : List ℕ) (calls : List Call) → KeepsAll calls → bytes_after before calls ≡ before ++ pushed calls
bytes_after-pushed before [] h = sym (append-nil before)
bytes_after-pushed before (Push piece ∷ calls) h = bytes_after-pushed (before ++ piece) calls h ∙ append_assoc before piece (pushed calls)
bytes_after-pushed before (Look answer ∷ calls) h = bytes_after-pushed before calls h
bytes_after-pushed before (Take shown len ∷ calls) h = bytes_after-pushed before calls h
bytes_after-pushed before (Next answer ∷ calls) h = bytes_after-pushed before calls h
bytes_after-pushed before (Drop bytes ∷ calls) h = absurd h
bytes_after-pushed before (Room ∷ calls) h = bytes_after-pushed before calls h

reads-from : (s between : Reception) (calls : List Call) (t : Reception) → SameBytes s between → Reads between.pages between.wanted (bytes_after between.kept calls) (handed calls) t.kept
    → Reads s.pages s.wanted (bytes_after s.kept calls) (handed calls) t.kept
reads-from s between calls t h r =
    reads-same between.pages s.pages between.wanted s.wanted (bytes_after between.kept calls) (bytes_after s.kept calls) (handed calls) t.kept
    h.pages h.wanted (ap (λ bytes. bytes_after bytes calls) h.kept) r

reads-out : (s : Reception) (r : Record) (between : Reception) (calls : List Call) (t : Reception) → HandsOut s r between → KeepsAll calls
    → Reads between.pages between.wanted (bytes_after between.kept calls) (handed calls) t.kept → Reads s.pages s.wanted (bytes_after s.kept calls) (r ∷ handed calls) t.kept
reads-out s r between calls t does all rest =
    let more = pushed calls in
    let whole : bytes_after s.kept calls ≡ s.kept ++ more = bytes_after-pushed s.kept calls all in
    let after = bytes_after between.kept calls in (
      after,
      ap (read_record s.pages s.wanted) whole ∙ read_record-more s.pages s.wanted s.kept more (λ none. some-none (r, record_len r) (sym does.reading ∙ none)) ∙ does.reading,
      whole ∙ ap (λ bytes. bytes ++ more) does.bytes ∙ append_assoc (spelling r) between.kept more ∙ ap (λ bytes. spelling r ++ bytes) (sym (bytes_after-pushed between.kept calls all)),
      reads-same between.pages s.pages between.wanted (s.wanted + record_len r) after after (handed calls) t.kept
          (ap (λ (u : Reception). u.pages) does.after) (ap (λ (u : Reception). u.wanted) does.after) refl rest,
    )
  where
    some-none : (x : Record × ℕ) → ◌≡◌ {A = Result (Option (Record × ℕ)) Fault} (Ok (Some x)) (Ok None) → ⊥
    some-none x h = cc

reads : (s : Reception) (calls : List Call) (t : Reception) → Runs s calls t → KeepsAll calls → Reads s.pages s.wanted (bytes_after s.kept calls) (handed calls) t.kept
reads s [] t h all = sym (ap (λ (u : Reception). u.kept) h)
reads s (Push piece ∷ calls) t (between, does, rest) all =
    reads-same between.pages s.pages between.wanted s.wanted (bytes_after between.kept calls) (bytes_after (s.kept ++ piece) calls) (handed calls) t.kept
    (ap (λ (u : Reception). u.pages) does) (ap (λ (u : Reception). u.wanted) does) (ap (λ (u : Reception). bytes_after u.kept calls) does) (reads between calls t rest all)
reads s (Look answer ∷ calls) t (between, does, rest) all = reads-from s between calls t (same s between does.1) (reads between calls t rest all)
reads s (Take r len ∷ calls) t (between, does, rest) all = reads-out s r between calls t (taken s r len between does) all (reads between calls t rest all)
reads s (Next (Ok (Some r)) ∷ calls) t (between, does, rest) all = reads-out s r between calls t does all (reads between calls t rest all)
reads s (Next (Ok None) ∷ calls) t (between, does, rest) all = reads-from s between calls t (same s between does.same) (reads between calls t rest all)
reads s (Next (Err e) ∷ calls) t (between, does, rest) all = reads-from s between calls t (refuses-same s e between does) (reads between calls t rest all)
reads s (Drop bytes ∷ calls) t (between, does, rest) all = absurd all
reads s (Room ∷ calls) t (between, does, rest) all = reads-from s between calls t (room-same s between does) (reads between calls t rest all)

-- two readings of the same bytes that leave no whole record are one
record OneReading (rs others : List Record) (rest left : List ℕ) : Type 0 where
  records : rs ≡ others
  kept : rest ≡ left

Emptied : ℕ → ℕ → List ℕ → Type 0
Emptied pages at rest = (found : Record × ℕ) → read_record pages at rest ≡ Ok (Some found) → ⊥

one-reading : (pages at : ℕ) (bytes : List ℕ) (rs others : List Record) (rest left : List ℕ) → Reads pages at bytes rs rest → Reads pages at bytes others left
    → Emptied pages (end_at at rs) rest → Emptied pages (end_at at others) left → OneReading rs others rest left
unfolding Emptied
one-reading pages at bytes [] [] rest left h i none none' = record { records = refl; kept = sym h ∙ i }
one-reading pages at bytes [] (o ∷ others) rest left h (after, read, is, more) none none' = absurd (none (o, record_len o) (ap (read_record pages at) (sym h) ∙ read))
one-reading pages at bytes (r ∷ rs) [] rest left (after, read, is, more) i none none' = absurd (none' (r, record_len r) (ap (read_record pages at) (sym i) ∙ read))
one-reading pages at bytes (r ∷ rs) (o ∷ others) rest left (after, read, is, more) (after', read', is', more') none none' =
    let both : ◌≡◌ {A = Result (Option (Record × ℕ)) Fault} (Ok (Some (r, record_len r))) (Ok (Some (o, record_len o))) = sym read ∙ read' in
    let head : r ≡ o = first-found (r, record_len r) (o, record_len o) both in
    let tail : after ≡ after' = cancel r o after after' head (sym is ∙ is') in
    let moved : Reads pages (at + record_len r) after others left
    = reads-same pages pages (at + record_len o) (at + record_len r) after' after others left refl (ap (λ (x : Record). at + record_len x) (sym head)) (sym tail) more' in
    let rest-one = one-reading pages (at + record_len r) after rs others rest left more moved none
    (subst (λ (x : Record). Emptied pages (end_at (at + record_len x) others) left) (sym head) none') in
    record { records = ap₂ (λ x xs. x ∷ xs) head rest-one.records; kept = rest-one.kept }
  where
    first-found : (x y : Record × ℕ) → ◌≡◌ {A = Result (Option (Record × ℕ)) Fault} (Ok (Some x)) (Ok (Some y)) → x.0 ≡ y.0
    first-found x y h = let pair : x ≡ y = cc h in ap (λ (z : Record × ℕ). z.0) pair

    cancel : (r o : Record) (after after' : List ℕ) → r ≡ o → spelling r ++ after ≡ spelling o ++ after' → after ≡ after'
    cancel r o after after' head is =
        sym (drop_at (spelling r) after (length (spelling r)) refl) ∙ ap (drop (length (spelling r))) (is ∙ ap (λ (x : Record). spelling x ++ after') (sym head))
        ∙ drop_at (spelling r) after' (length (spelling r)) refl

-- ---- the refusal that stays is that of the bytes

-- a kept refusal names what the bytes kept are read as, and where
abbrev IsOwnRefusal : Reception → Type 0
IsOwnRefusal s = (e : Refusal) → s.refusal ≡ Some e → (reading_of s ≡ Err e.fault) × (e.lsn.0 ≡ s.wanted)

none-some : (e : Refusal) → ◌≡◌ {A = Option Refusal} None (Some e) → ⊥
none-some e h = cc

err-none : (f : Fault) → ◌≡◌ {A = Result (Option (Record × ℕ)) Fault} (Err f) (Ok None) → ⊥
err-none f h = cc

refuses-own : (s : Reception) (e : Refusal) (new : Reception) → Refuses s e new → IsOwnRefusal s → IsOwnRefusal new
refuses-own s e new h own = by_refusal s.refusal h
  where
    stays : new ≡ s → IsOwnRefusal new
    stays is = subst IsOwnRefusal (sym is) own

    by_fault : (b : Bool) → e.lsn.0 ≡ s.wanted → MatchBool b (WantsMemory s new) (RefusesBytes s e new) → IsOwnRefusal new
    by_fault true place wants = stays wants.same
    by_fault false place refused = subst IsOwnRefusal (sym refused.stays) (λ f found.
        let one : e ≡ f = some-same e f found in
        subst (λ (x : Refusal). (read_record s.pages s.wanted s.kept ≡ Err x.fault) × (x.lsn.0 ≡ s.wanted)) one (refused.reading, place))
      where
        some-same : (x y : Refusal) → ◌≡◌ {A = Option Refusal} (Some x) (Some y) → x ≡ y
        some-same x y h = cc h

    by_refusal : (o : Option Refusal) → MatchOption o ((e.lsn.0 ≡ s.wanted) × MatchBool (is_memory e.fault) (WantsMemory s new) (RefusesBytes s e new)) (λ before. (e ≡ before) × (new ≡ s))
        → IsOwnRefusal new
    by_refusal None h = by_fault (is_memory e.fault) h.0 h.1
    by_refusal (Some before) h = stays h.1

own-out : (s : Reception) (r : Record) (between : Reception) → HandsOut s r between → IsOwnRefusal between
own-out s r between does e found = absurd (none-some e (sym (ap (λ (u : Reception). u.refusal) does.after) ∙ found))

own-refusal : (s : Reception) (calls : List Call) (t : Reception) → Runs s calls t → KeepsAll calls → IsOwnRefusal s → IsOwnRefusal t
own-refusal s [] t h all own = subst IsOwnRefusal (sym h) own
own-refusal s (Push piece ∷ calls) t (between, does, rest) all own =
    own-refusal between calls t rest all (subst IsOwnRefusal (sym does) (λ e found.
    let (reading, place) = own e found in
    (read_record-more s.pages s.wanted s.kept piece (λ none. err-none e.fault (sym reading ∙ none)) ∙ reading, place)))
own-refusal s (Look answer ∷ calls) t (between, does, rest) all own = own-refusal between calls t rest all (subst IsOwnRefusal (sym does.1) own)
own-refusal s (Take r len ∷ calls) t (between, does, rest) all own = own-refusal between calls t rest all (own-out s r between (taken s r len between does))
own-refusal s (Next (Ok (Some r)) ∷ calls) t (between, does, rest) all own = own-refusal between calls t rest all (own-out s r between does)
own-refusal s (Next (Ok None) ∷ calls) t (between, does, rest) all own = own-refusal between calls t rest all (subst IsOwnRefusal (sym does.same) own)
own-refusal s (Next (Err e) ∷ calls) t (between, does, rest) all own = own-refusal between calls t rest all (refuses-own s e between does own)
own-refusal s (Drop bytes ∷ calls) t (between, does, rest) all own = absurd all
own-refusal s (Room ∷ calls) t (between, does, rest) all own = own-refusal between calls t rest all (subst IsOwnRefusal (sym does) own)

one-refusal : (e f : Refusal) → e.lsn.0 ≡ f.lsn.0 → ◌≡◌ {A = Result (Option (Record × ℕ)) Fault} (Err e.fault) (Err f.fault) → e ≡ f
one-refusal e f place h =
    let fault : e.fault ≡ f.fault = cc h in
    let make : ℕ → Fault → Refusal = λ n x. record { lsn = record { 0 = n }; fault = x } in
    ap₂ make place fault

-- a refusal is the fault of the bytes kept, and the other way round
refusal-reads : (s : Reception) (e : Refusal) → IsOwnRefusal s → (o : Option Refusal) → s.refusal ≡ o → MatchOption o ((e.lsn.0 ≡ s.wanted) × (reading_of s ≡ Err e.fault)) (λ before. e ≡ before)
    → (reading_of s ≡ Err e.fault) × (e.lsn.0 ≡ s.wanted)
refusal-reads s e own None is h = (h.1, h.0)
refusal-reads s e own (Some before) is h = subst (λ (x : Refusal). (reading_of s ≡ Err x.fault) × (x.lsn.0 ≡ s.wanted)) (sym h) (own before is)

reads-refusal : (s : Reception) (e : Refusal) → IsOwnRefusal s → (o : Option Refusal) → s.refusal ≡ o → reading_of s ≡ Err e.fault → e.lsn.0 ≡ s.wanted
    → MatchOption o ((e.lsn.0 ≡ s.wanted) × (reading_of s ≡ Err e.fault)) (λ before. e ≡ before)
reads-refusal s e own None is reading place = (place, reading)
reads-refusal s e own (Some before) is reading place =
    let (reading', place') = own before is in
    one-refusal e before (place ∙ sym place') (sym reading ∙ reading')

-- histories with the same bytes end alike
pub histories-alike : (wanted pages : ℕ) (first second : List Call) (s t : Reception) → Runs (fresh wanted pages) first s → Runs (fresh wanted pages) second t
    → KeepsAll first → KeepsAll second → bytes_after [] first ≡ bytes_after [] second → IsEmptied s → IsEmptied t → EndAlike first second s t
unfolding Emptied
histories-alike wanted pages first second s t hs ht all all' bytes none none' =
    let start = fresh wanted pages in
    let ps = placed start first s hs in
    let pt = placed start second t ht in
    let moved : Reads pages wanted (bytes_after [] first) (handed second) t.kept
    = reads-same pages pages wanted wanted (bytes_after [] second) (bytes_after [] first) (handed second) t.kept refl refl (sym bytes) (reads start second t ht all') in
    let none-s : Emptied pages (end_at wanted (handed first)) s.kept
    = λ found read. none.none found (ap₂ (λ p n. read_record p n s.kept) ps.pages ps.next ∙ read) in
    let none-t : Emptied pages (end_at wanted (handed second)) t.kept
    = λ found read. none'.none found (ap₂ (λ p n. read_record p n t.kept) pt.pages pt.next ∙ read) in
    let one = one-reading pages wanted (bytes_after [] first) (handed first) (handed second) s.kept t.kept (reads start first s hs all) moved none-s none-t in
    let place : s.wanted ≡ t.wanted = ps.next ∙ ap (end_at wanted) one.records ∙ sym pt.next in
    let no-refusal : IsOwnRefusal start = λ e found. absurd (none-some e found) in
    record {
      records = one.records;
      kept = one.kept;
      wanted = place;
      refusal = λ e refused.
          let (reading, at) = refusal-reads s e (own-refusal start first s hs all no-refusal) s.refusal refl refused in
          let same-reading : reading_of s ≡ reading_of t
          = ap₂ (λ p n. read_record p n s.kept) (ps.pages ∙ sym pt.pages) place ∙ ap (read_record t.pages t.wanted) one.kept in
          reads-refusal t e (own-refusal start second t ht all' no-refusal) t.refusal refl (sym same-reading ∙ reading) (at ∙ place);
    }

-- ---- a refusal stays

no-record : (f : Fault) (read : Result (Option (Record × ℕ)) Fault) (x : Record × ℕ) → read ≡ Err f → read ≡ Ok (Some x) → ⊥
no-record f read x h i = err-some (sym h ∙ i)
  where
    err-some : ◌≡◌ {A = Result (Option (Record × ℕ)) Fault} (Err f) (Ok (Some x)) → ⊥
    err-some h = cc

no-rows : (f : Fault) (read : Result (Option (Record × ℕ)) Fault) → read ≡ Err f → TakesMemory read → ⊥
no-rows f read h takes = subst TakesMemory h takes

-- the same refusal of other bytes that are read the same
moved-refusal : (s t : Reception) (e : Refusal) → t.refusal ≡ s.refusal → t.wanted ≡ s.wanted → (reading_of s ≡ Err e.fault → reading_of t ≡ Err e.fault) → IsRefusal s e → IsRefusal t e
moved-refusal s t e same-refusal same-place more h = by s.refusal t.refusal same-refusal h
  where
    by : (o p : Option Refusal) → p ≡ o → MatchOption o ((e.lsn.0 ≡ s.wanted) × (reading_of s ≡ Err e.fault)) (λ before. e ≡ before)
        → MatchOption p ((e.lsn.0 ≡ t.wanted) × (reading_of t ≡ Err e.fault)) (λ before. e ≡ before)
    by None None is h = (h.0 ∙ sym same-place, more h.1)
    by (Some a) (Some b) is h = h ∙ cc
    by None (Some b) is h = absurd cc
    by (Some a) None is h = absurd cc

same-refusal-of : (s t : Reception) (e : Refusal) → t ≡ s → IsRefusal s e → IsRefusal t e
same-refusal-of s t e is h = subst (λ (u : Reception). IsRefusal u e) (sym is) h

-- nothing is handed out, and nothing waited for, where bytes are refused
refused-hands : (s : Reception) (e : Refusal) (r : Record) (new : Reception) → IsRefusal s e → HandsOut s r new → ⊥
refused-hands s e r new h out = by s.refusal out.unrefused h
  where
    by : (o : Option Refusal) → o ≡ None → MatchOption o ((e.lsn.0 ≡ s.wanted) × (reading_of s ≡ Err e.fault)) (λ before. e ≡ before) → ⊥
    by None is h = no-record e.fault (reading_of s) (r, record_len r) h.1 out.reading
    by (Some before) is h = cc

refused-waits : (s : Reception) (e : Refusal) (new : Reception) → IsRefusal s e → Waits s new → ⊥
refused-waits s e new h waits = by s.refusal waits.unrefused h
  where
    by : (o : Option Refusal) → o ≡ None → MatchOption o ((e.lsn.0 ≡ s.wanted) × (reading_of s ≡ Err e.fault)) (λ before. e ≡ before) → ⊥
    by None is h = err-none e.fault (sym h.1 ∙ waits.reading)
    by (Some before) is h = cc

-- asked again, it is given again
refused-again : (s : Reception) (e f : Refusal) (new : Reception) → IsRefusal s e → Refuses s f new → IsRefusal new e
refused-again s e f new h again = by s.refusal h again
  where
    by_fault : (b : Bool) → e.lsn.0 ≡ s.wanted → reading_of s ≡ Err e.fault → f.lsn.0 ≡ s.wanted → MatchBool b (WantsMemory s new) (RefusesBytes s f new) → IsRefusal new e
    by_fault true place reading place' wants = absurd (no-rows e.fault (reading_of s) reading wants.rows)
    by_fault false place reading place' refused = subst (λ (u : Reception). IsRefusal u e) (sym refused.stays) (one-refusal e f (place ∙ sym place') (sym reading ∙ refused.reading))

    by : (o : Option Refusal) → MatchOption o ((e.lsn.0 ≡ s.wanted) × (reading_of s ≡ Err e.fault)) (λ before. e ≡ before)
        → MatchOption o ((f.lsn.0 ≡ s.wanted) × MatchBool (is_memory f.fault) (WantsMemory s new) (RefusesBytes s f new)) (λ before. (f ≡ before) × (new ≡ s)) → IsRefusal new e
    by None h again = by_fault (is_memory f.fault) h.0 h.1 again.0 again.1
    by (Some before) i again = same-refusal-of s new e again.1 h

stays-behind : (e : Refusal) (between : Reception) (call : Call) (calls : List Call) (t : Reception) → handed (call ∷ calls) ≡ handed calls → Stays e calls t → Stays e (call ∷ calls) t
stays-behind e between call calls t is h = record { refusal = h.refusal; nothing = is ∙ h.nothing }

-- what was refused is refused for good
pub refusal-stays : (s : Reception) (e : Refusal) (calls : List Call) (t : Reception) → IsRefusal s e → Runs s calls t → KeepsAll calls → Stays e calls t
refusal-stays s e [] t h runs all = record { refusal = same-refusal-of s t e runs h; nothing = refl }
refusal-stays s e (Push piece ∷ calls) t h (between, does, rest) all =
    let longer : IsRefusal between e = same-refusal-of (with_kept s (s.kept ++ piece) between.room) between e does
    (moved-refusal s (with_kept s (s.kept ++ piece) between.room) e refl refl
    (λ reading. read_record-more s.pages s.wanted s.kept piece (λ none. err-none e.fault (sym reading ∙ none)) ∙ reading) h) in
    stays-behind e between (Push piece) calls t refl (refusal-stays between e calls t longer rest all)
refusal-stays s e (Look answer ∷ calls) t h (between, does, rest) all =
    stays-behind e between (Look answer) calls t refl (refusal-stays between e calls t (same-refusal-of s between e does.1 h) rest all)
refusal-stays s e (Take r len ∷ calls) t h (between, does, rest) all = absurd (refused-hands s e r between h (taken s r len between does))
refusal-stays s e (Next (Ok (Some r)) ∷ calls) t h (between, does, rest) all = absurd (refused-hands s e r between h does)
refusal-stays s e (Next (Ok None) ∷ calls) t h (between, does, rest) all = absurd (refused-waits s e between h does)
refusal-stays s e (Next (Err f) ∷ calls) t h (between, does, rest) all =
    stays-behind e between (Next (Err f)) calls t refl (refusal-stays between e calls t (refused-again s e f between h does) rest all)
refusal-stays s e (Drop bytes ∷ calls) t h (between, does, rest) all = absurd all
refusal-stays s e (Room ∷ calls) t h (between, does, rest) all =
    stays-behind e between Room calls t refl
    (refusal-stays between e calls t (same-refusal-of (with_room s between.room) between e does (moved-refusal s (with_room s between.room) e refl refl (λ reading. reading) h)) rest all)
