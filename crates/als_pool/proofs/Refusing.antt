-- The tests by which a page is not lent, or not written, are exact.
use Rattle.std.proofs.Common.{◌≡◌, ℕ, true, false, true≢false, cond, List, [], ◌∷◌, length, Option, Some, None, nat_eq, inl, inr, refl, sym, ap, ap₂, subst, ◌∙◌}
use Rattle.std.specs.Prelude.{Bool, not, ◌||◌, ◌&&◌, ◌↔◌, nat_le, is_none, is_some}
use Rattle.std.specs.Map.{lookup}
use Rattle.std.proofs.lemmas.Bool.{eqb-true, eq-eqb, le-leb, leb-true, cases_Bool, and_parts, and_from, not-false, not_from_true, false_from_ne_true}
use Rattle.std.proofs.lemmas.Option.{same_Some}
use Rattle.als_record.specs.declared.change.Change.{Change}
use Rattle.als_frames.specs.declared.lent.Lent.{Lent}
use Rattle.als_frames.specs.Leases.{lent_of}
use Rattle.als_frames.specs.Frames.{Framed, IsFree, Paged, frame_of}
use Rattle.als_frames.specs.Images.{lsn_or, written_or, synced_lsn}
use Rattle.als_frames.specs.Outcomes.{IsFull, NothingIsDue}
use Rattle.als_pool.specs.Queues.{pending_of}
use Rattle.als_pool.specs.Pooled.{Pooled, view_of}
use Rattle.als_pool.specs.Refusals.{is_lent, are_spent, are_some, has_waiting, is_taken, are_taken, is_full, is_due}

-- ---- leases

is_none_so : {T : Type 0} (o : Option T) → is_some o ≡ false → o ≡ None
is_none_so None e = refl
is_none_so (Some x) e = absurd (true≢false e)

pub not_lent : (v : Pooled) (page : ℕ) → (is_lent v page ≡ false) ↔ (lent_of v.frames page ≡ None)
not_lent v page = (is_none_so (lent_of v.frames page), λ e. ap (λ (o : Option Lent). is_some o) e)

all_given : (o : Option ℕ) → is_none o ≡ true → o ≡ None
all_given None e = refl
all_given (Some x) e = absurd (true≢false (sym e))

pub spent : (v : Pooled) → (are_spent v ≡ true) ↔ (v.next ≡ None)
spent v = (all_given v.next, λ e. ap (λ (o : Option ℕ). is_none o) e)

-- ---- what waits

some_none : (cs : List Change) → are_some cs ≡ false → cs ≡ []
some_none [] e = refl
some_none (c ∷ cs) e = absurd (true≢false e)

pub nothing_waits : (v : Pooled) (page : ℕ) → (has_waiting v page ≡ false) ↔ (pending_of v.waits page ≡ [])
nothing_waits v page = (some_none (pending_of v.waits page), λ e. ap are_some e)

some_some : (cs : List Change) → (cs ≡ [] → ⊥) → are_some cs ≡ true
some_some [] ne = absurd (ne refl)
some_some (c ∷ cs) ne = refl

pub something_waits : (v : Pooled) (page : ℕ) → (pending_of v.waits page ≡ [] → ⊥) → has_waiting v page ≡ true
something_waits v page ne = some_some (pending_of v.waits page) ne

-- ---- frames

none_from : {T : Type 0} (o : Option T) → is_none o ≡ true → o ≡ None
none_from None e = refl
none_from (Some x) e = absurd (true≢false (sym e))

taken-by : (l : Option Lent) (clean : Bool) → (l ≡ None → clean ≡ true → ⊥) → (is_some l || not clean) ≡ true
taken-by None true h = absurd (h refl refl)
taken-by None false h = refl
taken-by (Some x) clean h = refl

taken : (o : Option Framed) → ((f : Framed) → o ≡ Some f → IsFree f → ⊥) → is_taken o ≡ true
taken None h = refl
taken (Some f) h = taken-by f.lent (nat_eq f.content.lsn f.synced) (λ none clean. h f refl (eqb-true f.content.lsn f.synced clean, none))

all_taken : (v : Paged) (es : List (ℕ × Framed)) → ((other : ℕ) (f : Framed) → frame_of v other ≡ Some f → IsFree f → ⊥) → are_taken v es ≡ true
all_taken v [] h = refl
all_taken v (e ∷ es) h = and_from (is_taken (frame_of v e.0)) (are_taken v es) (taken (frame_of v e.0) (h e.0)) (all_taken v es h)

none_is_some : {T : Type 0} (x : T) → None ≡ Some x → ⊥
none_is_some x e = cc

each_taken : (v : Paged) (es : List (ℕ × Framed)) (other : ℕ) (f : Framed) → are_taken v es ≡ true → lookup (nat_eq other) es ≡ Some f → is_taken (frame_of v other) ≡ true
each_taken v [] other f h found = absurd (none_is_some f found)
each_taken v (e ∷ es) other f h found =
    let p = and_parts (is_taken (frame_of v e.0)) (are_taken v es) h in
    elim (cases_Bool (nat_eq other e.0)) [
      | inl yes' ↦ subst (λ (k : ℕ). is_taken (frame_of v k) ≡ true) (sym (eqb-true other e.0 yes')) p.0
      | inr no' ↦ each_taken v es other f p.1 (sym (ap (λ b. cond b (Some e.1) (lookup (nat_eq other) es)) no') ∙ found)
    ]

not-taken : (l : Option Lent) (clean : Bool) → l ≡ None → clean ≡ true → (is_some l || not clean) ≡ true → ⊥
not-taken l clean none is h = let no' : false ≡ true = sym (ap₂ (λ (x : Option Lent) (c : Bool). is_some x || not c) none is) ∙ h in absurd (true≢false (sym no'))

not_free : (o : Option Framed) (f : Framed) → is_taken o ≡ true → o ≡ Some f → IsFree f → ⊥
not_free o f h is free =
    let dirty : (is_some f.lent || not (nat_eq f.content.lsn f.synced)) ≡ true = subst (λ (x : Option Framed). is_taken x ≡ true) is h in
    not-taken f.lent (nat_eq f.content.lsn f.synced) free.1 (eq-eqb f.content.lsn f.synced free.0) dirty

full_from : (v : Pooled) (page : ℕ) → IsFull v.frames page → is_full v page ≡ true
full_from v page full =
    let none = is_none (frame_of v.frames page) in
    let used = nat_le v.frames.most (length v.frames.frames) in
    and_from (none && used) (are_taken v.frames v.frames.frames)
    (and_from none used (ap (λ (o : Option Framed). is_none o) full.absent) (le-leb v.frames.most (length v.frames.frames) full.used))
    (all_taken v.frames v.frames.frames full.dirty)

full_so : (v : Pooled) (page : ℕ) → is_full v page ≡ true → IsFull v.frames page
full_so v page h =
    let none = is_none (frame_of v.frames page) in
    let used = nat_le v.frames.most (length v.frames.frames) in
    let p = and_parts (none && used) (are_taken v.frames v.frames.frames) h in
    let q = and_parts none used p.0 in
    record {
      absent = none_from (frame_of v.frames page) q.0;
      used = leb-true v.frames.most (length v.frames.frames) q.1;
      dirty = λ other f is free. not_free (frame_of v.frames other) f (each_taken v.frames v.frames.frames other f p.1 is) is free;
    }

pub fullness : (v : Pooled) (page : ℕ) → (is_full v page ≡ true) ↔ IsFull v.frames page
fullness v page = (full_so v page, full_from v page)

pub has_frame : (v : Pooled) (page : ℕ) → (IsFull v.frames page → ⊥) → is_full v page ≡ false
has_frame v page can = false_from_ne_true (is_full v page) (λ full. can (full_so v page full))

pub frame_is_none : (v : Pooled) (page : ℕ) → frame_of v.frames page ≡ None → (view_of v page).resident ≡ false
frame_is_none v page is = ap (λ (o : Option Framed). is_some o) is

pub resident_not_full : (v : Pooled) (page : ℕ) (f : Framed) → frame_of v.frames page ≡ Some f → is_full v page ≡ false
resident_not_full v page f is = has_frame v page (λ full. none_is_some f (sym full.absent ∙ is))

-- ---- what is due

not_due : (o : Option Framed) (s : ℕ) → (is_some o && not (nat_eq (written_or o s) (lsn_or o s))) ≡ false → (f : Framed) → o ≡ Some f → f.written ≡ f.content.lsn
not_due None s h f is = absurd (none_is_some f is)
not_due (Some g) s h f is =
    let same : g.written ≡ g.content.lsn = eqb-true g.written g.content.lsn (not-false (nat_eq g.written g.content.lsn) h) in
    subst (λ (x : Framed). x.written ≡ x.content.lsn) (same_Some g f is) same

due_not : (o : Option Framed) (s : ℕ) → ((f : Framed) → o ≡ Some f → f.written ≡ f.content.lsn) → (is_some o && not (nat_eq (written_or o s) (lsn_or o s))) ≡ false
due_not None s h = refl
due_not (Some f) s h = not_from_true (nat_eq f.written f.content.lsn) (eq-eqb f.written f.content.lsn (h f refl))

pub nothing_due : (v : Pooled) (page : ℕ) → (is_due (view_of v page) ≡ false) ↔ NothingIsDue v.frames page
nothing_due v page = (not_due (frame_of v.frames page) (synced_lsn v.frames page), due_not (frame_of v.frames page) (synced_lsn v.frames page))
