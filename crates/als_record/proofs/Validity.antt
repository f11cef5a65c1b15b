-- Valid logs, one record at a time.
use Rattle.std.proofs.Common.{◌≡◌, ◌==◌, Bool, true, false, cond, ◌&&◌, List, [], ◌∷◌, ◌++◌, Option, Some, None, is_some, is_none, option_map, refl, sym, ap, ◌∙◌, subst, append_assoc, append-nil}
use Rattle.std.proofs.lemmas.Bool.{eqb-true, eq-eqb, false≢true, and_parts, and_from}
use Rattle.als_record.specs.declared.trans_id.TransId.{TransId}
use Rattle.als_record.specs.declared.record.Record.{Record}
use Rattle.als_record.specs.declared.cause.Cause.{Cause}
use Rattle.als_record.specs.declared.cause.Cause.TheVariants.{BadPrev, OldTransaction, WrongState, WrongUndoNext, WrongCompensation, RecordHeld, BeforeImage, TooManyTransactions, BadCheckpoint}
use Rattle.als_record.specs.LogText.{end_of}
use Rattle.als_record.specs.Validity.{bad_prev, old_transaction, wrong_state, wrong_undo_next, wrong_compensation, held_by, before_image, too_many, bad_checkpoint, first_bad, may_follow, may_follow_all, is_valid}

pub may_follow_all-append : (log xs ys : List Record) → may_follow_all log (xs ++ ys) ≡ (may_follow_all log xs && may_follow_all (log ++ xs) ys)
unfolding may_follow_all
may_follow_all-append log [] ys = ap (λ l. may_follow_all l ys) (sym (append-nil log))
may_follow_all-append log (r ∷ rest) ys =
    ap (λ b. may_follow log r && b) (may_follow_all-append (log ++ r ∷ []) rest ys ∙ ap (λ l. may_follow_all (log ++ r ∷ []) rest && may_follow_all l ys) (append_assoc log (r ∷ []) rest))
    ∙ joined (may_follow log r) (may_follow_all (log ++ r ∷ []) rest) (may_follow_all (log ++ (r ∷ rest)) ys)
  where
    joined : (a b c : Bool) → (a && (b && c)) ≡ ((a && b) && c)
    joined true b c = refl
    joined false b c = refl

-- a log goes on validly where what follows may follow
pub is_valid-append : (log more : List Record) → is_valid (log ++ more) ≡ (is_valid log && may_follow_all log more)
unfolding is_valid
is_valid-append log more = may_follow_all-append [] log more

-- each front of a valid log is valid
pub is_valid-front : (log more : List Record) → is_valid (log ++ more) ≡ true → is_valid log ≡ true
is_valid-front log more v = (and_parts (is_valid log) (may_follow_all log more) (sym (is_valid-append log more) ∙ v)).0

-- one more record
pub is_valid-push : (log : List Record) (r : Record) → is_valid (log ++ r ∷ []) ≡ (is_valid log && may_follow log r)
unfolding may_follow_all
is_valid-push log r = is_valid-append log (r ∷ []) ∙ ap (λ b. is_valid log && b) (alone (may_follow log r))
  where
    alone : (b : Bool) → (b && true) ≡ b
    alone true = refl
    alone false = refl

-- ---- no cause stands

-- a record that may follow a log, by its parts
pub record Admitted (log : List Record) (r : Record) : Type 0 where
  pub place : r.lsn.0 ≡ end_of log
  pub prev : bad_prev log r ≡ false
  pub old : old_transaction log r ≡ false
  pub state : wrong_state log r ≡ false
  pub next : wrong_undo_next log r ≡ false
  pub compensation : wrong_compensation log r ≡ false
  pub held : held_by log r ≡ None
  pub image : before_image log r ≡ false
  pub many : too_many log r ≡ false
  pub checkpoint : bad_checkpoint log r ≡ false

else_of : (b : Bool) (c : Cause) (rest : Option Cause) → cond b (Some c) rest ≡ None → (b ≡ false) × (rest ≡ None)
else_of true c rest e = absurd (cc e)
else_of false c rest e = (refl, e)

not_held : (h : Option TransId) (rest : Option Cause) → cond (is_some h) (option_map RecordHeld h) rest ≡ None → (h ≡ None) × (rest ≡ None)
not_held None rest e = (refl, e)
not_held (Some t) rest e = absurd (cc e)

none_of : (o : Option Cause) → is_none o ≡ true → o ≡ None
none_of None e = refl
none_of (Some c) e = absurd (false≢true e)

pub first_bad-none : (log : List Record) (r : Record) → r.lsn.0 ≡ end_of log → first_bad log r ≡ None → Admitted log r
unfolding first_bad
first_bad-none log r place e =
    let a : (bad_prev log r ≡ false) × (_ ≡ None) = else_of (bad_prev log r) BadPrev _ e in
    let b : (old_transaction log r ≡ false) × (_ ≡ None) = else_of (old_transaction log r) OldTransaction _ a.1 in
    let c : (wrong_state log r ≡ false) × (_ ≡ None) = else_of (wrong_state log r) WrongState _ b.1 in
    let d : (wrong_undo_next log r ≡ false) × (_ ≡ None) = else_of (wrong_undo_next log r) WrongUndoNext _ c.1 in
    let f : (wrong_compensation log r ≡ false) × (_ ≡ None) = else_of (wrong_compensation log r) WrongCompensation _ d.1 in
    let g : (held_by log r ≡ None) × (_ ≡ None) = not_held (held_by log r) _ f.1 in
    let h : (before_image log r ≡ false) × (_ ≡ None) = else_of (before_image log r) BeforeImage _ g.1 in
    let i : (too_many log r ≡ false) × (_ ≡ None) = else_of (too_many log r) TooManyTransactions _ h.1 in
    let j : (bad_checkpoint log r ≡ false) × (_ ≡ None) = else_of (bad_checkpoint log r) BadCheckpoint _ i.1 in
    record { place = place; prev = a.0; old = b.0; state = c.0; next = d.0; compensation = f.0; held = g.0; image = h.0; many = i.0; checkpoint = j.0 }

pub first_bad-admitted : (log : List Record) (r : Record) → Admitted log r → first_bad log r ≡ None
unfolding first_bad
first_bad-admitted log r a = rw (a.prev, a.old, a.state, a.next, a.compensation, a.held, a.image, a.many, a.checkpoint) refl

pub Admitted-may_follow : (log : List Record) (r : Record) → may_follow log r ≡ true → Admitted log r
unfolding may_follow
Admitted-may_follow log r m =
    let parts : ((r.lsn.0 == end_of log) ≡ true) × (is_none (first_bad log r) ≡ true) = and_parts _ _ m in
    first_bad-none log r (eqb-true r.lsn.0 (end_of log) parts.0) (none_of (first_bad log r) parts.1)

pub may_follow-admitted : (log : List Record) (r : Record) → Admitted log r → may_follow log r ≡ true
unfolding may_follow
may_follow-admitted log r a = rw (first_bad-admitted log r a) (and_from (r.lsn.0 == end_of log) true (eq-eqb r.lsn.0 (end_of log) a.place) refl)

-- ---- what each record keeps holds of each valid log

pub valid_induction : (P : List Record → Type 0) → P [] → ((log : List Record) (r : Record) → is_valid log ≡ true → P log → Admitted log r → P (log ++ r ∷ [])) → (log : List Record) → is_valid log ≡ true → P log
unfolding may_follow_all is_valid
valid_induction P start step log v = along [] log refl start v
  where
    along : (front rest : List Record) → is_valid front ≡ true → P front → may_follow_all front rest ≡ true → P (front ++ rest)
    along front [] w p m = subst P (sym (append-nil front)) p
    along front (r ∷ rest) w p m =
        let parts : (may_follow front r ≡ true) × (may_follow_all (front ++ r ∷ []) rest ≡ true) = and_parts _ _ m in
        let next : is_valid (front ++ r ∷ []) ≡ true = is_valid-push front r ∙ and_from (is_valid front) (may_follow front r) w parts.0 in
        subst P (append_assoc front (r ∷ []) rest) (along (front ++ r ∷ []) rest next (step front r w p (Admitted-may_follow front r parts.0)) parts.1)

-- ---- what a validator decides

-- a record at the end of a valid log: the log stays valid exactly where there is no cause
pub is_valid-first_bad : (log : List Record) (r : Record) → is_valid log ≡ true → r.lsn.0 ≡ end_of log → is_valid (log ++ r ∷ []) ≡ is_none (first_bad log r)
unfolding may_follow
is_valid-first_bad log r v e = is_valid-push log r ∙ ap (λ b. b && may_follow log r) v ∙ ap (λ b. b && is_none (first_bad log r)) (eq-eqb r.lsn.0 (end_of log) e)
