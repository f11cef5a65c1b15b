-- The lists of surviving updates as they are kept, and as those of a log, through one more record: a list replaced, added or taken away.
use Rattle.std.proofs.Common.{◌≡◌, ℕ, ◌+◌, ◌≤◌, ◌<◌, Bool, true, false, List, [], ◌∷◌, ◌++◌, length, get_or, set, map, reverse, inl, inr, refl, sym, ap, ◌∙◌, subst, arith}
use Rattle.std.specs.List.{All, remove}
use Rattle.std.proofs.lemmas.Bool.{cases_eq, cases_lt, false≢true}
use Rattle.std.proofs.lemmas.List.{length-map, length-set, length_push, get_or-set_same, get_or-set_other, get_or_append_left, get_or-map, set_past, map-set, set-get_or}
use Rattle.std.proofs.lemmas.List.Edits.{length-remove, get_or-remove_below, get_or-remove_above}
use Rattle.als_record.specs.declared.record.Body.{Body}
use Rattle.als_record.specs.declared.record.Body.TheVariants.{Update, Compensation, Commit, Rollback, End, BeginCheckpoint, EndCheckpoint, Prepare}
use Rattle.als_record.specs.declared.record.Record.{Record}
use Rattle.als_record.specs.Transactions.{is_transactional, is_end, is_update, is_compensation, is_of, is_among, to_undo_after, to_undo, surviving, has_begun, is_unended, unended}
use Rattle.als_record.specs.Validity.{may_follow}
use Rattle.als_record.proofs.Records.{to_undo-own, to_undo-none, surviving-other, surviving-own_update, surviving-own_compensation}
use Rattle.als_record.proofs.Numbers.{eqb-refl}
use Rattle.als_record.proofs.Unended.{is_among-unended}
use Rattle.als_analysis.specs.Noted.{StandsAt}
use Rattle.als_analysis.proofs.LogSteps.{fresh-follows, not_begun, each-checkpoint, each-more, each-end, each-new_end, each-new}
use Rattle.als_validator.specs.Lists.{Left, left_after, IsRoomy, AreKept, MakesRoom}

-- ---- as they are kept

-- what is true of each element is so of each that is left
pub All-remove : {X : Type 0} (P : X → Type 0) (xs : List X) (i : ℕ) → i < length xs → All P xs → All P (remove xs i)
All-remove {X} P xs i lt a k d l =
    let n : length (remove xs i) + 1 ≡ length xs = length-remove xs i lt in
    elim (cases_lt k i) [
      | inl b ↦ subst P (sym (get_or-remove_below xs i d k b lt)) (a k d (omega arith))
      | inr b ↦ subst P (sym (get_or-remove_above xs i d k b lt)) (a (k + 1) d (omega arith))
    ]

module _ (xs ys : List Left) (tight capacity : ℕ) (k : AreKept xs ys tight true capacity) where
  here : IsRoomy xs ys capacity
  here = k.room refl

  module _ (i : ℕ) (o : Left) (lt : i < length xs) where
    roomy-set : 0 < o.room → (x : ℕ) (e : Left) → x < length xs → 0 < (get_or (set xs i o) x e).room
    roomy-set room x e l = elim (cases_eq x i) [
      | inl q ↦ subst (λ (p : Left). 0 < p.room) (sym (ap (λ x. get_or (set xs i o) x e) q ∙ get_or-set_same xs i o e lt)) room
      | inr n ↦ subst (λ (p : Left). 0 < p.room) (sym (get_or-set_other xs i x o e n)) (here.each x e l)
    ]

    -- there is room for one more record where the transaction has room for one more update
    pub kept-set : (roomy : Bool) → (roomy ≡ true → 0 < o.room) → AreKept (set xs i o) ys i roomy capacity
    kept-set roomy room = record {
      spared = k.spared;
      but_one = λ x e l n. let m : length (set xs i o) ≡ length xs = length-set xs i o in rw (get_or-set_other xs i x o e n) (here.each x e (omega arith));
      room = λ f. let n : length (set xs i o) ≡ length xs = length-set xs i o in record { each = λ x e l. roomy-set (room f) x e (subst (λ m. x < m) n l); place = subst (λ m. m < capacity) (sym n) here.place; spare = here.spare };
    }

  pub kept-push : (ys' : List Left) (o : Left) → All (λ o. 0 < o.room) ys' → AreKept (xs ++ o ∷ []) ys' (length xs) false capacity
  kept-push ys' o spared = record {
    spared = spared;
    but_one = λ x e l n. let m : length (xs ++ o ∷ []) ≡ length xs + 1 = length_push xs o in let b : x < length xs = omega arith in rw (get_or_append_left xs (o ∷ []) e x b) (here.each x e b);
    room = λ f. absurd (false≢true f);
  }

  pub kept-remove : (ys' : List Left) (i : ℕ) → i < length xs → All (λ o. 0 < o.room) ys' → AreKept (remove xs i) ys' tight false capacity
  kept-remove ys' i lt spared = record {
    spared = spared;
    but_one = λ x e l n. All-remove (λ o. 0 < o.room) xs i lt here.each x e l;
    room = λ f. absurd (false≢true f);
  }

module _ (xs ys : List Left) (tight capacity : ℕ) (has_room : Bool) (k : AreKept xs ys tight has_room capacity) where
  -- nothing is said of room
  pub kept-unready : (ys' : List Left) (capacity' : ℕ) → All (λ o. 0 < o.room) ys' → AreKept xs ys' tight false capacity'
  kept-unready ys' capacity' spared = record { spared = spared; but_one = k.but_one; room = λ f. absurd (false≢true f) }

  -- room where it was missing
  kept-ready : (ys' : List Left) (capacity' : ℕ) → All (λ o. 0 < o.room) ys' → length xs < capacity' → 0 < length ys' → length xs ≤ tight → AreKept xs ys' tight true capacity'
  kept-ready ys' capacity' spared place spare past = record {
    spared = spared;
    but_one = k.but_one;
    room = λ _. record { each = λ x e l. k.but_one x e l (λ q. absurd (omega arith)); place = place; spare = spare };
  }

  kept-ready_at : (ys' : List Left) (capacity' : ℕ) (o : Left) → All (λ o. 0 < o.room) ys' → length xs < capacity' → 0 < length ys' → tight < length xs → 0 < o.room → AreKept (set xs tight o) ys' tight true capacity'
  kept-ready_at ys' capacity' o spared place spare lt room =
      let n : length (set xs tight o) ≡ length xs = length-set xs tight o in
      record {
        spared = spared;
        but_one = λ x e l ne. rooms x e (subst (λ m. x < m) n l);
        room = λ _. record { each = λ x e l. rooms x e (subst (λ m. x < m) n l); place = subst (λ m. m < capacity') (sym n) place; spare = spare };
      }
    where
      rooms : (x : ℕ) (e : Left) → x < length xs → 0 < (get_or (set xs tight o) x e).room
      rooms x e l = elim (cases_eq x tight) [
        | inl q ↦ subst (λ (p : Left). 0 < p.room) (sym (ap (λ x. get_or (set xs tight o) x e) q ∙ get_or-set_same xs tight o e lt)) room
        | inr n ↦ subst (λ (p : Left). 0 < p.room) (sym (get_or-set_other xs tight x o e n)) (k.but_one x e l n)
      ]

  pub kept-made : (xs' ys' : List Left) (capacity' : ℕ) → All (λ o. 0 < o.room) ys' → length xs < capacity' → 0 < length ys' → MakesRoom xs xs' tight → AreKept xs' ys' tight true capacity'
  kept-made xs' ys' capacity' spared place spare m = elim (cases_lt tight (length xs)) [
    | inl lt ↦ subst (λ zs. AreKept zs ys' tight true capacity') (sym m.is) (kept-ready_at ys' capacity' m.entry spared place spare lt (m.room lt))
    | inr ge ↦ subst (λ zs. AreKept zs ys' tight true capacity') (sym (m.is ∙ set_past xs tight m.entry ge)) (kept-ready ys' capacity' spared place spare ge)
  ]

-- a place's entry replaced by one that a function does not tell from it
pub map-made : {X Y : Type 0} (f : X → Y) (xs : List X) (i : ℕ) (o : X) → (i < length xs → f o ≡ f (get_or xs i o)) → map f (set xs i o) ≡ map f xs
map-made {X} {Y} f xs i o same = elim (cases_lt i (length xs)) [
  | inl lt ↦ map-set f xs i o ∙ ap (λ y. set (map f xs) i y) (same lt ∙ sym (get_or-map f xs i o (f o) lt)) ∙ set-get_or (map f xs) i (f o)
  | inr ge ↦ ap (map f) (set_past xs i o ge)
]

-- ---- as those of a log

module _ (log : List Record) (r : Record) (t : ℕ) (own : is_of t r ≡ true) where
  surviving-own : surviving (log ++ r ∷ []) t ≡ left_after (surviving log t) r r.body
  unfolding surviving
  surviving-own = go r.body refl
    where
      same : (b : Body) → r.body ≡ b → to_undo_after (to_undo log t) r b ≡ to_undo log t → surviving (log ++ r ∷ []) t ≡ surviving log t
      same b e s = ap reverse (to_undo-own log r t own ∙ ap (to_undo_after (to_undo log t) r) e ∙ s)

      go : (b : Body) → r.body ≡ b → surviving (log ++ r ∷ []) t ≡ left_after (surviving log t) r b
      go (Update key before after) e = surviving-own_update log r t own (ap is_update e)
      go (Compensation undo_next key after) e = surviving-own_compensation log r t own (ap is_compensation e)
      go Commit e = same Commit e refl
      go Rollback e = same Rollback e refl
      go End e = same End e refl
      go BeginCheckpoint e = same BeginCheckpoint e refl
      go (EndCheckpoint transactions pages) e = same (EndCheckpoint transactions pages) e refl
      go Prepare e = same Prepare e refl

surviving-none : (log : List Record) (t : ℕ) → has_begun log t ≡ false → surviving log t ≡ []
unfolding surviving
surviving-none log t n = ap reverse (to_undo-none log t n)

module _ (log : List Record) (r : Record) (old new : List (List Record)) (kept : old ≡ map (surviving log) (unended log)) where
  agree : (x : ℕ) → is_of x r ≡ false → surviving (log ++ r ∷ []) x ≡ surviving log x
  agree x e = surviving-other log r x e

  pub lists-checkpoint : is_transactional r.body ≡ false → new ≡ old → new ≡ map (surviving (log ++ r ∷ [])) (unended (log ++ r ∷ []))
  lists-checkpoint w p = each-checkpoint (surviving (log ++ r ∷ [])) (surviving log) log r agree old new kept w p

  module _ (w : is_transactional r.body ≡ true) (m : may_follow log r ≡ true) where
    own : surviving (log ++ r ∷ []) r.trans.0 ≡ left_after (surviving log r.trans.0) r r.body
    own = surviving-own log r r.trans.0 (rw (w, eqb-refl r.trans.0) refl)

    module _ (i : ℕ) (s : StandsAt log r.trans.0 i) where
      pub lists-place : i < length old
      lists-place = subst (λ n. i < n) (sym (ap (λ (ls : List (List Record)). length ls) kept ∙ length-map (unended log) (surviving log))) s.within

      pub lists-more : is_end r.body ≡ false → new ≡ set old i (left_after (get_or old i []) r r.body) → new ≡ map (surviving (log ++ r ∷ [])) (unended (log ++ r ∷ []))
      lists-more e p = each-more (surviving (log ++ r ∷ [])) (surviving log) log r agree old new kept w i s.within s.here s.is_open (λ us. left_after us r r.body) [] e own p

      pub lists-end : is_end r.body ≡ true → new ≡ remove old i → new ≡ map (surviving (log ++ r ∷ [])) (unended (log ++ r ∷ []))
      lists-end e p = each-end (surviving (log ++ r ∷ [])) (surviving log) log r agree old new kept w i s.within s.here s.is_open e p

    module _ (closed : is_unended log r.trans.0 ≡ false) where
      begins : has_begun log r.trans.0 ≡ false
      begins = not_begun log r.trans.0 (fresh-follows log r m w closed)

      not_among : is_among (unended log) r.trans.0 ≡ false
      not_among = is_among-unended log r.trans.0 ∙ closed

      pub lists-new_end : is_end r.body ≡ true → new ≡ old → new ≡ map (surviving (log ++ r ∷ [])) (unended (log ++ r ∷ []))
      lists-new_end e p = each-new_end (surviving (log ++ r ∷ [])) (surviving log) log r agree old new kept w begins not_among e p

      pub lists-new : is_end r.body ≡ false → new ≡ old ++ left_after [] r r.body ∷ [] → new ≡ map (surviving (log ++ r ∷ [])) (unended (log ++ r ∷ []))
      lists-new e p = each-new (surviving (log ++ r ∷ [])) (surviving log) log r agree old new kept w begins not_among (left_after [] r r.body) e (own ∙ ap (λ us. left_after us r r.body) (surviving-none log r.trans.0 begins)) p

-- the survivors of a transaction that stands at a place
pub list-standing : (log : List Record) (lists : List (List Record)) (t at : ℕ) → lists ≡ map (surviving log) (unended log) → StandsAt log t at → get_or lists at [] ≡ surviving log t
list-standing log lists t at kept s = ap (λ (ls : List (List Record)). get_or ls at []) kept ∙ get_or-map (surviving log) (unended log) at 0 [] s.within ∙ ap (surviving log) s.here
