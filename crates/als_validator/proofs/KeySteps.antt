-- What is kept of the keys, with one more record.
use Rattle.std.proofs.Common.{◌≡◌, ◌≢◌, ℕ, ◌==◌, ◌+◌, ◌-◌, ◌*◌, ◌^◌, ◌≤◌, ◌<◌, min, Bool, true, false, cond, not, List, [], ◌∷◌, ◌++◌, length, get_or, set, drop, Option, Some, None, refl, sym, ap, ◌∙◌, inl, inr, ◌⊎◌, subst, arith, get_or-set_other, get_or-set_same}
use Rattle.std.specs.List.{list_any}
use Rattle.std.proofs.lemmas.Bool.{cases_Bool, eqb-true, eq-eqb, false≢true, true≢false, and_parts, or_parts}
use Rattle.std.proofs.lemmas.List.{length-set}
use Rattle.als_record.specs.declared.trans_id.TransId.{TransId}
use Rattle.als_record.specs.declared.lsn.Lsn.{Lsn}
use Rattle.als_record.specs.declared.key.Key.{Key}
use Rattle.als_record.specs.declared.record.Body.{Body}
use Rattle.als_record.specs.declared.record.Body.TheVariants.{Update, Compensation, Commit, Rollback, End, BeginCheckpoint, EndCheckpoint, Prepare}
use Rattle.als_record.specs.declared.record.Record.{Record}
use Rattle.als_record.specs.Spelling.{Image, IsKey, IsBody}
use Rattle.als_record.specs.LogText.{end_of}
use Rattle.als_record.specs.Pages.{change_in}
use Rattle.als_record.specs.Transactions.{is_transactional, is_update, is_compensation, is_of, records_of, to_undo_after, to_undo, is_some_left, has_ended, is_committed, is_unended, is_open}
use Rattle.als_record.specs.Images.{same_key, same_image, image_now, is_update_at, image_before}
use Rattle.als_record.specs.Validity.{is_valid, undoes_newest, wrong_compensation, held_by}
use Rattle.als_record.proofs.Numbers.{eqb-sym}
use Rattle.als_record.proofs.Records.{to_undo-own, to_undo-other, is_committed-grows, has_ended-grows}
use Rattle.als_record.proofs.Survivors.{has_begun-survivor}
use Rattle.als_record.proofs.Images.{image_with, image_now-push}
use Rattle.als_record.proofs.Standing.{same_key-true, same_key-refl, is_update_at-same}
use Rattle.als_record.proofs.Validity.{Admitted}
use Rattle.als_record.proofs.Held.{holds, held_by-open}
use Rattle.als_validator.specs.declared.key_state.KeyState.{KeyState}
use Rattle.als_validator.specs.Keys.{updates_at, IsKeyOf, AreKeysOf, place_of}
use Rattle.als_validator.proofs.Bounds.{Follows, updates_at-below}

-- what is over later was over before
before : (f g : Bool) → (f ≡ true → g ≡ true) → g ≡ false → f ≡ false
before true g h e = absurd (false≢true (sym e ∙ h refl))
before false g h e = refl

pub count-none : (k : Key) (us : List Record) → list_any (λ u. is_update_at k u.body) us ≡ false → updates_at k us ≡ 0
count-none k [] e = refl
count-none k (u ∷ us) e =
    let parts : (is_update_at k u.body ≡ false) × (list_any (λ u. is_update_at k u.body) us ≡ false) = or_parts (is_update_at k u.body) (list_any (λ u. is_update_at k u.body) us) e in
    rw parts.0 (let m : updates_at k us ≡ 0 = count-none k us parts.1 in omega arith)

some_left-any : (p : Record → Bool) (us : List Record) → list_any p us ≡ true → is_some_left us ≡ true
some_left-any p [] e = e
some_left-any p (u ∷ us) e = refl

-- a transaction with updates left that has neither committed nor ended is open
holds_on : (log : List Record) (t : ℕ) → is_some_left (to_undo log t) ≡ true → is_committed log t ≡ false → has_ended log t ≡ false → is_open log t ≡ true
unfolding is_open is_unended
holds_on log t s c h = rw (has_begun-survivor log t s, h, c) refl

-- ---- one key

module _ (log : List Record) (r : Record) (k : Key) (old : KeyState) (kept : IsKeyOf old log k) where
  -- what has to be shown of what is kept next
  next : (new : KeyState) → new.image ≡ image_now (log ++ r ∷ []) k
      → ((t : ℕ) → is_of t r ≡ true → is_committed log t ≡ false → has_ended log t ≡ false → updates_at k (to_undo_after (to_undo log t) r r.body) ≡ cond (t == new.holder.0) new.count 0)
      → ((t : ℕ) → is_of t r ≡ false → is_committed log t ≡ false → has_ended log t ≡ false → updates_at k (to_undo log t) ≡ cond (t == new.holder.0) new.count 0)
      → IsKeyOf new (log ++ r ∷ []) k
  next new image own other = record {
    image = image;
    held = λ t c h.
        let d : is_committed log t ≡ false = before (is_committed log t) (is_committed (log ++ r ∷ []) t) (is_committed-grows log r t) c in
        let i : has_ended log t ≡ false = before (has_ended log t) (has_ended (log ++ r ∷ []) t) (has_ended-grows log r t) h in
        elim (cases_Bool (is_of t r)) [
          | inl o ↦ ap (updates_at k) (to_undo-own log r t o) ∙ own t o d i
          | inr o ↦ ap (updates_at k) (to_undo-other log r t o) ∙ other t o d i
        ];
  }

  -- a record that neither writes the key nor changes what survives of it
  untouched : image_now (log ++ r ∷ []) k ≡ image_now log k → ((t : ℕ) → updates_at k (to_undo_after (to_undo log t) r r.body) ≡ updates_at k (to_undo log t) ⊎ (is_of t r ≡ false)) → IsKeyOf old (log ++ r ∷ []) k
  untouched image same = next old (kept.image ∙ sym image)
      (λ t o c h. elim (same t) [ inl q ↦ q ∙ kept.held t c h | inr n ↦ absurd (false≢true (sym n ∙ o)) ])
      (λ t o c h. kept.held t c h)

  own_trans : (t : ℕ) → is_of t r ≡ true → r.trans.0 ≡ t
  own_trans t o = eqb-true r.trans.0 t (and_parts (is_transactional r.body) (r.trans.0 == t) o).1

  other_trans : (t : ℕ) → is_transactional r.body ≡ true → is_of t r ≡ false → (t == r.trans.0) ≡ false
  other_trans t w o = elim (cases_Bool (t == r.trans.0)) [
    | inr e ↦ e
    | inl e ↦ let f : is_of t r ≡ true = rw (w, eq-eqb r.trans.0 t (sym (eqb-true t r.trans.0 e))) refl in absurd (false≢true (sym o ∙ f))
  ]

  module _ (valid : is_valid log ≡ true) (a : Admitted log r) where
    -- the transaction's own update of the key
    pub IsKeyOf-update : (fore after : Image) → r.body ≡ Update k fore after → r.lsn.0 < 2 ^ 64 → (new : KeyState) → new.image ≡ after → new.holder ≡ r.trans → new.count ≡ cond (old.holder.0 == r.trans.0) (min (old.count + 1) (2 ^ 64 - 1)) 1 → IsKeyOf new (log ++ r ∷ []) k
    IsKeyOf-update fore after b small new image holder count = next new (image ∙ sym wrote) own other
      where
        wrote : image_now (log ++ r ∷ []) k ≡ after
        wrote = image_now-push log r k ∙ ap (λ x. image_with k (image_now log k) (change_in r x)) b ∙ ap (λ c. cond c after (image_now log k)) (same_key-refl k)

        w : is_transactional r.body ≡ true
        w = ap is_transactional b

        one_more : (t : ℕ) → updates_at k (to_undo_after (to_undo log t) r r.body) ≡ 1 + updates_at k (to_undo log t)
        one_more t = ap (λ x. updates_at k (to_undo_after (to_undo log t) r x)) b ∙ ap (λ c. cond c 1 0 + updates_at k (to_undo log t)) (ap (is_update_at k) b ∙ same_key-refl k)

        own : (t : ℕ) → is_of t r ≡ true → is_committed log t ≡ false → has_ended log t ≡ false → updates_at k (to_undo_after (to_undo log t) r r.body) ≡ cond (t == new.holder.0) new.count 0
        own t o c h =
            let q : r.trans.0 ≡ t = own_trans t o in
            let e : (t == new.holder.0) ≡ true = eq-eqb t new.holder.0 (sym (ap (λ (i : TransId). i.0) holder ∙ q)) in
            let m : updates_at k (to_undo_after (to_undo log t) r r.body) ≡ 1 + updates_at k (to_undo log t) = one_more t in
            let n : updates_at k (to_undo log t) ≡ cond (t == old.holder.0) old.count 0 = kept.held t c h in
            let below : updates_at k (to_undo log t) * 2 + 16 ≤ end_of log = updates_at-below k t log in
            let place : r.lsn.0 ≡ end_of log = a.place in
            rw e (elim (cases_Bool (old.holder.0 == r.trans.0)) [
              | inl y ↦
                  let z : (t == old.holder.0) ≡ true = eq-eqb t old.holder.0 (sym (eqb-true old.holder.0 r.trans.0 y ∙ q)) in
                  let p : updates_at k (to_undo log t) ≡ old.count = (rw z at n) in
                  let s : new.count ≡ min (old.count + 1) (2 ^ 64 - 1) = (rw y at count) in
                  omega arith
              | inr y ↦
                  let z : (t == old.holder.0) ≡ false = ap (λ n. n == old.holder.0) (sym q) ∙ eqb-sym r.trans.0 old.holder.0 ∙ y in
                  let p : updates_at k (to_undo log t) ≡ 0 = (rw z at n) in
                  let s : new.count ≡ 1 = (rw y at count) in
                  omega arith
            ])

        free : (t : ℕ) → is_of t r ≡ false → is_committed log t ≡ false → has_ended log t ≡ false → updates_at k (to_undo log t) ≡ 0
        free t o c h = elim (cases_Bool (holds log t k)) [
          | inr e ↦ count-none k (to_undo log t) e
          | inl e ↦
              let l : is_open log t ≡ true = holds_on log t (some_left-any (λ u. is_update_at k u.body) (to_undo log t) e) c h in
              let f : held_by log r ≡ Some (record { 0 = t }) = held_by-open log r k fore after valid b t l (other_trans t w o) e in
              let g : ◌≡◌ {A = Option TransId} None (Some (record { 0 = t })) = sym a.held ∙ f in
              absurd (cc g)
        ]

        other : (t : ℕ) → is_of t r ≡ false → is_committed log t ≡ false → has_ended log t ≡ false → updates_at k (to_undo log t) ≡ cond (t == new.holder.0) new.count 0
        other t o c h =
            let e : (t == new.holder.0) ≡ false = ap (λ (i : TransId). t == i.0) holder ∙ other_trans t w o in
            rw e (free t o c h)

    -- the transaction's newest update of the key is undone
    module _ (undo_next : Lsn) (key : Key) (after : Image) (b : r.body ≡ Compensation undo_next key after) where
      undoes : (left : List Record) → undoes_newest left (Compensation undo_next key after) ≡ true → (u : Record) × (rest : List Record) × (left ≡ u ∷ rest) × (is_update_at key u.body ≡ true)
      undoes [] e = absurd (false≢true e)
      undoes (u ∷ rest) e = (u, rest, refl, (and_parts (is_update_at key u.body) (same_image after (image_before u.body)) e).0)

      newest : undoes_newest (to_undo log r.trans.0) (Compensation undo_next key after) ≡ true
      unfolding wrong_compensation
      newest = ap (undoes_newest (to_undo log r.trans.0)) (sym b) ∙ truth (undoes_newest (to_undo log r.trans.0) r.body) a.compensation
        where
          truth : (c : Bool) → not c ≡ false → c ≡ true
          truth true e = refl
          truth false e = absurd (true≢false e)

      -- what is counted then
      one_less : (t : ℕ) → is_of t r ≡ true → updates_at k (to_undo log t) ≡ cond (same_key key k) 1 0 + updates_at k (to_undo_after (to_undo log t) r r.body)
      one_less t o =
          let q : r.trans.0 ≡ t = own_trans t o in
          let (u, rest, e, y) = undoes (to_undo log r.trans.0) newest in
          let f : to_undo log t ≡ u ∷ rest = ap (to_undo log) (sym q) ∙ e in
          let g : to_undo_after (to_undo log t) r r.body ≡ rest = ap (to_undo_after (to_undo log t) r) b ∙ ap (drop 1) f in
          ap (updates_at k) f ∙ ap (λ c. cond c 1 0 + updates_at k rest) (is_update_at-same key k u.body y) ∙ ap (λ us. cond (same_key key k) 1 0 + updates_at k us) (sym g)

      pub IsKeyOf-undo : same_key key k ≡ true → (new : KeyState) → new.image ≡ after → new.holder ≡ old.holder → new.count ≡ cond (old.holder.0 == r.trans.0) (old.count - 1) old.count → IsKeyOf new (log ++ r ∷ []) k
      IsKeyOf-undo same new image holder count = next new (image ∙ sym wrote) own other
        where
          wrote : image_now (log ++ r ∷ []) k ≡ after
          wrote = image_now-push log r k ∙ ap (λ x. image_with k (image_now log k) (change_in r x)) b ∙ ap (λ c. cond c after (image_now log k)) same

          w : is_transactional r.body ≡ true
          w = ap is_transactional b

          own : (t : ℕ) → is_of t r ≡ true → is_committed log t ≡ false → has_ended log t ≡ false → updates_at k (to_undo_after (to_undo log t) r r.body) ≡ cond (t == new.holder.0) new.count 0
          own t o c h =
              let q : r.trans.0 ≡ t = own_trans t o in
              let m : updates_at k (to_undo log t) ≡ 1 + updates_at k (to_undo_after (to_undo log t) r r.body) = one_less t o ∙ ap (λ c. cond c 1 0 + updates_at k (to_undo_after (to_undo log t) r r.body)) same in
              let n : updates_at k (to_undo log t) ≡ cond (t == old.holder.0) old.count 0 = kept.held t c h in
              elim (cases_Bool (t == old.holder.0)) [
                | inr z ↦ let p : updates_at k (to_undo log t) ≡ 0 = (rw z at n) in absurd (omega arith)
                | inl z ↦
                    let p : updates_at k (to_undo log t) ≡ old.count = (rw z at n) in
                    let e : (t == new.holder.0) ≡ true = ap (λ (i : TransId). t == i.0) holder ∙ z in
                    let y : (old.holder.0 == r.trans.0) ≡ true = eq-eqb old.holder.0 r.trans.0 (sym (eqb-true t old.holder.0 z) ∙ sym q) in
                    let s : new.count ≡ old.count - 1 = (rw y at count) in
                    rw e (omega arith)
              ]

          other : (t : ℕ) → is_of t r ≡ false → is_committed log t ≡ false → has_ended log t ≡ false → updates_at k (to_undo log t) ≡ cond (t == new.holder.0) new.count 0
          other t o c h = kept.held t c h ∙ ap (λ (i : TransId). cond (t == i.0) old.count 0) (sym holder) ∙ elim (cases_Bool (t == old.holder.0)) [
            | inr z ↦ let e : (t == new.holder.0) ≡ false = ap (λ (i : TransId). t == i.0) holder ∙ z in rw e refl
            | inl z ↦
                let d : (old.holder.0 == r.trans.0) ≡ false = ap (λ n. n == r.trans.0) (sym (eqb-true t old.holder.0 z)) ∙ other_trans t w o in
                let s : new.count ≡ old.count = (rw d at count) in
                ap (λ n. cond (t == new.holder.0) n 0) (sym s)
          ]

      pub IsKeyOf-undo_other : same_key key k ≡ false → IsKeyOf old (log ++ r ∷ []) k
      IsKeyOf-undo_other same = untouched
          (image_now-push log r k ∙ ap (λ x. image_with k (image_now log k) (change_in r x)) b ∙ ap (λ c. cond c after (image_now log k)) same)
          (λ t. elim (cases_Bool (is_of t r)) [
            | inr o ↦ inr o
            | inl o ↦ inl (let m : updates_at k (to_undo log t) ≡ 0 + updates_at k (to_undo_after (to_undo log t) r r.body) = one_less t o ∙ ap (λ c. cond c 1 0 + updates_at k (to_undo_after (to_undo log t) r r.body)) same in omega arith)
          ])

  -- an update of another key
  pub IsKeyOf-update_other : (key : Key) (fore after : Image) → r.body ≡ Update key fore after → same_key key k ≡ false → IsKeyOf old (log ++ r ∷ []) k
  IsKeyOf-update_other key fore after b same = untouched
      (image_now-push log r k ∙ ap (λ x. image_with k (image_now log k) (change_in r x)) b ∙ ap (λ c. cond c after (image_now log k)) same)
      (λ t. inl (let m : updates_at k (to_undo_after (to_undo log t) r r.body) ≡ 0 + updates_at k (to_undo log t) = ap (λ x. updates_at k (to_undo_after (to_undo log t) r x)) b ∙ ap (λ c. cond c 1 0 + updates_at k (to_undo log t)) (ap (is_update_at k) b ∙ same) in omega arith))

  -- a record that writes nothing
  pub IsKeyOf-quiet : is_update r.body ≡ false → is_compensation r.body ≡ false → IsKeyOf old (log ++ r ∷ []) k
  IsKeyOf-quiet u c = untouched (image_now-push log r k ∙ ap (image_with k (image_now log k)) (no_change r.body u c)) (λ t. inl (ap (updates_at k) (same_left (to_undo log t) r.body u c)))
    where
      no_change : (b : Body) → is_update b ≡ false → is_compensation b ≡ false → change_in r b ≡ None
      no_change (Update key before after) u c = absurd (true≢false u)
      no_change (Compensation undo_next key after) u c = absurd (true≢false c)
      no_change Commit u c = refl
      no_change Rollback u c = refl
      no_change End u c = refl
      no_change BeginCheckpoint u c = refl
      no_change (EndCheckpoint transactions pages) u c = refl
      no_change Prepare u c = refl

      same_left : (left : List Record) (b : Body) → is_update b ≡ false → is_compensation b ≡ false → to_undo_after left r b ≡ left
      same_left left (Update key before after) u c = absurd (true≢false u)
      same_left left (Compensation undo_next key after) u c = absurd (true≢false c)
      same_left left Commit u c = refl
      same_left left Rollback u c = refl
      same_left left End u c = refl
      same_left left BeginCheckpoint u c = refl
      same_left left (EndCheckpoint transactions pages) u c = refl
      same_left left Prepare u c = refl

-- neither an update nor a compensation
-- ---- all keys

-- other keys are kept elsewhere
place_of-other : (key k : Key) → key.slot ≤ 14 → k.slot ≤ 14 → same_key key k ≡ false → place_of k ≢ place_of key
place_of-other key k a b d = λ e.
    let p : key.page ≡ k.page = omega arith in
    let s : key.slot ≡ k.slot = omega arith in
    let f : same_key key k ≡ true = rw (eq-eqb key.page k.page p, eq-eqb key.slot k.slot s) refl in
    false≢true (sym d ∙ f)

pub place_of-below : (pages : ℕ) (k : Key) → k.page < pages → k.slot ≤ 14 → place_of k < pages * 15
place_of-below pages k p s = omega arith

module _ (pages : ℕ) (log : List Record) (r : Record) (kept : List KeyState) (are : AreKeysOf kept pages log) where
  -- what is kept of one key is replaced
  keys-set : (key : Key) (new : KeyState) → IsKey pages key → ((d : KeyState) → IsKeyOf (get_or kept (place_of key) d) log key → IsKeyOf new (log ++ r ∷ []) key) → ((k : Key) (old : KeyState) → IsKeyOf old log k → same_key key k ≡ false → IsKeyOf old (log ++ r ∷ []) k) → AreKeysOf (set kept (place_of key) new) pages (log ++ r ∷ [])
  keys-set key new fits mine others = record {
    count = length-set kept (place_of key) new ∙ are.count;
    each = λ k d p s. elim (cases_Bool (same_key key k)) [
      | inl e ↦
          let q : key ≡ k = same_key-true key k e in
          let below : place_of key < length kept = subst (λ n. place_of key < n) (sym are.count) (place_of-below pages key fits.page fits.slot) in
          subst (λ l. IsKeyOf (get_or (set kept (place_of key) new) (place_of l) d) (log ++ r ∷ []) l) q
          (subst (λ x. IsKeyOf x (log ++ r ∷ []) key) (sym (get_or-set_same kept (place_of key) new d below)) (mine d (are.each key d fits.page fits.slot)))
      | inr e ↦
          let n : place_of k ≢ place_of key = place_of-other key k fits.slot s e in
          subst (λ x. IsKeyOf x (log ++ r ∷ []) k) (sym (get_or-set_other kept (place_of key) (place_of k) new d n)) (others k (get_or kept (place_of k) d) (are.each k d p s) e)
    ];
  }

  pub keys-update : (key : Key) (fore after : Image) → r.body ≡ Update key fore after → Follows pages log r → (at : ℕ) → at ≡ place_of key → (d new : KeyState) → new.image ≡ after → new.holder ≡ r.trans → new.count ≡ cond ((get_or kept at d).holder.0 == r.trans.0) (min ((get_or kept at d).count + 1) (2 ^ 64 - 1)) 1 → AreKeysOf (set kept at new) pages (log ++ r ∷ [])
  keys-update key fore after b f at place d new image holder count =
      subst (λ n. AreKeysOf (set kept n new) pages (log ++ r ∷ [])) (sym place)
      (keys-set key new fits.0
      (λ _ _. IsKeyOf-update log r key (get_or kept at d) (subst (λ n. IsKeyOf (get_or kept n d) log key) (sym place) (are.each key d fits.0.page fits.0.slot)) f.valid f.admitted fore after b f.fits.lsn new image holder count)
      (λ k o i e. IsKeyOf-update_other log r k o i key fore after b e))
    where
      fits : IsBody pages (Update key fore after)
      fits = subst (IsBody pages) b f.fits.body

  pub keys-undo : (undo_next : Lsn) (key : Key) (after : Image) → r.body ≡ Compensation undo_next key after → Follows pages log r → (at : ℕ) → at ≡ place_of key → (d new : KeyState) → new.image ≡ after → new.holder ≡ (get_or kept at d).holder → new.count ≡ cond ((get_or kept at d).holder.0 == r.trans.0) ((get_or kept at d).count - 1) (get_or kept at d).count → AreKeysOf (set kept at new) pages (log ++ r ∷ [])
  keys-undo undo_next key after b f at place d new image holder count =
      subst (λ n. AreKeysOf (set kept n new) pages (log ++ r ∷ [])) (sym place)
      (keys-set key new fits.1
      (λ _ _. IsKeyOf-undo log r key (get_or kept at d) (subst (λ n. IsKeyOf (get_or kept n d) log key) (sym place) (are.each key d fits.1.page fits.1.slot)) f.valid f.admitted undo_next key after b (same_key-refl key) new image holder count)
      (λ k o i e. IsKeyOf-undo_other log r k o i f.valid f.admitted undo_next key after b e))
    where
      fits : IsBody pages (Compensation undo_next key after)
      fits = subst (IsBody pages) b f.fits.body

  pub keys-quiet : is_update r.body ≡ false → is_compensation r.body ≡ false → AreKeysOf kept pages (log ++ r ∷ [])
  keys-quiet u c = record { count = are.count; each = λ k d p s. IsKeyOf-quiet log r k (get_or kept (place_of k) d) (are.each k d p s) u c }

-- ---- no record yet

nothing : (k : Key) → image_now [] k ≡ None
unfolding image_now
nothing k = refl

nobody : (k : Key) (t : ℕ) → updates_at k (to_undo [] t) ≡ 0
unfolding to_undo records_of
nobody k t = refl

pub keys-none : (pages : ℕ) (kept : List KeyState) → length kept ≡ pages * 15 → ((k : ℕ) (d : KeyState) → k < length kept → ((get_or kept k d).image ≡ None) × ((get_or kept k d).count ≡ 0)) → AreKeysOf kept pages []
keys-none pages kept n blank = record {
  count = n;
  each = λ k d p s.
      let below : place_of k < length kept = subst (λ m. place_of k < m) (sym n) (place_of-below pages k p s) in
      let here : ((get_or kept (place_of k) d).image ≡ None) × ((get_or kept (place_of k) d).count ≡ 0) = blank (place_of k) d below in
      record { image = here.0 ∙ sym (nothing k); held = λ t _ _. nobody k t ∙ sym (zero_either (t == (get_or kept (place_of k) d).holder.0) (get_or kept (place_of k) d).count here.1) };
}
  where
    zero_either : (b : Bool) (n : ℕ) → n ≡ 0 → cond b n 0 ≡ 0
    zero_either true n e = e
    zero_either false n e = refl
