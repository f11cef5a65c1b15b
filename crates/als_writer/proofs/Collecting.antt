-- The asks that are not met: as they are collected, and what is known of them and of the others.
use Rattle.std.proofs.Common.{◌≡◌, ℕ, suc, zero, ◌+◌, ◌==◌, ◌<◌, ◌≤◌, ltb, leb, Bool, true, false, not, ◌&&◌, cond, List, [], ◌∷◌, ◌++◌, length, get_or, map, filter, take, refl, sym, ap, subst, ◌∙◌, append-nil, arith}
use Rattle.std.specs.Prelude.{All, Contains}
use Rattle.std.proofs.lemmas.Bool.{and_parts, ltb-true, leb-true, eqb-true, not-true, not-false, not_from_true, not_from_false}
use Rattle.std.proofs.lemmas.List.{map_push, nil_from_length}
use Rattle.std.proofs.lemmas.List.Elements.{filter_more, filter_passes, All-nil, All-cons, All-filter, All-contains, All-contains_itself, All-map, All-take}
use Rattle.als_record.specs.declared.key.Key.{Key}
use Rattle.als_record.specs.declared.record.Record.{Record}
use Rattle.als_record.specs.Spelling.{Image, IsKey}
use Rattle.als_record.specs.LogText.{end_of}
use Rattle.als_record.specs.Images.{same_image, image_now}
use Rattle.als_record.proofs.Standing.{same_image-true, same_image-refl}
use Rattle.als_writing.specs.Writing.{last_write}
use Rattle.als_writer.specs.declared.ask.Ask.{Ask}
use Rattle.als_writer.specs.declared.ask.Ask.TheVariants.{Is, Unchanged}
use Rattle.als_writer.specs.declared.unmet.Unmet.{Unmet}
use Rattle.als_writer.specs.Changes.{AreBounds, place_of, is_below}
use Rattle.als_writer.specs.Checking.{key_asked, AreAskedIn}
use Rattle.als_writer.specs.Asking.{IsAsked, IsFailed, IsUnmet, AreUnmet, AreFailing, is_met, unmet_of, unmet_by, with_next}

-- ---- lists

take_again : {X : Type 0} (n : ℕ) (xs ys : List X) → take n (take n xs ++ ys) ≡ take n (xs ++ ys)
take_again zero xs ys = refl
take_again (suc n) [] ys = refl
take_again (suc n) (x ∷ xs) ys = ap (λ zs. x ∷ zs) (take_again n xs ys)

filter_next : {X : Type 0} (p : X → Bool) (xs : List X) (i : ℕ) (x : X) → i < length xs → x ≡ get_or xs i x → filter p (take (i + 1) xs) ≡ filter p (take i xs) ++ cond (p x) (x ∷ []) []
filter_next p xs i x lt at = filter_more p xs i x lt ∙ ap (λ y. filter p (take i xs) ++ cond (p y) (y ∷ []) []) (sym at)

none_pass : {X : Type 0} (p : X → Bool) (xs : List X) → filter p xs ≡ [] → All (λ x. p x ≡ false) xs
none_pass p [] e = All-nil (λ x. p x ≡ false)
none_pass p (x ∷ xs) e = go (p x) refl (λ left. none_pass p xs left)
  where
    go : (b : Bool) → p x ≡ b → (filter p xs ≡ [] → All (λ y. p y ≡ false) xs) → All (λ y. p y ≡ false) (x ∷ xs)
    go true q rest = absurd (cc (sym (rw q at e)))
    go false q rest = All-cons (λ y. p y ≡ false) x xs q (rest (rw q at e))

front_nil : {X : Type 0} (xs : List X) → take 8 xs ≡ [] → xs ≡ []
front_nil [] e = refl
front_nil (x ∷ xs) e = absurd (cc e)

map_nil : {X Y : Type 0} (f : X → Y) (xs : List X) → map f xs ≡ [] → xs ≡ []
map_nil f [] e = refl
map_nil f (x ∷ xs) e = absurd (cc e)

-- ---- one ask

met_asked : (bounds : List ℕ) (pages : ℕ) (log : List Record) (ask : Ask) → AreBounds bounds pages log → IsKey pages (key_asked ask) → is_met bounds log ask ≡ true → IsAsked log ask
met_asked bounds pages log (Is key image) are is e = sym (same_image-true image (image_now log key) e)
met_asked bounds pages log (Unchanged key since) are is e =
    let kept : ℕ = get_or bounds (place_of key) 0 in
    let q : (ltb since.0 (end_of log) ≡ true) × (is_below bounds key since ≡ true) = and_parts (ltb since.0 (end_of log)) (is_below bounds key since) e in
    let p : (ltb (place_of key) (length bounds) ≡ true) × (leb kept since.0 ≡ true) = and_parts (ltb (place_of key) (length bounds)) (leb kept since.0) q.1 in
    let below : kept ≤ since.0 = leb-true kept since.0 p.1 in
    let bound : last_write log key ≤ kept = are.each key 0 is.page is.slot in
    (ltb-true since.0 (end_of log) q.0, omega (arith, below, bound))

unmet_failed : (bounds : List ℕ) (log : List Record) (ask : Ask) → is_met bounds log ask ≡ false → IsFailed log ask
unmet_failed bounds log (Is key image) e = λ same. absurd (cc (sym e ∙ ap (same_image image) same ∙ same_image-refl image))
unmet_failed bounds log (Unchanged key since) e = tt

-- ---- one more ask

next_shown : (bounds : List ℕ) (log : List Record) (asks : List Ask) (i : ℕ) (ask : Ask) (met : Bool) (failing : List Unmet) → i < length asks → ask ≡ get_or asks i ask → met ≡ is_met bounds log ask
    → failing ≡ take 8 (unmet_by bounds log (take i asks)) → with_next met (unmet_of log ask) failing ≡ take 8 (unmet_by bounds log (take (i + 1) asks))
next_shown bounds log asks i ask true failing lt at is so_far =
    let fails : Ask → Bool = λ a. not (is_met bounds log a) in
    let same : filter fails (take (i + 1) asks) ≡ filter fails (take i asks) =
    filter_next fails asks i ask lt at ∙ ap (λ b. filter fails (take i asks) ++ cond b (ask ∷ []) []) (not_from_true (is_met bounds log ask) (sym is)) ∙ append-nil (filter fails (take i asks)) in
    so_far ∙ ap (λ (left : List Ask). take 8 (map (unmet_of log) left)) (sym same)
next_shown bounds log asks i ask false failing lt at is so_far =
    let fails : Ask → Bool = λ a. not (is_met bounds log a) in
    let more : filter fails (take (i + 1) asks) ≡ filter fails (take i asks) ++ ask ∷ [] =
    filter_next fails asks i ask lt at ∙ ap (λ b. filter fails (take i asks) ++ cond b (ask ∷ []) []) (not_from_false (is_met bounds log ask) (sym is)) in
    ap (λ (us : List Unmet). take 8 (us ++ unmet_of log ask ∷ [])) so_far
    ∙ take_again 8 (unmet_by bounds log (take i asks)) (unmet_of log ask ∷ [])
    ∙ ap (take 8) (sym (map_push (unmet_of log) (filter fails (take i asks)) ask))
    ∙ ap (λ (left : List Ask). take 8 (map (unmet_of log) left)) (sym more)

pub next_is : (bounds : List ℕ) (log : List Record) (asks : List Ask) (i : ℕ) (ask : Ask) (met : Bool) (next : Unmet) (failing shown : List Unmet) → i < length asks → ask ≡ get_or asks i ask → met ≡ is_met bounds log ask → next ≡ unmet_of log ask
    → failing ≡ take 8 (unmet_by bounds log (take i asks)) → shown ≡ with_next met next failing → shown ≡ take 8 (unmet_by bounds log (take (i + 1) asks))
next_is bounds log asks i ask met next failing shown lt at is told so_far more =
    more ∙ ap (λ (u : Unmet). with_next met u failing) told ∙ next_shown bounds log asks i ask met failing lt at is so_far

pub now_asked : (log : List Record) (ask : Ask) (key : Key) (now : Image) → key ≡ key_asked ask → now ≡ image_now log key → now ≡ image_now log (key_asked ask)
now_asked log ask key now asks told = told ∙ ap (image_now log) asks

pub next_told : (log : List Record) (ask : Ask) (key : Key) (now : Image) → key ≡ key_asked ask → now ≡ image_now log key → (let next : Unmet = record { key = key; image = now } in next) ≡ unmet_of log ask
next_told log ask key now asks told = ap (λ (k : Key). let next : Unmet = record { key = k; image = now } in next) asks
    ∙ ap (λ (image : Image). let next : Unmet = record { key = key_asked ask; image = image } in next) (now_asked log ask key now asks told)

-- ---- all asks

pub none_shown : (failing : List Unmet) → (length failing == 0) ≡ true → failing ≡ []
none_shown failing e = nil_from_length failing (eqb-true (length failing) 0 e)

pub some_shown : (failing : List Unmet) → (length failing == 0) ≡ false → 0 < length failing
some_shown [] e = absurd (cc e)
some_shown (u ∷ us) e = omega arith

-- where none is shown each holds
pub all_asked : (bounds : List ℕ) (pages : ℕ) (log : List Record) (asks : List Ask) (failing : List Unmet) → AreBounds bounds pages log → AreAskedIn pages asks → failing ≡ take 8 (unmet_by bounds log asks) → failing ≡ []
    → All (λ a. IsAsked log a) asks
all_asked bounds pages log asks failing are keys is none =
    let fails : Ask → Bool = λ a. not (is_met bounds log a) in
    let left : filter fails asks ≡ [] = map_nil (unmet_of log) (filter fails asks) (front_nil (unmet_by bounds log asks) (sym is ∙ none)) in
    λ i d lt. met_asked bounds pages log (get_or asks i d) are (keys i d lt) (not-false (is_met bounds log (get_or asks i d)) (none_pass fails asks left i d lt))

pub are_unmet : (bounds : List ℕ) (log : List Record) (asks : List Ask) (failing : List Unmet) → 0 < length failing → failing ≡ take 8 (unmet_by bounds log asks) → AreUnmet log asks failing
are_unmet bounds log asks failing some' is =
    let fails : Ask → Bool = λ a. not (is_met bounds log a) in
    let among : All (Contains asks) (filter fails asks) = All-filter fails (Contains asks) asks (All-contains_itself asks) in
    let each : All (λ a. IsUnmet log asks (key_asked a) (image_now log (key_asked a))) (filter fails asks) = λ i d lt. record {
      ask = get_or (filter fails asks) i d;
      among = among i d lt;
      key_is = refl;
      failed = unmet_failed bounds log (get_or (filter fails asks) i d) (not-true (is_met bounds log (get_or (filter fails asks) i d)) (filter_passes fails asks i d lt));
      now_is = refl;
    } in
    let shown : All (λ u. IsUnmet log asks u.key u.image) (take 8 (unmet_by bounds log asks)) =
    All-take (λ u. IsUnmet log asks u.key u.image) 8 (unmet_by bounds log asks) (All-map (λ u. IsUnmet log asks u.key u.image) (unmet_of log) (filter fails asks) each) in
    record {
      some = some';
      each = subst (All (λ u. IsUnmet log asks u.key u.image)) (sym is) shown;
    }

pub are_failing : (bounds : List ℕ) (pages : ℕ) (log : List Record) (asks : List Ask) (failing : List Unmet) → AreBounds bounds pages log → AreAskedIn pages asks → failing ≡ take 8 (unmet_by bounds log asks)
    → AreFailing log asks failing
are_failing bounds pages log asks failing are keys is = record {
  fails = λ a. not (is_met bounds log a);
  failed = λ a e. unmet_failed bounds log a (not-true (is_met bounds log a) e);
  asked = λ a among e. met_asked bounds pages log a are (All-contains (λ x. IsKey pages (key_asked x)) asks a keys among) (not-false (is_met bounds log a) e);
  first = is;
}
