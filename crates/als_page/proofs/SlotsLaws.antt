-- Laws of slots, one after another.
use Rattle.std.proofs.Common.{◌≡◌, ℕ, zero, suc, ◌+◌, ◌*◌, ◌<◌, ◌≤◌, List, [], ◌∷◌, ◌++◌, length, get_or, take, drop, None, refl, ap, ap₂, sym, ◌∙◌, subst, arith, append-nil, length-append, slice_set}
use Rattle.std.proofs.lemmas.List.{take_more, take_more_set, take_at, drop_at, ext_get_or, drop-drop, take_all}
use Rattle.std.proofs.Math.Seq.{take-add}
use Rattle.std.proofs.lemmas.List.Concat.{flat_map-append}
use Rattle.std.proofs.lemmas.Slice.{take-put_mid}
use borrow.Rule.Slice.PartMut.{put_mid}
use Rattle.std.specs.List.{flat_map, AllByRecursion}
use Rattle.als_record.specs.Spelling.{Image, IsImage}
use Rattle.als_page.specs.Block.{slot_bytes}
use Rattle.als_page.proofs.SlotLaws.{length-slot_bytes, slot_bytes-injective}

all-append : (P : Image → Type 0) (xs : List Image) (x : Image) → AllByRecursion P xs → P x → AllByRecursion P (xs ++ x ∷ [])
all-append P [] x h p = (p, tt)
all-append P (y ∷ xs) x h p = (h.0, all-append P xs x h.1 p)

-- one more slot fits
pub fits-more : (images : List Image) (i : ℕ) (image : Image) → i < length images → image ≡ get_or images i image → AllByRecursion IsImage (take i images) → IsImage image
    → AllByRecursion IsImage (take (i + 1) images)
fits-more images i image lt is h p =
    let more : take (i + 1) images ≡ take i images ++ image ∷ [] = take_more images i image lt ∙ ap (λ x. take i images ++ x ∷ []) (sym is) in
    subst (AllByRecursion IsImage) (sym more) (all-append IsImage (take i images) image h p)

-- one more slot is written behind those written
pub written-more : (images : List Image) (i k : ℕ) (image : Image) (into slot : List ℕ) → i < length images → image ≡ get_or images i image → IsImage image
    → length into ≡ 32 * length images → take (32 * i) into ≡ flat_map slot_bytes (take i images) → slot ≡ slot_bytes image
    → take (32 * (i + 1)) (put_mid (32 * i) k into slot) ≡ flat_map slot_bytes (take (i + 1) images)
written-more images i k image into slot lt is fits room was now' =
    let len : length slot ≡ 32 = ap length now' ∙ length-slot_bytes image fits in
    let end' : 32 * (i + 1) ≡ 32 * i + length slot = omega arith in
    let within : 32 * i ≤ length into = omega arith in
    let more : take (i + 1) images ≡ take i images ++ image ∷ [] = take_more images i image lt ∙ ap (λ x. take i images ++ x ∷ []) (sym is) in
    take-put_mid (32 * i) k into slot (32 * (i + 1)) end' within
    ∙ ap₂ (λ xs ys. xs ++ ys) was (now' ∙ sym (append-nil (slot_bytes image)))
    ∙ sym (ap (flat_map slot_bytes) more ∙ flat_map-append slot_bytes (take i images) (image ∷ []))

length-flat : (images : List Image) → AllByRecursion IsImage images → length (flat_map slot_bytes images) ≡ 32 * length images
length-flat [] h = refl
length-flat (x ∷ xs) h = omega (arith, length-append (slot_bytes x) (flat_map slot_bytes xs), length-slot_bytes x h.0, length-flat xs h.1)

-- the slot at a place
pub slot-at : (images : List Image) (i : ℕ) → i < length images → AllByRecursion IsImage images
    → (take 32 (drop (32 * i) (flat_map slot_bytes images)) ≡ slot_bytes (get_or images i None)) × IsImage (get_or images i None)
slot-at [] i lt h = absurd (omega arith)
slot-at (x ∷ xs) zero lt h = (take_at (slot_bytes x) (flat_map slot_bytes xs) 32 (length-slot_bytes x h.0), h.0)
slot-at (x ∷ xs) (suc i) lt h =
    let below : i < length xs = omega arith in
    let place : 32 * suc i ≡ 32 + 32 * i = omega arith in
    let rest = slot-at xs i below h.1 in (
      ap (λ n. take 32 (drop n (slot_bytes x ++ flat_map slot_bytes xs))) place
          ∙ ap (take 32) (sym (drop-drop (32 * i) 32 (slot_bytes x ++ flat_map slot_bytes xs))
          ∙ ap (drop (32 * i)) (drop_at (slot_bytes x) (flat_map slot_bytes xs) 32 (length-slot_bytes x h.0)))
          ∙ rest.0,
      rest.1,
    )

-- no two lists of images have one spelling
pub flat-injective : (xs ys : List Image) → length xs ≡ length ys → AllByRecursion IsImage xs → AllByRecursion IsImage ys
    → flat_map slot_bytes xs ≡ flat_map slot_bytes ys → xs ≡ ys
flat-injective xs ys len hx hy same =
    ext_get_or None xs ys len (λ i lt.
    let lt' : i < length ys = omega arith in
    slot_bytes-injective (get_or xs i None) (get_or ys i None)
    (sym (slot-at xs i lt hx).0 ∙ ap (λ bytes. take 32 (drop (32 * i) bytes)) same ∙ (slot-at ys i lt' hy).0))

-- one more slot is read behind those read
pub read-more : (images : List Image) (i n : ℕ) (image : Image) (bytes : List ℕ) → i < length images → n ≡ 32 → take n (drop (32 * i) bytes) ≡ slot_bytes image
    → take (32 * i) bytes ≡ flat_map slot_bytes (take i images)
    → take (32 * (i + 1)) bytes ≡ flat_map slot_bytes (take (i + 1) (slice_set images i image))
read-more images i n image bytes lt size here was =
    let place : 32 * (i + 1) ≡ 32 * i + n = omega arith in
    ap (λ k. take k bytes) place ∙ take-add (32 * i) n bytes
    ∙ ap₂ (λ xs ys. xs ++ ys) was (here ∙ sym (append-nil (slot_bytes image)))
    ∙ sym (ap (flat_map slot_bytes) (take_more_set images i image lt) ∙ flat_map-append slot_bytes (take i images) (image ∷ []))

pub fits-set : (images : List Image) (i : ℕ) (image : Image) → i < length images → AllByRecursion IsImage (take i images) → IsImage image
    → AllByRecursion IsImage (take (i + 1) (slice_set images i image))
fits-set images i image lt h p = subst (AllByRecursion IsImage) (sym (take_more_set images i image lt)) (all-append IsImage (take i images) image h p)

-- where bytes are the slots of images, each part of them is a slot
pub slot-of_bytes : (bytes : List ℕ) (images : List Image) (i n : ℕ) → i < length images → n ≡ 32 → AllByRecursion IsImage images → bytes ≡ flat_map slot_bytes images
    → (take n (drop (32 * i) bytes) ≡ slot_bytes (get_or images i None)) × IsImage (get_or images i None)
slot-of_bytes bytes images i n lt size h is =
    let (at, fits) = slot-at images i lt h in
    (ap (λ k. take k (drop (32 * i) bytes)) size ∙ ap (λ xs. take 32 (drop (32 * i) xs)) is ∙ at, fits)

-- all slots written or read
pub flat-whole : (images : List Image) (i : ℕ) (bytes : List ℕ) → length images ≤ i → length bytes ≤ 32 * i → take (32 * i) bytes ≡ flat_map slot_bytes (take i images)
    → bytes ≡ flat_map slot_bytes images
flat-whole images i bytes all-images all-bytes is =
    sym (take_all (32 * i) bytes all-bytes) ∙ is ∙ ap (flat_map slot_bytes) (take_all i images all-images)

pub fits-whole : (images : List Image) (i : ℕ) → length images ≤ i → AllByRecursion IsImage (take i images) → AllByRecursion IsImage images
fits-whole images i all h = subst (AllByRecursion IsImage) (take_all i images all) h
