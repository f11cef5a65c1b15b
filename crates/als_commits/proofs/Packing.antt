-- Heads and values, with one more write behind the others.
use Rattle.std.proofs.Common.{◌≡◌, ℕ, ◌+◌, ◌-◌, ◌<◌, ◌≤◌, ◌==◌, suc, List, [], ◌∷◌, ◌++◌, length, take, drop, Some, None, if◌then◌else◌, refl, ap, sym, ◌∙◌, arith, length-append}
use Rattle.std.proofs.lemmas.List.{take-append-le, drop-append-le, take_at, append-nil, nil_from_length, length-drop}
use Rattle.als_record.specs.declared.key.Key.{Key}
use Rattle.als_record.specs.Spelling.{Image, image_bytes}
use Rattle.als_record.specs.Commits.{Write}
use Rattle.als_record.specs.KeptImages.{first_of, image_kept, image_kept-value}
use Rattle.als_commits.specs.declared.head.Head.{Head}
use Rattle.als_commits.specs.Packing.{key_in, size_in, write_at, writes_packed, sizes}

pub packed-length : (hs : List Head) (values : List ℕ) → length (writes_packed hs values) ≡ length hs
packed-length [] values = refl
packed-length (h ∷ hs) values = ap suc (packed-length hs (drop (size_in h) values))

pub sizes-append : (hs : List Head) (h : Head) → sizes (hs ++ h ∷ []) ≡ sizes hs + size_in h
sizes-append [] h = omega arith
sizes-append (g ∷ hs) h = let e : sizes (hs ++ h ∷ []) ≡ sizes hs + size_in h = sizes-append hs h in omega arith

-- what is kept of an image gives it back
pub image-again : (image : Image) → image_kept (first_of image) (image_bytes image) ≡ image
image-again None = refl
image-again (Some value) =
    let all : take (length value.items + 1 - 1) (value.items ++ []) ≡ value.items = take_at value.items [] (length value.items + 1 - 1) (omega arith) in
    let same : take (length value.items + 1 - 1) value.items ≡ value.items = ap (λ xs. take (length value.items + 1 - 1) xs) (sym (append-nil value.items)) ∙ all in
    image_kept-value (length value.items + 1) value.items (omega arith) ∙ ap (λ (xs : List ℕ). Some (record { items = xs })) same

-- a write behind others
pub packed-append : (hs : List Head) (values more : List ℕ) (h : Head) → sizes hs ≡ length values
    → writes_packed (hs ++ h ∷ []) (values ++ more) ≡ writes_packed hs values ++ write_at h more ∷ []
packed-append [] values more h e =
    let none : values ≡ [] = nil_from_length values (sym e) in
    ap (λ (v : List ℕ). write_at h (v ++ more) ∷ []) none
packed-append (g ∷ hs) values more h e =
    let few : size_in g ≤ length values = omega arith in
    let front : take (size_in g) (values ++ more) ≡ take (size_in g) values = take-append-le (size_in g) values more few in
    let rest : drop (size_in g) (values ++ more) ≡ drop (size_in g) values ++ more = drop-append-le (size_in g) values more few in
    let left : length (drop (size_in g) values) ≡ length values - size_in g = length-drop (size_in g) values in
    let one : write_at g (values ++ more) ≡ write_at g values = ap (λ (xs : List ℕ). record { key = key_in g; after = if g.first == 0 then None else Some (record { items = xs }) }) front in
    ap (λ (w : Write). w ∷ writes_packed (hs ++ h ∷ []) (drop (size_in g) (values ++ more))) one
    ∙ (ap (λ (vs : List ℕ). write_at g values ∷ writes_packed (hs ++ h ∷ []) vs) rest
    ∙ ap (λ (ws : List Write). write_at g values ∷ ws) (packed-append hs (drop (size_in g) values) more h (omega arith)))

-- how long a value is, out of the first byte of what is kept of its image
pub first-size : (image : Image) → first_of image - 1 ≡ length (image_bytes image)
first-size None = refl
first-size (Some value) = omega arith

-- heads and values with one more write fit each other again
pub added-sizes : (heads hs : List Head) (all values value : List ℕ) (h : Head) (image : Image) → heads ≡ hs ++ h ∷ [] → all ≡ values ++ value
    → h.first ≡ first_of image → value ≡ image_bytes image → sizes hs ≡ length values → sizes heads ≡ length all
added-sizes heads hs all values value h image eh ev first bytes e =
    let one : size_in h ≡ length value = ap (λ (n : ℕ). n - 1) first ∙ (first-size image ∙ ap (λ (xs : List ℕ). length xs) (sym bytes)) in
    let more : sizes (hs ++ h ∷ []) ≡ length (values ++ value) = omega (arith, sizes-append hs h, length-append values value) in
    ap sizes eh ∙ (more ∙ ap (λ (xs : List ℕ). length xs) (sym ev))

-- and are the writes with this one
pub added-writes : (heads hs : List Head) (all values value : List ℕ) (h : Head) (key : Key) (image : Image) → heads ≡ hs ++ h ∷ [] → all ≡ values ++ value
    → key_in h ≡ key → h.first ≡ first_of image → value ≡ image_bytes image → sizes hs ≡ length values
    → writes_packed heads all ≡ writes_packed hs values ++ record { key = key; after = image } ∷ []
added-writes heads hs all values value h key image eh ev of first bytes e =
    let write : Key → Image → Write = λ k i. record { key = k; after = i } in
    let same : write_at h value ≡ write key image = ap (λ (k : Key). write k (image_kept h.first value)) of
    ∙ (ap (λ (n : ℕ). write key (image_kept n value)) first
    ∙ (ap (λ (xs : List ℕ). write key (image_kept (first_of image) xs)) bytes
    ∙ ap (λ (i : Image). write key i) (image-again image))) in
    ap (λ (xs : List Head). writes_packed xs all) eh
    ∙ (ap (λ (xs : List ℕ). writes_packed (hs ++ h ∷ []) xs) ev
    ∙ (packed-append hs values value h e
    ∙ ap (λ (w : Write). writes_packed hs values ++ w ∷ []) same))
