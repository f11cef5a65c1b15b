-- Why no frame was read, in parts.
use Rattle.std.proofs.Common.{◌≡◌, ◌≢◌, ℕ, List, [], ◌∷◌, ◌++◌, length, get_or, ◌<◌, ◌^◌, Option, refl, sym, ap, subst, inl, inr, arith}
use Rattle.std.specs.Io.KnownBytes.{Consumes}
use Rattle.std.specs.Int.{w32, w64, to_be_bytes}
use Rattle.std.proofs.KnownBytes.{Consumes-trans}
use Rattle.als_wire.specs.declared.tag.Tag.{Tag}
use Rattle.als_wire.specs.declared.tag.Tag.TheVariants as tag
use Rattle.als_wire.specs.declared.fault.Fault.{Fault}
use Rattle.als_wire.specs.declared.fault.Fault.TheVariants.{BadHeader, BadFrame}
use Rattle.als_wire.specs.Faults.{IsOfStream}
use Rattle.als_wire.specs.Frames.{byte_of, head_bytes, history_bytes, resume_head, resume_front, IsHead}
use Rattle.als_wire.specs.Reading.{FailsToRead, FailsToFill, FailsToRecall, IsFrontOf, IsHeader, IsNoHeader}
use Rattle.als_record.specs.declared.header.LogHeader.{LogHeader}

pub fails_of_stream : (wanted : Tag) (f : Fault) (old new : Option (List ℕ)) → IsOfStream f → FailsToRead wanted f old new
fails_of_stream wanted f old new (inl e) = subst (λ (x : Fault). FailsToRead wanted x old new) (sym e) tt
fails_of_stream wanted f old new (inr e) = subst (λ (x : Fault). FailsToRead wanted x old new) (sym e) tt

one_byte : (bytes : List ℕ) (n : ℕ) → length bytes ≡ 1 → get_or bytes 0 0 ≡ n → bytes ≡ n ∷ []
one_byte [] n len is = absurd (omega (arith, len))
one_byte (b ∷ []) n len is = ap (λ (x : ℕ). x ∷ []) is
one_byte (b ∷ c ∷ rest) n len is = absurd (omega (arith, len))

-- the byte that was read is that of the tag
pub tag_read : (wanted : Tag) (bytes : List ℕ) (old new : Option (List ℕ)) → length bytes ≡ 1 → get_or bytes 0 0 ≡ byte_of wanted → Consumes old new bytes → Consumes old new (byte_of wanted ∷ [])
tag_read wanted bytes old new len is read = subst (Consumes old new) (one_byte bytes (byte_of wanted) len is) read

-- it is another one
pub tag_missed : (wanted : Tag) (bytes : List ℕ) (old new : Option (List ℕ)) → length bytes ≡ 1 → get_or bytes 0 0 ≢ byte_of wanted → Consumes old new bytes → FailsToRead wanted BadFrame old new
tag_missed wanted bytes old new len other read = (bytes, inl (get_or bytes 0 0, other, one_byte bytes (get_or bytes 0 0) len refl), read)

-- ---- Data frames

pub two_read : (a b c : Option (List ℕ)) (xs ys : List ℕ) → Consumes a b xs → Consumes b c ys → Consumes a c (xs ++ ys)
two_read a b c xs ys first second = Consumes-trans a b c xs ys first second

three_read : (a b c d : Option (List ℕ)) (xs ys zs : List ℕ) → Consumes a b xs → Consumes b c ys → Consumes c d zs → Consumes a d ((xs ++ ys) ++ zs)
three_read a b c d xs ys zs first second third = two_read a c d (xs ++ ys) zs (two_read a b c xs ys first second) third

pub head_read : (a b c d e : Option (List ℕ)) (epoch offset len : ℕ) → Consumes a b (70 ∷ []) → Consumes b c (to_be_bytes w32 epoch) → Consumes c d (to_be_bytes w64 offset)
    → Consumes d e (to_be_bytes w32 len) → Consumes a e (head_bytes epoch offset len)
unfolding head_bytes
head_read a b c d e epoch offset len first second third fourth =
    two_read a d e (((70 ∷ []) ++ to_be_bytes w32 epoch) ++ to_be_bytes w64 offset) (to_be_bytes w32 len)
    (three_read a b c d (70 ∷ []) (to_be_bytes w32 epoch) (to_be_bytes w64 offset) first second third) fourth

-- the front of a frame that may not come
pub head_refused : (a b c d e : Option (List ℕ)) (epoch offset len : ℕ) → epoch < 2 ^ 32 → offset < 2 ^ 64 → len < 2 ^ 32 → (IsHead epoch offset len → ⊥)
    → Consumes a b (70 ∷ []) → Consumes b c (to_be_bytes w32 epoch) → Consumes c d (to_be_bytes w64 offset) → Consumes d e (to_be_bytes w32 len) → FailsToRead tag.Data BadFrame a e
head_refused a b c d e epoch offset len low small short none first second third fourth = (
  head_bytes epoch offset len,
  inr (inl (record { for_data = refl; epoch = epoch; offset = offset; len = len; epoch_fits = low; offset_fits = small; len_fits = short; none = none; spelled = refl })),
  head_read a b c d e epoch offset len first second third fourth,
)

-- its bytes did not come, or there was no memory for them
pub data_failed : (a b c : Option (List ℕ)) (epoch offset len : ℕ) (f : Fault) → IsHead epoch offset len → Consumes a b (head_bytes epoch offset len) → FailsToFill f b c → FailsToRead tag.Data f a c
data_failed a b c epoch offset len f head read (inl stream) = fails_of_stream tag.Data f a c stream
data_failed a b c epoch offset len f head read (inr (e, more, rest)) =
    subst (λ (x : Fault). FailsToRead tag.Data x a c) (sym e)
    (head_bytes epoch offset len ++ more, record { for_data = refl; epoch = epoch; offset = offset; len = len; more = more; head = head; spelled = refl }, two_read a b c (head_bytes epoch offset len) more read rest)

-- ---- Resume frames

pub resume_read : (a b c d : Option (List ℕ)) (from : ℕ) (header : List ℕ) → Consumes a b (81 ∷ []) → Consumes b c (to_be_bytes w64 from) → Consumes c d header → Consumes a d (resume_head from ++ header)
resume_read a b c d from header first second third = three_read a b c d (81 ∷ []) (to_be_bytes w64 from) header first second third

pub resume_refused : (a b c d : Option (List ℕ)) (from : ℕ) (header : List ℕ) (f : Fault) → length header ≡ 16 → (f ≡ BadHeader) × IsNoHeader header → Consumes a b (81 ∷ []) → Consumes b c (to_be_bytes w64 from) → Consumes c d header → FailsToRead tag.Resume f a d
resume_refused a b c d from header f len damaged first second third =
    subst (λ (x : Fault). FailsToRead tag.Resume x a d) (sym damaged.0)
    (resume_head from ++ header, record { for_resume = refl; from = from; header = header; len = len; damaged = damaged.1; spelled = refl }, resume_read a b c d from header first second third)

-- ---- histories

-- what stands behind the front of a frame begins no history
front_failed : (wanted : Tag) (front : List ℕ) (a b c : Option (List ℕ)) (f : Fault) → IsFrontOf wanted front → Consumes a b front → FailsToRecall f b c → FailsToRead wanted f a c
front_failed wanted front a b c f stands read (inl stream) = fails_of_stream wanted f a c stream
front_failed wanted front a b c f stands read (inr (e, part, refused, rest)) =
    subst (λ (x : Fault). FailsToRead wanted x a c) (sym e)
    (front ++ part, inr (inr (record { front = front; part = part; stands = stands; refused = refused; spelled = refl })), two_read a b c front part read rest)

pub resume_failed : (a b c : Option (List ℕ)) (from : ℕ) (header : LogHeader) (f : Fault) → from < 2 ^ 64 → IsHeader header → Consumes a b (resume_front from header.pages) → FailsToRecall f b c
    → FailsToRead tag.Resume f a c
resume_failed a b c from header f fits is read failed =
    front_failed tag.Resume (resume_front from header.pages) a b c f (from, header.pages, fits, is.1, refl) read failed

pub epochs_read : (a b c : Option (List ℕ)) (seals : List ℕ) → Consumes a b (69 ∷ []) → Consumes b c (history_bytes seals) → Consumes a c (69 ∷ history_bytes seals)
epochs_read a b c seals first second = two_read a b c (69 ∷ []) (history_bytes seals) first second

pub epochs_failed : (a b c : Option (List ℕ)) (f : Fault) → Consumes a b (69 ∷ []) → FailsToRecall f b c → FailsToRead tag.Epochs f a c
epochs_failed a b c f read failed = front_failed tag.Epochs (69 ∷ []) a b c f refl read failed
