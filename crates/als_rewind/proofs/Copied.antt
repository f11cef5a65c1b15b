-- What was read and written so far.
use Rattle.std.proofs.Common.{◌≡◌, ℕ, ◌+◌, List, [], ◌++◌, Option, None, Some, length, take, refl, sym, ◌∙◌, ap, subst, arith, append-nil, length-append}
use Rattle.std.specs.Io.KnownBytes.{Appends, Consumes, Keeps, IsAtEnd}
use Rattle.std.proofs.KnownBytes.{Appends-nil, Appends-trans, Consumes-nil, Consumes-trans}

-- these bytes were read and written
pub record Copied (from to old new : Option (List ℕ)) (count : ℕ) : Type 0 where
  pub bytes : List ℕ
  pub counted : length bytes ≡ count
  pub read : Consumes from to bytes
  pub written : Appends old new bytes

pub copied_none : (from old : Option (List ℕ)) → Copied from from old old 0
copied_none from old = record { bytes = []; counted = refl; read = Consumes-nil from; written = Appends-nil old }

pub copied_more : (from mid to old between new : Option (List ℕ)) (count n : ℕ) (more : List ℕ) → Copied from mid old between count → length more ≡ n → Consumes mid to more → Appends between new more → Copied from to old new (count + n)
copied_more from mid to old between new count n more c len read written = record {
  bytes = c.bytes ++ more;
  counted = omega (arith, length-append c.bytes more, c.counted, len);
  read = Consumes-trans from mid to c.bytes more c.read read;
  written = Appends-trans old between new c.bytes more c.written written;
}

-- what is read behind an attempt that read nothing
pub keeps_consumes : (a b c : Option (List ℕ)) (bs : List ℕ) → Keeps a b → Consumes b c bs → Consumes a c bs
keeps_consumes None b c bs p q = tt
keeps_consumes (Some x) None c bs p q = absurd p
keeps_consumes (Some x) (Some y) None bs p q = absurd q
keeps_consumes (Some x) (Some y) (Some z) bs p q = sym p ∙ q

-- a last piece of no byte
pub copied_last : (from mid to old now : Option (List ℕ)) (count n : ℕ) (piece : List ℕ) → Copied from mid old now count → n ≡ 0 → Consumes mid to (take n piece) → IsAtEnd to
    → (bytes : List ℕ) × (length bytes ≡ count) × Consumes from to bytes × IsAtEnd to × Appends old now bytes
copied_last from mid to old now count n piece c none read end =
    let empty : take n piece ≡ [] = ap (λ (k : ℕ). take k piece) none in
    let rest : Consumes from to (c.bytes ++ []) = Consumes-trans from mid to c.bytes [] c.read (subst (Consumes mid to) empty read) in
    (c.bytes, c.counted, subst (Consumes from to) (append-nil c.bytes) rest, end, c.written)
