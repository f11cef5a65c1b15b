-- Bytes that fit.
use Rattle.std.proofs.Common.{◌≡◌, ℕ, suc, ◌<◌, ◌≤◌, List, [], ◌∷◌, get_or, Some, subst, sym, arith, length}
use Rattle.std.specs.List.{AllByRecursion}
use Rattle.als_record.specs.Spelling.{Image, IsImage}

pub bytes_fit : (bytes : List ℕ) → ((k : ℕ) → get_or bytes k 0 < 256) → AllByRecursion (λ b. b < 256) bytes
bytes_fit [] fits = tt
bytes_fit (b ∷ bytes) fits = (fits 0, bytes_fit bytes (λ k. fits (suc k)))

pub image_fits : (image : Image) (bytes : List ℕ) → image ≡ Some (record { items = bytes }) → length bytes ≤ 31 → AllByRecursion (λ b. b < 256) bytes → IsImage image
image_fits image bytes e len fits = subst IsImage (sym e) (record { size = len; bytes = fits })
