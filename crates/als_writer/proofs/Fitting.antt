-- Bytes that fit.
use Rattle.std.proofs.Common.{◌≡◌, ℕ, suc, ◌<◌, ◌≤◌, List, [], ◌∷◌, get_or, Some, subst, sym, arith, length}
use Rattle.std.specs.Prelude.{All}
use Rattle.std.specs.List.{AllByRecursion}
use Rattle.als_record.specs.Spelling.{Image, IsImage}
use Rattle.als_record.specs.Commits.{Write}

pub bytes_fit : (bytes : List ℕ) → ((k : ℕ) → get_or bytes k 0 < 256) → AllByRecursion (λ b. b < 256) bytes
bytes_fit [] fits = tt
bytes_fit (b ∷ bytes) fits = (fits 0, bytes_fit bytes (λ k. fits (suc k)))

pub image_fits : (image : Image) (bytes : List ℕ) → image ≡ Some (record { items = bytes }) → length bytes ≤ 31 → AllByRecursion (λ b. b < 256) bytes → IsImage image
image_fits image bytes e len fits = subst IsImage (sym e) (record { size = len; bytes = fits })

-- what holds at each place holds of all
pub all_writes : (P : Write → Type 0) (ws : List Write) → All P ws → AllByRecursion P ws
all_writes P [] all = tt
all_writes P (w ∷ ws) all = (all 0 w (omega arith), all_writes P ws (λ k d lt. all (suc k) d (omega arith)))
