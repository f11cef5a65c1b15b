-- What was printed before a line.
use Rattle.std.proofs.Common.{◌≡◌, ℕ, List, Option, subst}
use Rattle.std.specs.Io.KnownBytes.{Appends}
use Rattle.als_shipper.specs.Lines.{sent_line}

-- nothing was printed before the line
pub told_line : (printed so_far after : Option (List ℕ)) → so_far ≡ printed → ((n : ℕ) × Appends so_far after (sent_line n)) → (n : ℕ) × Appends printed after (sent_line n)
told_line printed so_far after quiet line = subst (λ (o : Option (List ℕ)). (n : ℕ) × Appends o after (sent_line n)) quiet line
