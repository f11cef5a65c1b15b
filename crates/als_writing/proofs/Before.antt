-- What a key has behind the updates of other keys.
use Rattle.std.proofs.Common.{◌≡◌, ℕ, false, List, [], ◌∷◌, ◌++◌, map, ap, ◌∙◌}
use Rattle.std.specs.List.{list_any}
use Rattle.std.proofs.lemmas.Bool.{or_parts, cond-false}
use Rattle.als_record.specs.declared.key.Key.{Key}
use Rattle.als_record.specs.declared.record.Record.{Record}
use Rattle.als_record.specs.Images.{same_key, image_now}
use Rattle.als_record.specs.Commits.{Write}
use Rattle.als_record.proofs.Images.{image_now-push}
use Rattle.als_writing.specs.Writing.{Writes, record_for, moved}
use Rattle.als_writing.proofs.Moved.{moved-next, moved-none}

-- what none of the writes sets stays
pub image_now-moved : (t : ℕ) (k : Key) (ws : List Write) (log : List Record) → list_any (λ w. same_key w.key k) ws ≡ false → image_now (log ++ moved log t (map Writes ws)) k ≡ image_now log k
image_now-moved t k [] log e = ap (λ (l : List Record). image_now l k) (moved-none log t)
image_now-moved t k (w ∷ ws) log e =
    let parts = or_parts (same_key w.key k) (list_any (λ (v : Write). same_key v.key k) ws) e in
    let r : Record = record_for log t (Writes w) in
    ap (λ (l : List Record). image_now l k) (moved-next log t (Writes w) (map Writes ws))
    ∙ image_now-moved t k ws (log ++ r ∷ []) parts.1
    ∙ image_now-push log r k
    ∙ cond-false (same_key w.key k) w.after (image_now log k) parts.0
