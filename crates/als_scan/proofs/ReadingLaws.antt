-- A judge that takes the bytes of a text.
use Rattle.std.proofs.Common.{◌≡◌, ℕ, ◌+◌, ◌-◌, ◌%◌, ◌/◌, ◌≤◌, List, ◌++◌, length, take, drop, sym, ap, subst, ◌∙◌, append_assoc, length-append, take-append-drop, arith}
use Rattle.std.specs.Prelude.{Contains}
use Rattle.std.proofs.lemmas.List.{drop_at}
use Rattle.als_record.specs.declared.record.Record.{Record}
use Rattle.als_record.specs.LogText.{header_bytes, spellings, log_text, end_of}
use Rattle.als_record.proofs.HeaderLaws.{length-header_bytes}
use Rattle.als_record.proofs.LogLaws.{end_of_is}
use Rattle.als_disk.specs.Slot.{Slot}
use Rattle.als_scan.specs.Judged.{Judged, Reads, position_of}
use Rattle.als_scan.specs.Texts.{StandsBelow}
use Rattle.als_scan.proofs.TextLaws.{piece_is}

pub length-text : (pages : ℕ) (log : List Record) → length (log_text pages log) ≡ end_of log
length-text pages log = omega (arith, length-append (header_bytes pages) (spellings log), length-header_bytes pages, end_of_is log)

-- behind the bytes that have come are the others
pub drop_position : (text : List ℕ) (j : Judged) (r : Reads text j) → drop (position_of j) text ≡ r.rest
drop_position text j r =
    let len : length (log_text j.pages j.log ++ j.kept) ≡ position_of j = omega (arith, length-append (log_text j.pages j.log) j.kept, length-text j.pages j.log) in
    ap (drop (position_of j)) (r.parts ∙ sym (append_assoc (log_text j.pages j.log) j.kept r.rest)) ∙ drop_at (log_text j.pages j.log ++ j.kept) r.rest (position_of j) len

-- behind the records judged are the bytes that have come, and the others
pub drop_end : (text : List ℕ) (j : Judged) (r : Reads text j) → drop (end_of j.log) text ≡ j.kept ++ r.rest
drop_end text j r = ap (drop (end_of j.log)) r.parts ∙ drop_at (log_text j.pages j.log) (j.kept ++ r.rest) (end_of j.log) (length-text j.pages j.log)

-- so many are left
pub length-rest : (text : List ℕ) (j : Judged) (r : Reads text j) → length text ≡ position_of j + length r.rest
length-rest text j r = omega (arith, ap length r.parts, length-append (log_text j.pages j.log) (j.kept ++ r.rest), length-append j.kept r.rest, length-text j.pages j.log)

-- bytes that come are the next ones of the text
pub reads_more : (slots : ℕ → Slot) (text : List ℕ) (mark at size : ℕ) (block : List ℕ) (old new : Judged) → at ≡ position_of old → StandsBelow slots text mark → Contains (slots (at / 512)).readable block → length block ≡ 512
    → at % 512 + size ≤ 512 → at + size ≤ mark → new ≡ record old { kept = old.kept ++ take (at % 512 + size - at % 512) (drop (at % 512) block) } → Reads text old → Reads text new
reads_more slots text mark at size block old new there stands has whole inside within e r =
    let piece : take (at % 512 + size - at % 512) (drop (at % 512) block) ≡ take size r.rest
    = piece_is slots text mark at size block stands has whole inside within ∙ ap (λ n. take size (drop n text)) there ∙ ap (take size) (drop_position text old r) in
    let longer : new ≡ record old { kept = old.kept ++ take size r.rest } = e ∙ ap (λ (xs : List ℕ). record old { kept = old.kept ++ xs }) piece in
    let parts : text ≡ log_text old.pages old.log ++ ((old.kept ++ take size r.rest) ++ drop size r.rest)
    = r.parts ∙ ap (λ (xs : List ℕ). log_text old.pages old.log ++ xs) (ap (λ (xs : List ℕ). old.kept ++ xs) (sym (take-append-drop size r.rest)) ∙ sym (append_assoc old.kept (take size r.rest) (drop size r.rest))) in
    subst (Reads text) (sym longer) (record { rest = drop size r.rest; parts = parts })
