-- The text of a log that stands on a device.
use Rattle.std.proofs.Common.{◌≡◌, ℕ, zero, suc, ◌+◌, ◌*◌, ◌/◌, ◌%◌, ◌<◌, List, [], length, refl, sym, ap, subst, ◌∙◌, length-append, arith}
use Rattle.std.specs.Prelude.{Contains, slice_index, slice_index_or}
use Rattle.std.proofs.lemmas.List.{ext_get_or}
use Rattle.als_record.specs.declared.record.Record.{Record}
use Rattle.als_record.specs.LogText.{header_bytes, spellings, log_text, end_of}
use Rattle.als_record.proofs.HeaderLaws.{length-header_bytes}
use Rattle.als_record.proofs.LogLaws.{end_of_is}
use Rattle.als_disk.specs.Slot.{Slot, IsSettled}
use Rattle.als_log.specs.Texts.{AllHaveText}
use Rattle.als_scan.specs.Texts.{byte_at, text_from, text_of}

pub length-text : (pages : ℕ) (log : List Record) → length (log_text pages log) ≡ end_of log
length-text pages log = omega (arith, length-append (header_bytes pages) (spellings log), length-header_bytes pages, end_of_is log)

length-text_from : (slots : ℕ → Slot) (at n : ℕ) → length (text_from slots at n) ≡ n
unfolding text_from
length-text_from slots at zero = refl
length-text_from slots at (suc n) = ap suc (length-text_from slots (suc at) n)

text_from-at : (slots : ℕ → Slot) (at n k : ℕ) → k < n → slice_index (text_from slots at n) k ≡ byte_at slots (at + k)
unfolding text_from
text_from-at slots at zero k lt = absurd (omega (arith, lt))
text_from-at slots at (suc n) zero lt = ap (byte_at slots) (let e : at ≡ at + 0 = omega arith in e)
text_from-at slots at (suc n) (suc k) lt = text_from-at slots (suc at) n k (omega (arith, lt)) ∙ ap (byte_at slots) (let e : suc at + k ≡ at + suc k = omega arith in e)

-- a byte of a settled block is that of the text that stands there
settled_byte : (slots : ℕ → Slot) (text : List ℕ) (end o : ℕ) → IsSettled (slots (o / 512)) → AllHaveText (λ b. (slots b).candidates) text end → o < end → byte_at slots o ≡ slice_index text o
unfolding byte_at
settled_byte slots text end o (content, is) stands lt =
    let column : o % 512 < 512 = omega arith in
    let place : 512 * (o / 512) + o % 512 ≡ o = omega arith in
    let has : Contains (slots (o / 512)).candidates content = subst (λ (s : Slot). Contains s.candidates content) (sym is) (0, omega arith, refl) in
    ap (λ (s : Slot). slice_index (slice_index_or s.readable 0 []) (o % 512)) is
    ∙ stands (o / 512) content has (o % 512) column (omega (arith, place, lt))
    ∙ ap (slice_index text) place

-- the bytes of a settled device are the text of which each content has its part
pub text_stands : (slots : ℕ → Slot) (text : List ℕ) (end : ℕ) → ((k : ℕ) → IsSettled (slots k)) → AllHaveText (λ b. (slots b).candidates) text end → length text ≡ end → text_of slots end ≡ text
text_stands slots text end settled stands len =
    ext_get_or 0 (text_of slots end) text (length-text_from slots 0 end ∙ sym len) (λ k lt.
    let below : k < end = omega (arith, lt, length-text_from slots 0 end) in
    text_from-at slots 0 end k below ∙ ap (byte_at slots) (let e : 0 + k ≡ k = omega arith in e) ∙ settled_byte slots text end k (settled (k / 512)) stands below)
