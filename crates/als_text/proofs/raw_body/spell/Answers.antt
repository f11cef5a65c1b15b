use Rattle.std.proofs.Common.{◌∙◌, ap, sym, append_assoc, List, ℕ, [], ◌∷◌, ◌++◌}
use Rattle.std.specs.Int.{w32, w64, to_be_bytes}
use Rattle.als_record.specs.Spelling.{body_bytes, image_bytes}
use Rattle.als_text.specs.RawRecord.{body_of}
use Rattle.als_text.specs.declared.raw_body.RawBody.{RawBody}
use Rattle.als_text.proofs.raw_body.spell.Goals as goal

pub returns-in_ok-extend_from_slice-in-Compensation-2 :
    goal.returns-in_ok-extend_from_slice-in-Compensation-2
unfolding body_bytes
returns-in_ok-extend_from_slice-in-Compensation-2 c =
    let a = c.in-Compensation in
    let old = c.args.text.now.items in
    let front = c.compensation_front.result in
    let value = c.image_bytes-in-Compensation.result.now in
    let front_of : ℕ → List ℕ = λ byte. (to_be_bytes w64 a.undo_next ++ to_be_bytes w32 a.page) ++ (a.slot ∷ byte ∷ []) in
    c.in_ok-extend_from_slice-in-Compensation-2.ensures.items
    ∙ ap (λ (xs : List ℕ). xs ++ value) c.in_ok-extend_from_slice-in-Compensation.ensures.items
    ∙ append_assoc old front value
    ∙ ap (λ (xs : List ℕ). old ++ (front ++ xs)) c.image_bytes-in-Compensation.ensures.bytes
    ∙ ap (λ (xs : List ℕ). old ++ (xs ++ image_bytes a.after)) c.compensation_front.ensures
    ∙ ap (λ (byte : ℕ). old ++ (front_of byte ++ image_bytes a.after)) c.length_byte-in-Compensation.ensures
    ∙ ap (λ (b : RawBody). old ++ body_bytes (body_of b)) (sym a.is)
