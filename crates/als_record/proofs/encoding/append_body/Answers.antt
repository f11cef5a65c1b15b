use Rattle.std.proofs.Common.{◌∙◌, ap, sym, append_assoc, List, ℕ, [], ◌∷◌, ◌++◌}
use Rattle.std.specs.Int.{w32, w64, to_be_bytes}
use Rattle.als_record.specs.declared.record.Body.{Body}
use Rattle.als_record.specs.Spelling.{body_bytes, image_bytes}
use Rattle.als_record.proofs.encoding.append_body.Goals as goal

pub returns-in-Compensation : goal.returns-in-Compensation
unfolding body_bytes
returns-in-Compensation c =
    let a = c.in-Compensation in
    let old = c.args.out.now.items in
    let front = c.compensation_front.result in
    let value = c.value_bytes-in-Compensation.result.now in
    let front_of : ℕ → List ℕ = λ byte. (to_be_bytes w64 a.undo_next.0 ++ to_be_bytes w32 a.key.page) ++ (a.key.slot ∷ byte ∷ []) in
    c.append-in-Compensation-2.ensures.items
    ∙ ap (λ (xs : List ℕ). xs ++ value) c.append-in-Compensation.ensures.items
    ∙ append_assoc old front value
    ∙ ap (λ (xs : List ℕ). old ++ (front ++ xs)) c.value_bytes-in-Compensation.ensures.bytes
    ∙ ap (λ (xs : List ℕ). old ++ (xs ++ image_bytes a.after)) c.compensation_front.ensures
    ∙ ap (λ (byte : ℕ). old ++ (front_of byte ++ image_bytes a.after)) c.length_of-in-Compensation.ensures
    ∙ ap (λ (b : Body). old ++ body_bytes b) (sym a.is)
