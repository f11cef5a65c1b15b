use Rattle.std.proofs.Common.{◌≡◌, ℕ, ◌+◌, List, [], ◌∷◌, ◌++◌, refl, sym, ap, ◌∙◌, arith}
use Rattle.als_record.specs.declared.record.Record.{Record as AnyRecord}
use Rattle.als_record.specs.LogText.{spellings, end_of}
use Rattle.als_writing.specs.Writing.{Move, Commits, Ends, moved, transaction}
use Rattle.als_writing.specs.Placing.{SoFar}
use Rattle.als_writing.proofs.Spelt.{SoFar-none, committed, ended, end_len, end_of-more, whole-transaction}
use Rattle.als_renew.proofs.number.spell_number.Goals as goal

pub returns-clause-piece : goal.returns-clause-piece
returns-clause-piece c log valid ends is =
    let t : ℕ = c.args.trans.0 in
    let first : c.first-place.result.trans.0 ≡ t = ap (λ x. x.0) c.first-place.ensures.trans in
    let place = c.first-place.ensures.place log valid ends is in
    let h : SoFar log t [] c.in_ok-piece.piece.items c.first-place.result = SoFar-none log t c.in_ok-piece.piece.items c.first-place.result c.in_ok-piece.ensures.items place in
    let n : SoFar log t (Commits ∷ []) c.spell.new.piece.items c.spell.new.self =
    committed log t [] c.in_ok-piece.piece.items c.spell.new.piece.items c.first-place.result c.spell.new.self first h
    (c.in_ok-spell.ensures.spelled (log ++ moved log t []) Commits h.behind refl)
    (c.in_ok-spell.ensures.goes_on (log ++ moved log t []) Commits h.behind refl refl refl) in
    let same_next : c.spell.new.self.trans.0 ≡ t = ap (λ x. x.0) c.in_ok-spell.ensures.trans ∙ first in
    let m : List AnyRecord = log ++ moved log t (Commits ∷ []) in
    let last : c.spell-2.new.self.end.0 ≡ c.spell.new.self.end.0 + 28 = omega (arith, c.in_ok-spell-2.ensures.end) in
    record {
      spelled =
          ended log t (Commits ∷ []) c.spell.new.piece.items c.spell-2.new.piece.items c.spell.new.self same_next n
          (c.in_ok-spell-2.ensures.spelled m Ends n.behind refl)
          ∙ ap spellings (whole-transaction log t []);
      ends =
          last
          ∙ ap (λ (x : ℕ). x + 28) n.behind.end
          ∙ ap (λ (x : ℕ). end_of m + x) (sym (end_len m t))
          ∙ sym (end_of-more log t (Commits ∷ []) Ends)
          ∙ ap (λ (more : List AnyRecord). end_of (log ++ more)) (whole-transaction log t []);
    }
