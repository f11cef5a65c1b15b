use Rattle.std.proofs.Common.{◌≡◌, ℕ, ◌+◌, ◌<◌, List, [], ◌∷◌, ◌++◌, length, map, refl, sym, ap, ◌∙◌, subst, arith}
use Rattle.als_record.specs.declared.record.Record.{Record as AnyRecord}
use Rattle.als_record.specs.Spelling.{record_len}
use Rattle.als_record.specs.LogText.{spellings, end_of}
use Rattle.als_record.specs.Commits.{Write}
use Rattle.als_record.proofs.LogLaws.{spellings-nil}
use Rattle.als_writing.specs.Writing.{Move, Writes, Commits, Ends, moved}
use Rattle.als_writing.specs.Placing.{SoFar}
use Rattle.als_renew.specs.Pages.{page_writes, value_in}
use Rattle.als_writing.proofs.Spelt.{committed, ended, end_len, end_of-more, whole-transaction}
use Rattle.als_renew.proofs.Spelt.{page-none, page-some, nothing-written, moved-nothing}
use Rattle.als_renew.proofs.page.spell_page.Goals as goal

pub returns-then-count-eq0-clause-piece : goal.returns-then-count-eq0-clause-piece
returns-then-count-eq0-clause-piece c held log is un =
    let page = c.args.page in
    let ws : List Write = page_writes (value_in held) page 15 in
    let none : ws ≡ [] = nothing-written ws (sym (c.in_ok-count.ensures.count held is) ∙ c.if-count-eq0.true) in
    let new = ap (λ x. x.0) c.first-place.ensures.trans in
    let place = c.first-place.ensures.place log un.valid un.ends un.new in
    let h = c.in_ok-count.ensures.spelled held log is place un.nothing in
    page-none (value_in held) page log c.spell_values.new.piece.items c.args.end.0 none
    (h.spelled ∙ ap (λ (vs : List Write). spellings (moved log c.first-place.result.trans.0 (map Writes vs))) none ∙ ap spellings (moved-nothing log c.first-place.result.trans.0) ∙ spellings-nil)
    un.ends

pub returns-clause-piece : goal.returns-clause-piece
returns-clause-piece c held log is un =
    let page = c.args.page in
    let t : ℕ = page + 1 in
    let ws : List Write = page_writes (value_in held) page 15 in
    let done : List Move = map Writes ws in
    let first : c.first-place.result.trans.0 ≡ t = ap (λ x. x.0) c.first-place.ensures.trans in
    let place = c.first-place.ensures.place log un.valid un.ends un.new in
    let h : SoFar log t done c.spell_values.new.piece.items c.spell_values.new.place =
    subst (λ (x : ℕ). SoFar log x done c.spell_values.new.piece.items c.spell_values.new.place) first (c.in_ok-count.ensures.spelled held log is place un.nothing) in
    let same : c.spell_values.new.place.trans.0 ≡ t = ap (λ x. x.0) c.in_ok-count.ensures.trans ∙ first in
    let n : SoFar log t (done ++ Commits ∷ []) c.spell.new.piece.items c.spell.new.self =
    committed log t done c.spell_values.new.piece.items c.spell.new.piece.items c.spell_values.new.place c.spell.new.self same h
    (c.in_ok-spell.ensures.spelled (log ++ moved log t done) Commits h.behind refl)
    (c.in_ok-spell.ensures.goes_on (log ++ moved log t done) Commits h.behind refl refl refl) in
    let same_next : c.spell.new.self.trans.0 ≡ t = ap (λ x. x.0) c.in_ok-spell.ensures.trans ∙ same in
    let m : List AnyRecord = log ++ moved log t (done ++ Commits ∷ []) in
    let last : c.spell-2.new.self.end.0 ≡ c.spell.new.self.end.0 + 28 = omega (arith, c.in_ok-spell-2.ensures.end) in
    let some : 0 < length ws = omega (arith, c.in_ok-count.ensures.count held is, c.if-count-eq0.false) in
    page-some (value_in held) page log c.spell-2.new.piece.items c.spell-2.new.self.end.0 some
    (ended log t (done ++ Commits ∷ []) c.spell.new.piece.items c.spell-2.new.piece.items c.spell.new.self same_next n
    (c.in_ok-spell-2.ensures.spelled m Ends n.behind refl)
    ∙ ap spellings (whole-transaction log t ws))
    (last
    ∙ ap (λ (x : ℕ). x + 28) n.behind.end
    ∙ ap (λ (x : ℕ). end_of m + x) (sym (end_len m t))
    ∙ sym (end_of-more log t (done ++ Commits ∷ []) Ends)
    ∙ ap (λ (more : List AnyRecord). end_of (log ++ more)) (whole-transaction log t ws))
