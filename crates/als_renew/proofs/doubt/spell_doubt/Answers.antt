use Rattle.std.proofs.Common.{◌≡◌, ℕ, ◌++◌, true, List, map, sym, ap, ◌∙◌, refl, subst, arith}
use Rattle.std.specs.List.{AllByRecursion}
use Rattle.als_record.specs.declared.record.Record.{Record as AnyRecord}
use Rattle.als_record.specs.Spelling.{IsKey, spelling}
use Rattle.als_record.specs.Commits.{Write as AnyWrite}
use Rattle.als_lookback.specs.Doubts.{Doubt}
use Rattle.als_lookback.specs.Seen.{Seen}
use Rattle.als_writing.specs.declared.place.Place.{Place as AnyPlace}
use Rattle.als_writing.specs.Writing.{Writes, Prepares, record_for, moved, is_new}
use Rattle.als_writing.specs.Placing.{SoFar}
use Rattle.als_renew.specs.Carried.{HasNow}
use Rattle.als_renew.proofs.Doubting.{doubt-spelled}
use Rattle.als_renew.proofs.doubt.spell_doubt.Goals as goal

pub returns-clause-piece : goal.returns-clause-piece
returns-clause-piece c pages log valid ends new keys h =
    let d : Doubt = c.args.doubt.now in
    let t : ℕ = d.trans in
    let u : ℕ = c.first-place.result.trans.0 in
    let first : u ≡ t = ap (λ x. x.0) c.first-place.ensures.trans ∙ c.trans.ensures in
    let place = c.first-place.ensures.place log valid ends (subst (λ (n : ℕ). is_new log n ≡ true) (sym c.trans.ensures) new) in
    let ws : List AnyWrite = c.writes.result.now in
    let same_ws : ws ≡ d.writes = c.writes.ensures in
    let mine : AllByRecursion (λ (w : AnyWrite). IsKey pages w.key) ws = subst (AllByRecursion (λ (w : AnyWrite). IsKey pages w.key)) (sym same_ws) keys in
    let piece : List ℕ = c.spell_writes.new.piece.items in
    let behind : AnyPlace = c.spell_writes.new.place in
    let now : Seen = c.spell_writes.new.now in
    let s : SoFar log t (map Writes d.writes) piece behind × HasNow now pages (log ++ moved log t (map Writes d.writes)) =
    subst (λ (n : ℕ). SoFar log n (map Writes d.writes) piece behind × HasNow now pages (log ++ moved log n (map Writes d.writes))) first
    (subst (λ (xs : List AnyWrite). SoFar log u (map Writes xs) piece behind × HasNow now pages (log ++ moved log u (map Writes xs))) same_ws
    (c.in_ok-spell_writes.ensures.spelled pages log place mine h)) in
    let l : List AnyRecord = log ++ moved log t (map Writes d.writes) in
    let same : behind.trans.0 ≡ t = ap (λ x. x.0) c.in_ok-spell_writes.ensures.trans ∙ first in
    doubt-spelled pages log d piece c.spell.new.piece.items behind c.spell.new.self.end.0 now s
    (c.in_ok-spell.ensures.spelled l Prepares s.0.behind refl ∙ ap (λ (x : ℕ). piece ++ spelling (record_for l x Prepares)) same)
    (omega (arith, c.in_ok-spell.ensures.end))
