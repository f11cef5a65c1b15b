use Rattle.std.proofs.Common.{◌≡◌, ◌∷◌, ◌<◌, ℕ, length, get_or, true, List, Option, sym, ap, subst, arith, ◌∙◌}
use Rattle.std.proofs.lemmas.Bool.{false≢true}
use Rattle.als_record.specs.declared.lsn.Lsn.{Lsn}
use Rattle.als_record.specs.declared.record.Record.{Record}
use Rattle.als_record.specs.Transactions.{unended, is_unended}
use Rattle.als_takeover.specs.Next.{undoing}
use Rattle.als_store.specs.TailOwn.{IsBest, IsBestAt}
use Rattle.als_store.proofs.WritingLaws.{rows-counted}
use Rattle.als_store.proofs.TailOwnLaws.{row-at, open-at, nothing-first, something-first, same-update, not-nothing, best-same, best-first, best-above, best-below}
use Rattle.als_store.proofs.store.tail_own.better.Goals as goal

pub returns-in-None-clause-best : goal.returns-in-None-clause-best
returns-in-None-clause-best c pages log judged same best =
    let rows = c.args.rows.now in
    let at = c.args.at in
    let ts = unended log in
    let n : length rows ≡ length ts = rows-counted log rows same in
    let t : ℕ = get_or ts at 0 in
    let there : is_unended log t ≡ true = open-at log at (omega (arith, c.requires.within, n)) in
    best-same log ts at c.args.best best (nothing-first (undoing log t) (c.in-None.ensures pages log t judged there (row-at log rows same at _ c.requires.within)))

pub returns-in-None-best-clause-best : goal.returns-in-None-best-clause-best
returns-in-None-best-clause-best c pages log judged same best =
    let rows = c.args.rows.now in
    let at = c.args.at in
    let ts = unended log in
    let n : length rows ≡ length ts = rows-counted log rows same in
    let t : ℕ = get_or ts at 0 in
    let there : is_unended log t ≡ true = open-at log at (omega (arith, c.requires.within, n)) in
    let u = c.in-Some.update.now in
    let s : (rest : List Record) × (undoing log t ≡ u ∷ rest) = something-first (undoing log t) u (c.in-Some.ensures pages log t judged there (row-at log rows same at _ c.requires.within)) in
    best-first log ts at u s.0 s.1 (subst (λ (o : Option ℕ). IsBest log ts at o) c.in-None-best.is best)

pub returns-in-None-newest_of-clause-best : goal.returns-in-None-newest_of-clause-best
returns-in-None-newest_of-clause-best c pages log judged same best =
    let rows = c.args.rows.now in
    let at = c.args.at in
    let ts = unended log in
    let n : length rows ≡ length ts = rows-counted log rows same in
    let t : ℕ = get_or ts at 0 in
    let there : is_unended log t ≡ true = open-at log at (omega (arith, c.requires.within, n)) in
    let u = c.in-Some.update.now in
    let s : (rest : List Record) × (undoing log t ≡ u ∷ rest) = something-first (undoing log t) u (c.in-Some.ensures pages log t judged there (row-at log rows same at _ c.requires.within)) in
    let place = c.in-Some-best.place in
    let b : IsBestAt log ts at place = subst (λ (o : Option ℕ). IsBest log ts at o) c.in-Some-best.is best in
    let before : place < at = b.within in
    let p : ℕ = get_or ts place 0 in
    let low : place < length rows = omega (arith, before, c.requires.within) in
    let there_too : is_unended log p ≡ true = open-at log place (omega (arith, low, n)) in
    absurd (false≢true (sym (not-nothing (undoing log p) b.update b.rest (c.in-None-newest_of.ensures pages log p judged there_too (row-at log rows same place _ low)) b.newest)))

pub returns-then-lsn-clause-best : goal.returns-then-lsn-clause-best
returns-then-lsn-clause-best c pages log judged same best =
    let rows = c.args.rows.now in
    let at = c.args.at in
    let ts = unended log in
    let n : length rows ≡ length ts = rows-counted log rows same in
    let t : ℕ = get_or ts at 0 in
    let there : is_unended log t ≡ true = open-at log at (omega (arith, c.requires.within, n)) in
    let u = c.in-Some.update.now in
    let s : (rest : List Record) × (undoing log t ≡ u ∷ rest) = something-first (undoing log t) u (c.in-Some.ensures pages log t judged there (row-at log rows same at _ c.requires.within)) in
    let place = c.in-Some-best.place in
    let b : IsBestAt log ts at place = subst (λ (o : Option ℕ). IsBest log ts at o) c.in-Some-best.is best in
    let before : place < at = b.within in
    let p : ℕ = get_or ts place 0 in
    let low : place < length rows = omega (arith, before, c.requires.within) in
    let there_too : is_unended log p ≡ true = open-at log place (omega (arith, low, n)) in
    let o = c.in-Some-newest_of.other.now in
    let is : o ≡ b.update = same-update (undoing log p) o b.update b.rest (c.in-Some-newest_of.ensures pages log p judged there_too (row-at log rows same place _ low)) b.newest in
    let own : c.lsn.result.0 ≡ u.lsn.0 = ap (λ (l : Lsn). l.0) c.lsn.ensures in
    let theirs : c.lsn-in-Some-newest_of.result.0 ≡ b.update.lsn.0 = ap (λ (l : Lsn). l.0) c.lsn-in-Some-newest_of.ensures ∙ ap (λ (r : Record). r.lsn.0) is in
    best-below log ts at u s.0 s.1 place b (omega (arith, own, theirs, c.if-lsn.true))

pub returns-else-lsn-clause-best : goal.returns-else-lsn-clause-best
returns-else-lsn-clause-best c pages log judged same best =
    let rows = c.args.rows.now in
    let at = c.args.at in
    let ts = unended log in
    let n : length rows ≡ length ts = rows-counted log rows same in
    let t : ℕ = get_or ts at 0 in
    let there : is_unended log t ≡ true = open-at log at (omega (arith, c.requires.within, n)) in
    let u = c.in-Some.update.now in
    let s : (rest : List Record) × (undoing log t ≡ u ∷ rest) = something-first (undoing log t) u (c.in-Some.ensures pages log t judged there (row-at log rows same at _ c.requires.within)) in
    let place = c.in-Some-best.place in
    let b : IsBestAt log ts at place = subst (λ (o : Option ℕ). IsBest log ts at o) c.in-Some-best.is best in
    let before : place < at = b.within in
    let p : ℕ = get_or ts place 0 in
    let low : place < length rows = omega (arith, before, c.requires.within) in
    let there_too : is_unended log p ≡ true = open-at log place (omega (arith, low, n)) in
    let o = c.in-Some-newest_of.other.now in
    let is : o ≡ b.update = same-update (undoing log p) o b.update b.rest (c.in-Some-newest_of.ensures pages log p judged there_too (row-at log rows same place _ low)) b.newest in
    let own : c.lsn.result.0 ≡ u.lsn.0 = ap (λ (l : Lsn). l.0) c.lsn.ensures in
    let theirs : c.lsn-in-Some-newest_of.result.0 ≡ b.update.lsn.0 = ap (λ (l : Lsn). l.0) c.lsn-in-Some-newest_of.ensures ∙ ap (λ (r : Record). r.lsn.0) is in
    best-above log ts at u s.0 s.1 place b (omega (arith, own, theirs, c.if-lsn.false))
