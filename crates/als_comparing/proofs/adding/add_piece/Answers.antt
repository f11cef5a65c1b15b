use Rattle.std.proofs.Common.{◌≡◌, ℕ, List, [], ◌∷◌, ◌++◌, sym, ap, subst, ◌∙◌}
use Rattle.als_sending.specs.Reads.{Read}
use Rattle.als_comparing.specs.Summed.{SumsFront}
use Rattle.als_comparing.proofs.Summed.{one_summed}
use Rattle.als_comparing.proofs.adding.add_piece.Goals as goal

pub returns-clause-sums : goal.returns-clause-sums
returns-clause-sums g c sums =
    let reads = g.G.Growing.reads c.args.log.now in
    let s = c.args.summing.now in
    let piece = c.read_at.new.buf in
    let r : ℕ → Read = λ n. record { at = n; bytes = piece } in
    let read : g.G.Growing.reads c.read_at.new.self ≡ reads ++ r s.end ∷ [] =
    c.in_ok-read_at.ensures.read ∙ ap (λ (n : ℕ). reads ++ r n ∷ []) c.end-at.ensures in
    subst (λ (rs : List Read). SumsFront rs c.add.new.self) (sym read)
    (one_summed reads s c.add.new.self piece c.add.ensures.sums c.add.ensures.end sums)
