use Rattle.std.proofs.Common.{◌≡◌, ℕ, List, [], ◌∷◌, ◌++◌, sym, ap, subst, ◌∙◌}
use Rattle.als_sending.specs.Accounts.{reads_of}
use Rattle.als_sending.specs.Reads.{Read}
use Rattle.als_comparing.specs.Summed.{SumsFront}
use Rattle.als_comparing.proofs.Summed.{one_summed}
use Rattle.als_comparing.proofs.held_log.HeldLog.add_piece.Goals as goal

pub returns-clause-sums : goal.returns-clause-sums
returns-clause-sums g c sums =
    let reads = reads_of c.args.self.now.account in
    let s = c.args.self.now.summing in
    let piece = c.read_exact_at.new.buf in
    let r : ℕ → Read = λ n. record { at = n; bytes = piece } in
    let read : reads_of c.read.new.self ≡ reads ++ r s.end ∷ [] =
    c.read.ensures ∙ ap (λ (n : ℕ). reads ++ r n ∷ []) c.end-at.ensures in
    subst (λ (rs : List Read). SumsFront rs c.add.new.self) (sym read)
    (one_summed reads s c.add.new.self piece c.add.ensures.sums c.add.ensures.end sums)
