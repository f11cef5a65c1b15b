use Rattle.std.proofs.Common.{ℕ, List, [], ◌∷◌, ◌++◌, ap, sym, ◌∙◌, take, get_or}
use Rattle.std.proofs.lemmas.List.{take_more}
use Rattle.als_sending.specs.Reads.{Read}
use Rattle.als_sending.specs.Accounts.{reads_of, with_byte}
use Rattle.als_sending.proofs.Recording.{byte_added}
use Rattle.als_sending.proofs.account.Account.read.Goals as goal

pub loop-byte-preserved : goal.loop-byte-preserved
loop-byte-preserved c =
    let old : List Read = reads_of c.args.self.now in
    let i = c.loop-byte.byte-index in
    let byte : ℕ = get_or c.args.bytes.now i 0 in
    c.more.ensures
    ∙ ap (λ (rs : List Read). with_byte rs byte) c.loop-byte.invariant
    ∙ byte_added old c.args.at (take i c.args.bytes.now) byte
    ∙ ap (λ (bs : List ℕ). old ++ record { at = c.args.at; bytes = bs } ∷ []) (sym (take_more c.args.bytes.now i 0 c.loop-byte-test.true))
