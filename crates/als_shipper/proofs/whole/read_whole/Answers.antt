use Rattle.std.proofs.Common.{◌≡◌, ◌≤◌, ◌+◌, ◌++◌, ℕ, List, Option, IfSome, length, take, arith, ap, subst}
use Rattle.std.specs.Option.{option_map}
use Rattle.als_shipper.proofs.Limits.{whole_from_take}
use Rattle.als_shipper.proofs.whole.read_whole.Goals as goal

pub returns-clause-whole : goal.returns-clause-whole
returns-clause-whole g c =
    let got = c.read_to_end.new.buf.items in
    let short : length got ≤ c.args.limit = omega arith in
    let at_limit = subst (λ (n : ℕ). IfSome (option_map (take n) (g.R.Read.remaining c.take.result.inner)) (λ xs. got ≡ c.new-bytes.result.items ++ xs)) c.take.ensures.limit c.in_ok-read_to_end.ensures.bytes in
    let of_reader = subst (λ (o : Option (List ℕ)). IfSome (option_map (take (c.args.limit + 1)) o) (λ xs. got ≡ c.new-bytes.result.items ++ xs)) (ap g.R.Read.remaining c.take.ensures.inner) at_limit in
    let from_nothing = subst (λ (start : List ℕ). IfSome (option_map (take (c.args.limit + 1)) (g.R.Read.remaining c.args.reader)) (λ xs. got ≡ start ++ xs)) c.new-bytes.ensures.items of_reader in
    whole_from_take c.args.limit (g.R.Read.remaining c.args.reader) got from_nothing short
