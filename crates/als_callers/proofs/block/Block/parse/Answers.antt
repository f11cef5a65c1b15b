use Rattle.std.proofs.Common.{◌≤◌, ℕ, subst, arith}
use Rattle.std.specs.declared.net.ip_addr.IpAddr.{IpAddr}
use Rattle.als_callers.specs.Blocks.{width_of, IsCanonical}
use Rattle.als_callers.proofs.Texts.{width_below, spells_one, none_then}
use Rattle.als_callers.proofs.block.Block.parse.Goals as goal

pub returns-in-Some-clause-none : goal.returns-in-Some-clause-none
returns-in-Some-clause-none c = none_then c.of.result c.of.ensures.none (λ no addr bits spelled le own.
    let same = spells_one c.args.text.now addr c.in-Some.addr bits c.in-Some.bits spelled c.in-Some.ensures.found in
    let fits : c.in-Some.bits ≤ width_of c.in-Some.addr =
    subst (λ (k : ℕ). k ≤ width_of c.in-Some.addr) same.1 (subst (λ (a : IpAddr). bits ≤ width_of a) same.0 le) in
    no fits (subst (λ (a : IpAddr). IsCanonical a a) same.0 own))

pub returns-in-None-clause-none : goal.returns-in-None-clause-none
returns-in-None-clause-none c = λ addr bits spelled le own.
    let wide = width_below addr in
    c.in-None.ensures.none addr bits spelled (omega arith)
