-- A text spells one block at most.
use Rattle.std.proofs.Common.{◌≡◌, ◌<◌, ◌∙◌, ℕ, List, Option, Some, None, IfNone, sym, ap, inl, inr, lit<}
use Rattle.std.specs.declared.net.ip_addr.IpAddr.{IpAddr}
use Rattle.std.specs.declared.net.ip_addr.IpAddr.TheVariants.{V4, V6}
use Rattle.std.specs.List.{before_first}
use Rattle.std.proofs.NetLemmas.Theorems.{IsIpText_unique}
use Rattle.als_callers.specs.Blocks.{width_of, is_slash, Spells}

-- an address has fewer than 256 bits
pub width_below : (addr : IpAddr) → width_of addr < 256
width_below (V4 ip) = lit< tt
width_below (V6 ip) = lit< tt

pub spells_one : (text : List ℕ) (a b : IpAddr) (m n : ℕ) → Spells text a m → Spells text b n → (a ≡ b) × (m ≡ n)
spells_one text a b m n (inl p) (inl q) =
    let same = IsIpText_unique text a b p.0 q.0 in
    (same, p.1 ∙ ap width_of same ∙ sym q.1)
spells_one text a b m n (inl p) (inr q) = absurd (q.0 a p.0)
spells_one text a b m n (inr p) (inl q) = absurd (p.0 b q.0)
spells_one text a b m n (inr p) (inr q) =
    (IsIpText_unique (before_first is_slash text) a b p.2 q.2, sym p.3.1 ∙ q.3.1)

-- what follows where there is none
pub none_then : {X : Type 0} {P Q : Type 0} → (o : Option X) → IfNone o P → (P → Q) → IfNone o Q
none_then None p f = f p
none_then (Some x) p f = tt
