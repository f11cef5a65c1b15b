-- Blocks of addresses.
use Rattle.std.specs.Prelude.{◌≡◌, ◌<◌, ◌==◌, ◌⊎◌, ◌-◌, ◌^◌, ◌/◌, ℕ, Bool, List, length}
use Rattle.std.specs.List.{position_or_len, before_first, after_first}
use Rattle.std.specs.Str.Parse.{without_leading_plus}
use Rattle.std.specs.Net.Addr.{MatchIp, IsCanonicalOf, ipv4_bits, ipv6_bits}
use Rattle.std.specs.Net.Grammar.{IsIpText, IsNumber}
use Rattle.std.specs.declared.net.ip_addr.IpAddr.{IpAddr}
use Rattle.std.specs.declared.net.ip_addr.IpAddr.TheVariants.{V4, V6}

-- how many bits an address has
abbrev pub width_of : IpAddr → ℕ
width_of (V4 ip) = 32
width_of (V6 ip) = 128

-- a slash
abbrev pub is_slash : ℕ → Bool
is_slash b = b == 47

-- the text is an address, with all its bits; or else an address stands before its first slash, and behind it the number of bits
abbrev pub Spells : List ℕ → IpAddr → ℕ → Type 0
Spells text addr bits =
    (IsIpText text addr × (bits ≡ width_of addr))
    ⊎ (((whole : IpAddr) → IsIpText text whole → ⊥) × (position_or_len is_slash text < length text) × IsIpText (before_first is_slash text) addr × IsNumber 10 (without_leading_plus (after_first is_slash text)) bits)

-- an address in one form: the IPv4 address in place of an IPv4-mapped one
abbrev pub IsCanonical : IpAddr → IpAddr → Type 0
IsCanonical peer own = MatchIp peer (λ _. own ≡ peer) (λ mapped. IsCanonicalOf mapped own)

-- two addresses of one family have the same first bits
abbrev pub HaveSameFront : ℕ → IpAddr → IpAddr → Type 0
HaveSameFront bits (V4 a) (V4 b) = ipv4_bits a / 2 ^ (32 - bits) ≡ ipv4_bits b / 2 ^ (32 - bits)
HaveSameFront bits (V6 a) (V6 b) = ipv6_bits a / 2 ^ (128 - bits) ≡ ipv6_bits b / 2 ^ (128 - bits)
HaveSameFront bits (V4 a) (V6 b) = ⊥
HaveSameFront bits (V6 a) (V4 b) = ⊥
