-- Which hosts a request may name.
use Rattle.std.specs.Prelude.{ℕ, nat_eq, Bool, true, false, List, [], ◌∷◌, length, take, drop, codes, bytes_eq, if◌then◌else◌}
use Rattle.http_header.specs.FieldValue.{FieldValue}
use Rattle.als_http.specs.declared.hosts.Hosts.{Hosts}
use Rattle.als_http.specs.declared.hosts.Hosts.TheVariants.{Any, Loopback}

-- nothing, or a port behind a colon
unfoldable pub is_port : List ℕ → Bool
is_port rest = if bytes_eq (take 1 rest) (codes ":") then true else nat_eq (length rest) 0

-- a name by which this machine calls itself, with a port or without one
unfoldable pub is_loopback : List ℕ → Bool
is_loopback host =
    if bytes_eq (take 9 host) (codes "localhost") then is_port (drop 9 host)
    else (if bytes_eq (take 9 host) (codes "127.0.0.1") then is_port (drop 9 host)
    else (if bytes_eq (take 5 host) (codes "[::1]") then is_port (drop 5 host) else false))

-- whether a request with these fields of its host is for this node; without one it is
unfoldable pub is_own : Hosts → List FieldValue → Bool
is_own Any fields = true
is_own Loopback [] = true
is_own Loopback (v ∷ rest) = is_loopback v.bytes
