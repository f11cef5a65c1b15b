-- Which hosts are of the loopback, worked by hand.
use Rattle.std.specs.Prelude.{◌≡◌, true, false, codes, refl}
use Rattle.als_http.specs.Hosts.{is_port, is_loopback}

name_row : is_loopback (codes "localhost") ≡ true
unfolding is_loopback is_port
name_row = refl

port_row : is_loopback (codes "127.0.0.1:7071") ≡ true
unfolding is_loopback is_port
port_row = refl

six_row : is_loopback (codes "[::1]:7071") ≡ true
unfolding is_loopback is_port
six_row = refl

other_row : is_loopback (codes "evil.example:7071") ≡ false
unfolding is_loopback is_port
other_row = refl

longer_row : is_loopback (codes "localhost.evil.example") ≡ false
unfolding is_loopback is_port
longer_row = refl

number_row : is_loopback (codes "127.0.0.11") ≡ false
unfolding is_loopback is_port
number_row = refl

none_row : is_loopback (codes "") ≡ false
unfolding is_loopback is_port
none_row = refl
