-- Bytes with zeros behind them.
use Rattle.std.proofs.Common.{◌≡◌, ℕ, ◌+◌, ◌-◌, ◌<◌, ◌≤◌, List, ◌++◌, length, take, drop, min, sym, ◌∙◌, arith, inl, inr, refl}
use Rattle.std.specs.Prelude.{replicate, slice_index}
use Rattle.std.proofs.lemmas.Bool.{cases_lt}
use Rattle.std.proofs.lemmas.List.{get_or_append_left, get_or-append_right, get_or-drop, get_or_past, get_or-replicate, get_or-take, length-drop, length-replicate, length-take}

zeros_at : (n i : ℕ) → slice_index (replicate n 0) i ≡ 0
zeros_at n i =
    elim (cases_lt i n) [
      | inl lt ↦ get_or-replicate n i 0 0 lt
      | inr le ↦ get_or_past (replicate n 0) i 0 (omega (arith, length-replicate {A = ℕ} n 0, le))
    ]

-- a byte behind the last one is zero
pub padded_at : (front : List ℕ) (n o : ℕ) → slice_index (front ++ drop (length front) (replicate n 0)) o ≡ slice_index front o
padded_at front n o =
    elim (cases_lt o (length front)) [
      | inl lt ↦ get_or_append_left front (drop (length front) (replicate n 0)) 0 o lt
      | inr le ↦
          get_or-append_right front (drop (length front) (replicate n 0)) (length front) o 0 refl le
          ∙ get_or-drop (length front) (replicate n 0) (o - length front) 0
          ∙ zeros_at n (length front + (o - length front))
          ∙ sym (get_or_past front o 0 le)
    ]

-- the bytes of a part, up to its length
pub part_at : (bytes : List ℕ) (start n o : ℕ) → o < 512 → n ≡ min (length (drop start bytes)) 512 → slice_index (take n (drop start bytes)) o ≡ slice_index bytes (start + o)
part_at bytes start n o lt is =
    elim (cases_lt o n) [
      | inl below ↦ get_or-take n (drop start bytes) o 0 below ∙ get_or-drop start bytes o 0
      | inr le ↦
          let behind : length bytes ≤ start + o = omega (arith, is, le, lt, length-drop start bytes) in
          get_or_past (take n (drop start bytes)) o 0 (omega (arith, length-take n (drop start bytes), le)) ∙ sym (get_or_past bytes (start + o) 0 behind)
    ]
