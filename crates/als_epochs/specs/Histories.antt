-- A node's history: the LSNs at which the takeovers before it were sealed, oldest first. Its epoch is how many they are.
use Rattle.std.specs.Prelude.{◌≡◌, ℕ, ◌≤◌, ◌<◌, ◌^◌, Bool, nat_eq, List, [], ◌∷◌, ◌++◌, length, slice_get, Option}
use Rattle.std.specs.Int.{w64, to_be_bytes}
use Rattle.std.specs.List.{flat_map, starts_with}

-- no number is below the one before it, and the first is not below a bound
abbrev pub RisesFrom : ℕ → List ℕ → Type 0
RisesFrom low [] = Unit {0}
RisesFrom low (seal ∷ rest) = (low ≤ seal) × RisesFrom seal rest

-- the last number, or another where there is none
abbrev pub last_from : ℕ → List ℕ → ℕ
last_from none [] = none
last_from none (seal ∷ rest) = last_from seal rest

-- the last seal, 0 where there is none
abbrev pub last_seal : List ℕ → ℕ
last_seal seals = last_from 0 seals

-- A history has at most 32 seals, and none is below the one before it. So the last one is the greatest: a number of 64 bits.
pub record IsHistory (seals : List ℕ) : Type 0 where
  pub few : length seals ≤ 32
  pub rises : RisesFrom 0 seals
  pub wide : last_seal seals < 2 ^ 64

-- a seal may follow those of a history: there is room for it, and it is not below the last one
abbrev pub Takes : List ℕ → ℕ → Type 0
Takes seals seal = (length seals < 32) × (last_seal seals ≤ seal)

-- a history goes on from another one, which is a front of it
abbrev pub GoesOn : List ℕ → List ℕ → Type 0
GoesOn front whole = (rest : List ℕ) × (whole ≡ front ++ rest)

-- whether it is a front of it
abbrev pub is_front : List ℕ → List ℕ → Bool
is_front front whole = starts_with nat_eq whole front

-- the seal of a history that stands behind as many as another one has
abbrev pub next_seal : List ℕ → List ℕ → Option ℕ
next_seal front whole = slice_get whole (length front)

-- the bytes of the seals, one after another
abbrev pub seals_bytes : List ℕ → List ℕ
seals_bytes seals = flat_map (to_be_bytes w64) seals
