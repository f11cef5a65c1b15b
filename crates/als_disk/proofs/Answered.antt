-- Calls that answer Ok whatever comes.
use Rattle.std.proofs.Common.{◌≡◌, ℕ, Ok, Err}
use Rattle.std.specs.Prelude.{Result, OnOk, OnErr, IsOk}
use Rattle.als_disk.specs.Failures.{CountsFailure}

pub OnOk-always : {T E P : Type 0} (r : Result T E) → P → OnOk r P
OnOk-always (Ok x) p = p
OnOk-always (Err e) p = tt

pub OnErr-ok : {T E : Type 0} (P : Type 0) (r : Result T E) → IsOk r → OnErr r P
OnErr-ok P (Ok x) h = tt
OnErr-ok P (Err e) h = absurd cc

pub CountsFailure-ok : {T E : Type 0} (r : Result T E) (before now : ℕ) → IsOk r → now ≡ before → CountsFailure r before now
CountsFailure-ok (Ok x) before now h same = same
CountsFailure-ok (Err e) before now h same = absurd cc
