-- Where as many bytes have come as they say that the record has, no more are asked for.
use Rattle.std.proofs.Common.{◌≡◌, ℕ, ◌≤◌, Bool, true, false, not, if◌then◌else◌, List, length, take, drop, Option, None, Result, Ok, Err, nat_lt, ◌==◌, sym, ◌∙◌, le-ltb}
use Rattle.std.proofs.lemmas.Bool.{cond-false}
use Rattle.als_record.specs.declared.fault.Fault.{Fault}
use Rattle.als_record.specs.declared.fault.Fault.TheVariants.{BadLength, BadType, BadReserved, WrongLsn}
use Rattle.als_record.specs.declared.record.Body.{Body}
use Rattle.als_record.specs.declared.record.Record.{Record}
use Rattle.als_record.specs.Reading.{is_size, is_type, is_reserved_zero, size_at, type_at, long_at, with_head, read_body, read_record}

abbrev Read : Type 0
Read = Result (Option (Record × ℕ)) Fault

abbrev guarded : Bool → Bool → Bool → Bool → Read → Read
guarded a b c d rest = if a then Err BadLength else if b then Err BadType else if c then Err BadReserved else if d then Err WrongLsn else rest

guarded-none : (a b c d : Bool) (rest : Read) → guarded a b c d rest ≡ Ok None → rest ≡ Ok None
guarded-none true b c d rest h = absurd cc
guarded-none false true c d rest h = absurd cc
guarded-none false false true d rest h = absurd cc
guarded-none false false false true rest h = absurd cc
guarded-none false false false false rest h = h

with_head-some : (at : ℕ) (bytes : List ℕ) (size : ℕ) (r : Result Body Fault) → with_head at bytes size r ≡ Ok None → ⊥
with_head-some at bytes size (Ok b) h = cc
with_head-some at bytes size (Err e) h = cc

abbrev behind : ℕ → ℕ → List ℕ → Read
behind pages at bytes = if nat_lt (length bytes) (size_at bytes) then Ok None else with_head at bytes (size_at bytes) (read_body pages (type_at bytes) (drop 28 (take (size_at bytes) bytes)))

read_record-head : (pages at : ℕ) (bytes : List ℕ) → 28 ≤ length bytes
    → read_record pages at bytes ≡ guarded (not (is_size (type_at bytes) (size_at bytes))) (not (is_type (type_at bytes))) (not (is_reserved_zero bytes)) (not (long_at 8 bytes == at)) (behind pages at bytes)
unfolding read_record
read_record-head pages at bytes le = cond-false (nat_lt (length bytes) 28) (Ok None) _ (le-ltb (length bytes) 28 le)

pub read_record-whole : (pages at : ℕ) (bytes : List ℕ) → 28 ≤ length bytes → size_at bytes ≤ length bytes → read_record pages at bytes ≡ Ok None → ⊥
read_record-whole pages at bytes head fits none =
    let body : Result Body Fault = read_body pages (type_at bytes) (drop 28 (take (size_at bytes) bytes)) in
    let past : behind pages at bytes ≡ Ok None = guarded-none (not (is_size (type_at bytes) (size_at bytes))) (not (is_type (type_at bytes))) (not (is_reserved_zero bytes)) (not (long_at 8 bytes == at)) (behind pages at bytes)
    (sym (read_record-head pages at bytes head) ∙ none) in
    with_head-some at bytes (size_at bytes) body
    (sym (cond-false (nat_lt (length bytes) (size_at bytes)) (Ok None) (with_head at bytes (size_at bytes) body) (le-ltb (length bytes) (size_at bytes) fits)) ∙ past)
