-- Each move keeps the rule.
use Rattle.std.proofs.Common.{◌≡◌, ℕ, ◌+◌, ◌<◌, [], ◌∷◌, set, sym, refl, ap, ◌∙◌, arith}
use Rattle.std.specs.Prelude.{⊤}
use mathlib.Core.Option.{some-ne-none}
use Rattle.crossbeam_channel.specs.Fifo.{Pushes, Pops, Forks, Merges, Learns}
use Rattle.als_workers.specs.declared.job.Job.{Job}
use Rattle.als_workers.specs.declared.rule.PassState.{PassState}
use Rattle.als_workers.specs.Pairs.{pairs_of, pairs_in, stops_in, weigh}
use Rattle.als_workers.specs.Rule.{new_pass, has_put, has_taken, was_refused, without_part, joined, total, Balanced}
use Rattle.als_workers.proofs.Totals.{weigh-append, weigh-snoc, stops-snoc, total-set, total-snoc, alone, idle-set, idle-snoc}

-- the first pass has all parts
pub begins : Balanced [] (new_pass 1024 ∷ [])
begins = (refl, (λ h. refl), idle-snoc [] (new_pass 1024) (λ none. (refl, refl, refl, refl)) (λ port v at none. absurd (some-ne-none v (sym at))), refl)

pub puts : (n port : ℕ) (v : PassState) (job : Job) → 0 < v.parts → Pushes Balanced n port v job (λ w. w ≡ has_put v job)
puts n port v job part jobs views room b at =
    let w = has_put v job in (
      w,
      (
        (let s = total-set (λ u. u.parts) views port v w at in let p = b.0 in omega arith),
        (λ h.
            let s = total-set (λ u. weigh h u.put) views port v w at in
            let t = total-set (λ u. weigh h u.taken) views port v w at in
            let p = b.1 h in
            omega (arith, weigh-append h v.put (pairs_of job), weigh-snoc h jobs job)),
        idle-set views port w (λ none. absurd (omega arith)) b.2,
        (let s = total-set (λ u. u.stops_put) views port v w at in
            let t = total-set (λ u. u.stops_taken) views port v w at in
            let p = b.3 in
            omega (arith, stops-snoc jobs job)),
      ),
      refl,
    )

pub takes : (port : ℕ) (v : PassState) → 0 < v.parts → Pops Balanced port v (λ job w. w ≡ has_taken v job)
takes port v part job jobs views b at =
    let w = has_taken v job in (
      w,
      (
        (let s = total-set (λ u. u.parts) views port v w at in let p = b.0 in omega arith),
        (λ h.
            let s = total-set (λ u. weigh h u.put) views port v w at in
            let t = total-set (λ u. weigh h u.taken) views port v w at in
            let p = b.1 h in
            omega (arith, weigh-append h v.taken (pairs_of job), weigh-append h (pairs_of job) (pairs_in jobs))),
        idle-set views port w (λ none. absurd (omega arith)) b.2,
        (let s = total-set (λ u. u.stops_put) views port v w at in
            let t = total-set (λ u. u.stops_taken) views port v w at in
            let p = b.3 in
            omega arith),
      ),
      refl,
    )

-- a pass changes to one with other parts that put and took the same, and another one begins that put and took nothing
parted : (port : ℕ) (v l r : PassState) → l.parts + r.parts ≡ v.parts → 0 < l.parts → l.put ≡ v.put → l.taken ≡ v.taken
    → l.stops_put ≡ v.stops_put → l.stops_taken ≡ v.stops_taken → r.put ≡ [] → r.taken ≡ [] → r.stops_put ≡ 0 → r.stops_taken ≡ 0
    → Forks Balanced port v l r
parted port v l r parts some put taken stops ends none nothing zero₁ zero₂ jobs views b at =
    let set' = set views port l in (
      (let s = total-set (λ u. u.parts) views port v l at in let p = b.0 in omega (arith, total-snoc (λ u. u.parts) set' r)),
      (λ h.
          let s = total-set (λ u. weigh h u.put) views port v l at in
          let t = total-set (λ u. weigh h u.taken) views port v l at in
          let p = b.1 h in
          omega (
            arith,
            total-snoc (λ u. weigh h u.put) set' r,
            total-snoc (λ u. weigh h u.taken) set' r,
            ap (weigh h) put,
            ap (weigh h) taken,
            ap (weigh h) none,
            ap (weigh h) nothing,
          )),
      idle-snoc set' r (λ _. (none, nothing, zero₁, zero₂)) (idle-set views port l (λ zero'. absurd (omega arith)) b.2),
      (let s = total-set (λ u. u.stops_put) views port v l at in
          let t = total-set (λ u. u.stops_taken) views port v l at in
          let p = b.3 in
          omega (arith, total-snoc (λ u. u.stops_put) set' r, total-snoc (λ u. u.stops_taken) set' r)),
    )

pub forks : (port : ℕ) (v : PassState) → 1 < v.parts → Forks Balanced port v (without_part v) (new_pass 1)
forks port v parts = parted port v (without_part v) (new_pass 1) (omega arith) (omega arith) refl refl refl refl refl refl refl refl

pub refuses : (port : ℕ) (v : PassState) → 0 < v.parts → Forks Balanced port v (was_refused v) (new_pass 0)
refuses port v parts = parted port v (was_refused v) (new_pass 0) (omega arith) parts refl refl refl refl refl refl refl refl

pub merges : (port : ℕ) (v : PassState) (other : ℕ) (u : PassState) → 0 < v.parts → Merges Balanced port v other u (joined v u) (new_pass 0)
merges port v other u part jobs views b at apart at' =
    let both = joined v u in
    let spent = new_pass 0 in
    let set' = set views port both in (
      (let s = total-set (λ y. y.parts) views port v both at in let s' = total-set (λ y. y.parts) set' other u spent at' in let p = b.0 in omega arith),
      (λ h.
          let s = total-set (λ y. weigh h y.put) views port v both at in
          let s' = total-set (λ y. weigh h y.put) set' other u spent at' in
          let t = total-set (λ y. weigh h y.taken) views port v both at in
          let t' = total-set (λ y. weigh h y.taken) set' other u spent at' in
          let p = b.1 h in
          omega (arith, weigh-append h v.put u.put, weigh-append h v.taken u.taken)),
      idle-set set' other spent (λ none. (refl, refl, refl, refl)) (idle-set views port both (λ none. absurd (omega arith)) b.2),
      (let s = total-set (λ y. y.stops_put) views port v both at in
          let s' = total-set (λ y. y.stops_put) set' other u spent at' in
          let t = total-set (λ y. y.stops_taken) views port v both at in
          let t' = total-set (λ y. y.stops_taken) set' other u spent at' in
          let p = b.3 in
          omega arith),
    )

pub learns : (port : ℕ) (v : PassState) → v.parts ≡ 1024
    → Learns Balanced port v (λ jobs. ((h : (ℕ × ℕ) → ℕ) → weigh h v.put ≡ weigh h v.taken + weigh h (pairs_in jobs)) × (v.stops_put ≡ v.stops_taken + stops_in jobs))
learns port v parts jobs views b at =
    let all : total (λ y. y.parts) views ≡ v.parts = b.0 ∙ sym parts in (
      (λ h.
          let put : total (λ y. weigh h y.put) views ≡ weigh h v.put = alone (λ y. weigh h y.put) views port v at all (λ j y at' none. ap (weigh h) (b.2 j y at' none).0) in
          let taken : total (λ y. weigh h y.taken) views ≡ weigh h v.taken = alone (λ y. weigh h y.taken) views port v at all (λ j y at' none. ap (weigh h) (b.2 j y at' none).1) in
          let p = b.1 h in
          omega arith),
      (let put : total (λ y. y.stops_put) views ≡ v.stops_put = alone (λ y. y.stops_put) views port v at all (λ j y at' none. (b.2 j y at' none).2) in
          let taken : total (λ y. y.stops_taken) views ≡ v.stops_taken = alone (λ y. y.stops_taken) views port v at all (λ j y at' none. (b.2 j y at' none).3) in
          let p = b.3 in
          omega arith),
    )

pub tells_nothing : (port : ℕ) (v : PassState) → Learns Balanced port v (λ jobs. ⊤)
tells_nothing port v jobs views b at = tt
