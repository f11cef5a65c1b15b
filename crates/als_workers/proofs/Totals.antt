-- Numbers of all passes, added up.
use Rattle.std.proofs.Common.{◌≡◌, ◌≢◌, ℕ, zero, suc, ◌+◌, ◌≤◌, List, [], ◌∷◌, ◌++◌, set, sym, refl, ap, ◌∙◌, subst, arith, ⊎_elim}
use mathlib.Core.Option.{some, some-injective, some-ne-none}
use lib.ListN.{get_elem?}
use Rattle.atomic_table.proofs.Lists.{at_set, at_snoc}
use Rattle.als_workers.specs.declared.job.Job.{Job}
use Rattle.als_workers.specs.declared.rule.PassState.{PassState}
use Rattle.als_workers.specs.Pairs.{pairs_of, pairs_in, stops_of, stops_in, weigh}
use Rattle.als_workers.specs.Rule.{total, IsEmpty, IdleIsEmpty}

-- weights of two lists
pub weigh-append : (h : (ℕ × ℕ) → ℕ) (xs ys : List (ℕ × ℕ)) → weigh h (xs ++ ys) ≡ weigh h xs + weigh h ys
weigh-append h [] ys = omega arith
weigh-append h (x ∷ xs) ys = omega (arith, weigh-append h xs ys)

-- one more job
pub weigh-snoc : (h : (ℕ × ℕ) → ℕ) (jobs : List Job) (job : Job) → weigh h (pairs_in (jobs ++ job ∷ [])) ≡ weigh h (pairs_in jobs) + weigh h (pairs_of job)
weigh-snoc h [] job = omega (arith, weigh-append h (pairs_of job) [])
weigh-snoc h (x ∷ jobs) job = omega (arith, weigh-append h (pairs_of x) (pairs_in (jobs ++ job ∷ [])), weigh-append h (pairs_of x) (pairs_in jobs), weigh-snoc h jobs job)

pub stops-snoc : (jobs : List Job) (job : Job) → stops_in (jobs ++ job ∷ []) ≡ stops_in jobs + stops_of job
stops-snoc [] job = omega arith
stops-snoc (x ∷ jobs) job = omega (arith, stops-snoc jobs job)

-- the total after a change of one pass
pub total-set : (f : PassState → ℕ) (views : List PassState) (port : ℕ) (v w : PassState) → get_elem? views port ≡ some v → total f (set views port w) + f v ≡ total f views + f w
total-set f [] port v w at = absurd (some-ne-none v (sym at))
total-set f (x ∷ views) zero v w at = let same : f x ≡ f v = ap f (some-injective x v at) in omega arith
total-set f (x ∷ views) (suc port) v w at = omega (arith, total-set f views port v w at)

-- the total with a new pass
pub total-snoc : (f : PassState → ℕ) (views : List PassState) (v : PassState) → total f (views ++ v ∷ []) ≡ total f views + f v
total-snoc f [] v = omega arith
total-snoc f (x ∷ views) v = omega (arith, total-snoc f views v)

-- a pass has no more than all
part-of : (f : PassState → ℕ) (views : List PassState) (port : ℕ) (v : PassState) → get_elem? views port ≡ some v → f v ≤ total f views
part-of f [] port v at = absurd (some-ne-none v (sym at))
part-of f (x ∷ views) zero v at = let same : f x ≡ f v = ap f (some-injective x v at) in omega arith
part-of f (x ∷ views) (suc port) v at = omega (arith, part-of f views port v at)

-- where nobody has a part, and who has no part has nothing, all have nothing
nothing : (f : PassState → ℕ) (views : List PassState) → total (λ v. v.parts) views ≡ 0
    → ((port : ℕ) (v : PassState) → get_elem? views port ≡ some v → v.parts ≡ 0 → f v ≡ 0) → total f views ≡ 0
nothing f [] none idle = refl
nothing f (x ∷ views) none idle =
    let here : f x ≡ 0 = idle 0 x refl (omega arith) in
    let rest : total f views ≡ 0 = nothing f views (omega arith) (λ port v at. idle (suc port) v at) in
    omega arith

-- where one pass has all parts, it has all
pub alone : (f : PassState → ℕ) (views : List PassState) (port : ℕ) (v : PassState) → get_elem? views port ≡ some v → total (λ u. u.parts) views ≡ v.parts
    → ((port : ℕ) (u : PassState) → get_elem? views port ≡ some u → u.parts ≡ 0 → f u ≡ 0) → total f views ≡ f v
alone f [] port v at all idle = absurd (some-ne-none v (sym at))
alone f (x ∷ views) zero v at all idle =
    let is : x ≡ v = some-injective x v at in
    let parts : x.parts ≡ v.parts = ap (λ (u : PassState). u.parts) is in
    let same : f x ≡ f v = ap f is in
    let rest : total f views ≡ 0 = nothing f views (omega arith) (λ port u at'. idle (suc port) u at') in
    omega arith
alone f (x ∷ views) (suc port) v at all idle =
    let most : v.parts ≤ total (λ u. u.parts) views = part-of (λ u. u.parts) views port v at in
    let here : f x ≡ 0 = idle 0 x refl (omega arith) in
    let rest : total f views ≡ f v = alone f views port v at (omega arith) (λ port u at'. idle (suc port) u at') in
    omega arith

-- who has no part has nothing, also after a change of one pass
pub idle-set : (views : List PassState) (port : ℕ) (w : PassState) → (w.parts ≡ 0 → IsEmpty w) → IdleIsEmpty views → IdleIsEmpty (set views port w)
idle-set views port w mine idle j u at none =
    ⊎_elim (λ (x : (j ≡ port) × (w ≡ u)). subst IsEmpty x.1 (mine (ap (λ (y : PassState). y.parts) x.1 ∙ none)))
    (λ (x : (j ≢ port) × (get_elem? views j ≡ some u)). idle j u x.1 none) (at_set views port j w u at)

-- and with a new one
pub idle-snoc : (views : List PassState) (w : PassState) → (w.parts ≡ 0 → IsEmpty w) → IdleIsEmpty views → IdleIsEmpty (views ++ w ∷ [])
idle-snoc views w mine idle j u at none =
    ⊎_elim (λ (x : get_elem? views j ≡ some u). idle j u x none)
    (λ (x : w ≡ u). subst IsEmpty x (mine (ap (λ (y : PassState). y.parts) x ∙ none))) (at_snoc views w u j at)
