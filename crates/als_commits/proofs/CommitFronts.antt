-- The first commits of a valid log are those of a front of it.
use Rattle.std.proofs.Common.{◌≡◌, ℕ, ◌≤◌, ◌<◌, Bool, true, false, cond, List, [], ◌∷◌, ◌++◌, length, length-append, take, refl, sym, ap, ◌∙◌, inl, inr, arith, append-nil, append_assoc, nat_le, zero, suc}
use Rattle.std.proofs.lemmas.Bool.{cases_Bool, and_from, leb-true, leb-false}
use Rattle.std.proofs.lemmas.List.{take_all, take-append-le}
use Rattle.als_record.specs.declared.record.Record.{Record}
use Rattle.als_record.specs.Transactions.{is_commit}
use Rattle.als_record.specs.Validity.{is_valid, may_follow}
use Rattle.als_record.specs.Commits.{Commit, commits_of}
use Rattle.als_record.proofs.Validity.{valid_induction, is_valid-push, may_follow-admitted}
use Rattle.als_record.proofs.CommitSteps.{commit_by, commits_of-push}
use Rattle.als_commits.specs.Fronts.{HasFront}

no_commit : List Commit
no_commit = []

take-none : (n : ℕ) → no_commit ≡ take n no_commit
unfolding no_commit
take-none zero = refl
take-none (suc n) = refl

front-none : (n : ℕ) → n ≤ length (commits_of []) → HasFront [] (take n (commits_of []))
unfolding commits_of no_commit
front-none n le = record { front = []; rest = []; parts = refl; ends = inl refl; has = take-none n }

pub front_with : (log : List Record) → is_valid log ≡ true → (n : ℕ) → n ≤ length (commits_of log) → HasFront log (take n (commits_of log))
front_with log v = valid_induction (λ l. (n : ℕ) → n ≤ length (commits_of l) → HasFront l (take n (commits_of l))) front-none (λ l r w h a. more l r (is_valid-push l r ∙ and_from (is_valid l) (may_follow l r) w (may_follow-admitted l r a)) h) log v
  where
    within : (l : List Record) (r : Record) (cs : List Commit) → commits_of (l ++ r ∷ []) ≡ commits_of l ++ cs → ((n : ℕ) → n ≤ length (commits_of l) → HasFront l (take n (commits_of l))) → (n : ℕ) → n ≤ length (commits_of l) → HasFront (l ++ r ∷ []) (take n (commits_of (l ++ r ∷ [])))
    within l r cs q h n le =
        let f : HasFront l (take n (commits_of l)) = h n le in
        record {
          front = f.front;
          rest = f.rest ++ r ∷ [];
          parts = ap (λ (m : List Record). m ++ r ∷ []) f.parts ∙ append_assoc f.front f.rest (r ∷ []);
          ends = f.ends;
          has = f.has ∙ sym (ap (take n) q ∙ take-append-le n (commits_of l) cs le);
        }

    more : (l : List Record) (r : Record) → is_valid (l ++ r ∷ []) ≡ true → ((n : ℕ) → n ≤ length (commits_of l) → HasFront l (take n (commits_of l))) → (n : ℕ) → n ≤ length (commits_of (l ++ r ∷ [])) → HasFront (l ++ r ∷ []) (take n (commits_of (l ++ r ∷ [])))
    more l r w h n le = go (is_commit r.body) refl
      where
        go : (b : Bool) → is_commit r.body ≡ b → HasFront (l ++ r ∷ []) (take n (commits_of (l ++ r ∷ [])))
        go false e =
            let q : commits_of (l ++ r ∷ []) ≡ commits_of l ++ [] = commits_of-push l r w ∙ ap (λ b. commits_of l ++ cond b (commit_by l r ∷ []) []) e in
            within l r [] q h n (omega (arith, le, ap (λ (cs : List Commit). length cs) q, length-append (commits_of l) []))
        go true e =
            let one : List Commit = commit_by l r ∷ [] in
            let q : commits_of (l ++ r ∷ []) ≡ commits_of l ++ one = commits_of-push l r w ∙ ap (λ b. commits_of l ++ cond b one []) e in
            elim (cases_Bool (nat_le n (length (commits_of l)))) [
              | inl y ↦ within l r one q h n (leb-true n (length (commits_of l)) y)
              | inr m ↦
                  let k : length (commits_of l) < n = leb-false n (length (commits_of l)) m in
                  let all : length (commits_of (l ++ r ∷ [])) ≤ n = omega (arith, k, ap (λ (cs : List Commit). length cs) q, length-append (commits_of l) one) in
                  record { front = l ++ r ∷ []; rest = []; parts = sym (append-nil (l ++ r ∷ [])); ends = inr (l, r, refl, e); has = sym (take_all n (commits_of (l ++ r ∷ [])) all) }
            ]
