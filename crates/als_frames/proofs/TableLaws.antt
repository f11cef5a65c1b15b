-- Laws of frames in a table.
use Rattle.std.proofs.Common.{◌≡◌, ◌≢◌, ◌⊎◌, ℕ, ◌<◌, ◌≤◌, cond, List, length, Option, Some, None, IfNone, nat_eq, inl, inr, ap, subst, ◌∙◌}
use Rattle.std.proofs.lemmas.Bool.{eqb-true, cases_Bool, cases_lt}
use Rattle.std.proofs.lemmas.Map.Entries.{place_from_lookup}
use Rattle.std.proofs.lemmas.Option.{slice_get_within}
use Rattle.std.specs.Map.{lookup}
use Rattle.als_frames.specs.Frames.{Framed, IsFree}
use Rattle.als_frames.specs.Outcomes.{IsReplaced}
use Rattle.als_frames.specs.Table.{IsFreeAt, NoneIsFree, Puts, Replaces}

-- a clean frame has a place
pub place_of_free : (frames : List (ℕ × Framed)) (page : ℕ) (f : Framed) → lookup (nat_eq page) frames ≡ Some f → IsFree f
    → (i : ℕ) × (i < length frames) × IsFreeAt frames i
place_of_free frames page f found clean =
    let (i, k, here, same) = place_from_lookup (nat_eq page) frames f found in
    let is : page ≡ k = eqb-true page k same in (
      i,
      slice_get_within frames i (k, f) here,
      record { page = k; f = f; here = here; found = subst (λ p. lookup (nat_eq p) frames ≡ Some f) is found; free = clean },
    )

-- where no place has a clean frame, none is clean
pub none_free : (frames : List (ℕ × Framed)) (hand : ℕ) → ((i : ℕ) → hand ≤ i → i < length frames → IsFreeAt frames i → ⊥)
    → ((i : ℕ) → i < hand → IsFreeAt frames i → ⊥) → NoneIsFree frames
none_free frames hand above below page f found clean =
    let (i, within, at) = place_of_free frames page f found clean in
    elim (cases_lt i hand) [
      | inl lt ↦ below i lt at
      | inr le ↦ above i le within at
    ]

-- one clean frame goes, and one is put
pub replaced : (old mid new : List (ℕ × Framed)) (page gone : ℕ) (f frame : Framed) → lookup (nat_eq gone) old ≡ Some f → IsFree f
    → ((other : ℕ) → lookup (nat_eq other) mid ≡ cond (nat_eq gone other) None (lookup (nat_eq other) old)) → Puts mid new page frame
    → Replaces old new page frame
replaced old mid new page gone f frame found clean left puts = record { frame = puts.frame; others = others }
  where
    others : (other : ℕ) → other ≢ page → (lookup (nat_eq other) new ≡ lookup (nat_eq other) old) ⊎ IsReplaced (lookup (nat_eq other) old) (lookup (nat_eq other) new)
    others other ne =
        elim (cases_Bool (nat_eq gone other)) [
          | inl yes' ↦
              let is : gone ≡ other = eqb-true gone other yes' in
              let none : lookup (nat_eq other) mid ≡ None = left other ∙ ap (λ b. cond b None (lookup (nat_eq other) old)) yes' in
              inr (f, subst (λ p. lookup (nat_eq p) old ≡ Some f) is found, clean, puts.others other ne ∙ none)
          | inr no' ↦ inl (puts.others other ne ∙ left other ∙ ap (λ b. cond b None (lookup (nat_eq other) old)) no')
        ]

-- what follows where there is no value
pub IfNone-so : {T : Type 0} {P Q : Type 0} (o : Option T) → IfNone o P → (P → Q) → IfNone o Q
IfNone-so None p so = so p
IfNone-so (Some x) p so = tt
