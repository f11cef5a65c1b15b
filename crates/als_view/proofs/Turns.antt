-- The steps keep the rule of the two copies.
use Rattle.std.proofs.Common.{◌≡◌, ℕ, ◌≢◌, List, Option, Some, None, refl, ap, sym, ◌∙◌, subst, ⊎_elim}
use mathlib.Core.Option.{some}
use mathlib.Core.List.{IsPrefix}
use lib.ListN.{get_elem?}
use Rattle.crossbeam_utils.specs.Register.{Admits, TurnsAt, Forks, Merges}
use Rattle.atomic_table.proofs.Lists.{at_set, at_snoc}
use Rattle.als_record.specs.Commits.{Commit}
use Rattle.als_view.specs.Entries.{AreCommits}
use Rattle.als_view.specs.declared.view_copy.ViewCopy.{ViewCopy}
use Rattle.als_view.specs.declared.state.State.{State}
use Rattle.als_view.specs.declared.rule.Known.{Known}
use Rattle.als_view.specs.Rules.{IsFrontOf, IsSound, Holds, Sees, known_of, knowing}
use Rattle.als_view.proofs.Fronts.{prefix_self, prefix_trans}

pub admits : Admits Holds None
admits x views h = (h.0, λ seat k at. ⊎_elim (h.1 seat k) (λ (e : None ≡ Some k). absurd cc) (at_snoc views None (Some k) seat at))

-- a step that only adds to the list keeps the rule
pub turns : (pass : ℕ) (v : Option Known) (x y : ViewCopy) → IsSound y → x.seen.book ≡ y.seen.book → x.pages ≡ y.pages → IsPrefix x.seen.log y.seen.log → TurnsAt Holds pass v x y Sees
turns pass v x y sound book pages pre views h at =
    let grows : (k : Known) → IsFrontOf x k → IsFrontOf y k = λ k f. (f.0 ∙ book, f.1 ∙ pages, prefix_trans k.seen.log x.seen.log y.seen.log f.2 pre) in
    let own : (k : Known) → knowing y ≡ Some k → IsFrontOf y k = λ k e. (let same : known_of y ≡ k = cc e in subst (IsFrontOf y) same (refl, refl, prefix_self y.seen.log)) in (
      knowing y,
      (
        sound,
        λ seat k e. ⊎_elim (λ (t : (seat ≡ pass) × (knowing y ≡ Some k)). own k t.1) (λ (t : (seat ≢ pass) × (get_elem? views seat ≡ some (Some k))). grows k (h.1 seat k t.1))
            (at_set views pass seat (knowing y) (Some k) e),
      ),
      (refl, sound, λ k is. grows k (h.1 pass k (at ∙ ap some is))),
    )

-- an entry
pub enters : (pass : ℕ) (v : Option Known) (x : ViewCopy) → TurnsAt Holds pass v x x Sees
enters pass v x views h at = turns pass v x x h.0 refl refl (prefix_self x.seen.log) views h at

abbrev pub state_of : ViewCopy → State
state_of s = record { pages = s.pages; listed = s.listed; list = s.list.items; seen = s.seen }

-- a publish, by what both copies have after it
pub turns_by : (pass : ℕ) (v : Option Known) (x y : ViewCopy) (s : State) → state_of y ≡ s → s.seen.log ≡ s.list → AreCommits s.list → x.seen.book ≡ s.seen.book → x.pages ≡ s.pages → IsPrefix x.seen.log s.seen.log → TurnsAt Holds pass v x y Sees
turns_by pass v x y s is sound commits book pages pre =
    let list : y.list.items ≡ s.list = ap (λ (t : State). t.list) is in
    let log : y.seen.log ≡ s.seen.log = ap (λ (t : State). t.seen.log) is in
    let number : y.seen.book ≡ s.seen.book = ap (λ (t : State). t.seen.book) is in
    let size : y.pages ≡ s.pages = ap (λ (t : State). t.pages) is in
    turns pass v x y (log ∙ (sound ∙ sym list), subst AreCommits (sym list) commits) (book ∙ sym number) (pages ∙ sym size) (subst (λ (l : List Commit). IsPrefix x.seen.log l) (sym log) pre)

pub forks : (pass : ℕ) (v : Option Known) → Forks Holds pass v v v
forks pass v x views h at = (
  h.0,
  λ seat k e. ⊎_elim
      (λ (in_views : get_elem? (lib.ListN.set views pass v) seat ≡ some (Some k)).
      ⊎_elim (λ (t : (seat ≡ pass) × (v ≡ Some k)). h.1 pass k (at ∙ ap some t.1)) (λ (t : (seat ≢ pass) × (get_elem? views seat ≡ some (Some k))). h.1 seat k t.1) (at_set views pass seat v (Some k) in_views))
      (λ (same : v ≡ Some k). h.1 pass k (at ∙ ap some same))
      (at_snoc (lib.ListN.set views pass v) v (Some k) seat e),
)

pub merges : (pass : ℕ) (v : Option Known) (other : ℕ) (w : Option Known) → Merges Holds pass v other w w None
merges pass v other w x views h at apart there =
    let first : (k : Known) → w ≡ Some k → IsFrontOf x k = λ k is.
    ⊎_elim (λ (t : (other ≡ pass) × (w ≡ w)). absurd (apart t.0)) (λ (t : (other ≢ pass) × (get_elem? views other ≡ some w)). h.1 other k (t.1 ∙ ap some is)) (at_set views pass other w w there) in (
      h.0,
      λ seat k e. ⊎_elim
          (λ (t : (seat ≡ other) × (None ≡ Some k)). absurd (cc (t.1)))
          (λ (t : (seat ≢ other) × (get_elem? (lib.ListN.set views pass w) seat ≡ some (Some k))).
          ⊎_elim (λ (u : (seat ≡ pass) × (w ≡ Some k)). first k u.1) (λ (u : (seat ≢ pass) × (get_elem? views seat ≡ some (Some k))). h.1 seat k u.1) (at_set views pass seat w (Some k) t.1))
          (at_set (lib.ListN.set views pass w) other seat None (Some k) e),
    )
