-- What a crash leaves of an engine, from what it leaves of the store.
use Rattle.std.proofs.Common.{◌≡◌, ◌⊎◌, ℕ, ◌≤◌, cond, List, [], Option, Some, None, refl, sym, ap, subst}
use Rattle.std.proofs.Common.{◌∙◌, inl, inr, arith}
use Rattle.std.specs.Prelude.{is_some}
use Rattle.als_record.specs.LogText.{end_of}
use Rattle.als_view.specs.Showing.{View, IsWarming, count_of, published_of}
use Rattle.als_store.specs.Stored.{Stored}
use Rattle.als_store.specs.Opening.{IsOpened, TakesUp}
use Rattle.als_store.specs.Warm.{now_of}
use Rattle.als_engine.specs.Config.{IsConfig}
use Rattle.als_engine.specs.Readers.{count_in}
use Rattle.als_engine.proofs.FeedLaws.{machine}
use Rattle.als_disk.specs.Slot.{Slot}
use Rattle.als_reopen.specs.Node.{Node, IsNode}
use Rattle.als_reopen.specs.declared.fault.Fault.{Fault as OpenFault}
use Rattle.als_reopen.specs.Outcomes.{AreSettled, IsBare}
use Rattle.als_store.specs.Leaving.{HoldsLeft}
use Rattle.als_engine.specs.declared.config.Config.{Config}
use Rattle.als_engine.specs.declared.fault.Fault.{Fault}
use Rattle.als_engine.specs.declared.fault.Fault.TheVariants as fault
use Rattle.als_engine.specs.Faults.{from_open}
use Rattle.als_engine.specs.Machine.{Machine}
use Rattle.als_engine.specs.Restarts.{IsWarm, IsMadeWith, Holds, Leaves, IsStarted, IsRestarted}

pub crash_leaves : (m : Machine) (config : Config) (log_blocks control_blocks page_blocks : ℕ)
    (log control pages : ℕ → Slot) → IsMadeWith config m → HoldsLeft m.held log control pages
    → AreSettled log → AreSettled control → AreSettled pages → log_blocks ≡ m.held.blocks
    → 1 ≤ m.held.blocks → m.held.blocks ≤ 4194304 → 321 ≤ control_blocks
    → m.held.pages ≤ page_blocks
    → (n : Node) × Leaves m n
    × Holds config log_blocks control_blocks page_blocks log control pages n
crash_leaves m config log_blocks control_blocks page_blocks log control pages made left log_settled control_settled pages_settled is some few controls page_room = (
  left.node,
  record { may = left.may; ends = left.holds.held.ends },
  record {
    large = record {
      numbers = made.numbers;
      some_blocks = omega (arith, is, some);
      few_blocks =
          omega (arith, is, few);
      control_blocks = controls;
      page_blocks =
          omega (arith, made.pages, page_room);
    };
    log_settled = log_settled;
    control_settled = control_settled;
    pages_settled = pages_settled;
    node = subst (λ (b : ℕ). IsNode config.pages b log control pages left.node) (sym is)
        (subst (λ (p : ℕ). IsNode p m.held.blocks log control pages left.node) made.pages
        left.holds);
  },
)

-- ---- an engine that begins again

-- over whatever the devices held
pub restarted : (config : Config) (held from : Stored) (view waiting : View) (partial : List ℕ)
    (blocks failures attempts : ℕ) → IsConfig config → held ≡ from → view ≡ waiting
    → IsOpened config.pages blocks failures attempts from → IsWarming config.pages from.log waiting
    → partial ≡ [] → IsRestarted config blocks failures attempts
    (machine held config.pending partial None (published_of view))
restarted config held from view waiting partial blocks failures attempts numbers same shown o w
    none =
    let o_held : IsOpened config.pages blocks failures attempts held =
    subst (λ (h : Stored). IsOpened config.pages blocks failures attempts h) (sym same) o in
    let unlisted : published_of view ≡ None =
    ap (λ (v : View). published_of v) shown ∙ ap count_of w.unlisted in
    record {
      made = record {
        numbers = numbers;
        pages = ap (λ (h : Stored). h.pages) o_held.is;
        limit =
            refl;
      };
      held = o_held;
      partial = none;
      refused = refl;
      listed = ap (λ (n : Option ℕ). is_some n) unlisted;
      published = ap (λ (n : Option ℕ). count_in n) unlisted;
    }

-- and over devices that held a node
pub started : (config : Config) (n : Node) (m : Machine) (blocks failures attempts : ℕ)
    → IsRestarted config blocks failures attempts m → TakesUp n m.held → n.blocks ≡ blocks
    → m.held.pool.frames.most ≡ config.frames → IsStarted config n m
started config n m blocks failures attempts r t counted most = record {
  made = r.made;
  warm = t.warm;
  blocks = ap (λ (h : Stored). h.blocks) r.held.is ∙ sym counted;
  log = t.log;
  control = t.control;
  held = t.held;
  frames = most;
  count = r.held.count;
  queues = t.queues;
  rows = t.rows;
  unlent = r.held.unlent;
  numbered = r.held.numbered;
  origin = ap (λ (h : Stored). h.origin) r.held.is
      ∙ sym (ap (λ (h : Stored). now_of h) r.held.is);
  since = ap (λ (h : Stored). h.since) r.held.is;
  begun = ap (λ (h : Stored). h.begun) r.held.is;
  running = ap (λ (h : Stored). h.broken) r.held.is;
  recovering = ap (λ (h : Stored). h.recovering) r.held.is;
  written = ap (λ (h : Stored). h.written) r.held.is ∙ ap end_of t.log;
  synced = ap (λ (h : Stored). h.synced) r.held.is ∙ ap end_of t.log;
  partial = r.partial;
  refused = r.refused;
  listed = r.listed;
  published = r.published;
}

-- a failed device and want of memory keep their names
pub bare_or : {X : Type 0} (cause : OpenFault) (answer : Fault) → answer ≡ from_open cause
    → IsBare cause ⊎ X → ((answer ≡ fault.Device) ⊎ (answer ≡ fault.Memory)) ⊎ X
bare_or cause answer is (inl (inl e)) = inl (inl (is ∙ ap from_open e))
bare_or cause answer is (inl (inr e)) = inl (inr (is ∙ ap from_open e))
bare_or cause answer is (inr x) = inr x
