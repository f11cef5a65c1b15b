use Rattle.std.proofs.Common.{ap, ◌∙◌}
use Rattle.als_ckpt.proofs.StateLaws.{MarksRise-to, Contains-head}
use Rattle.als_ckpt.specs.Writes.{states_of}
use Rattle.als_ckpt.specs.Control.{Controlled}
use Rattle.als_ckpt.proofs.KeepingLaws.{IsKeeping-same, IsKeeping-synced}
use Rattle.als_ckpt.proofs.control.Control.sync.Goals as goal

pub invariant_of-self : goal.invariant_of-self
invariant_of-self g c =
    rw c.in_err-sync.ensures.count (IsKeeping-same _ _ _ _ _ _ _ _ _ _ _ c.self.invariant c.in_err-sync.ensures.err)

pub invariant_of-self-2 : goal.invariant_of-self-2
invariant_of-self-2 g c =
    let sure = ap (λ (v : Controlled). v.sure) c.self.view_is ∙ c.requires in
    rw (c.in_ok-sync.ensures.count, c.note_synced.ensures, c.none-self-inside.ensures.states, c.none-self-inside.ensures.sure)
    (IsKeeping-synced _ _ _ _ _ _ _ _ _ _ _ c.self.invariant sure (g.met.D.BlockDisk.gives_candidates c.self.inside.disk) c.in_ok-sync.ensures.ok)

pub returns-clause-rises : goal.returns-clause-rises
returns-clause-rises g c =
    let s = c.self.inside in
    rw (← c.self.view_is) (MarksRise-to s.synced (states_of s.writes) s.synced c.self.invariant.states.rising (Contains-head s.synced (states_of s.writes)))
