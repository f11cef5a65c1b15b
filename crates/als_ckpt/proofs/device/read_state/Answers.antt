use Rattle.std.proofs.Common.{◌≡◌, Some, None}
use Rattle.als_ckpt.proofs.DeviceLaws.{HoldsState-read, Spells-held}
use Rattle.als_ckpt.proofs.device.read_state.Goals as goal

pub returns-in-Some-clause-found : goal.returns-in-Some-clause-found
returns-in-Some-clause-found g c =
    let slot = g.D.BlockDisk.slot c.args.disk.now 0 in (
      HoldsState-read c.args.pages slot c.read.new.into c.in-Some.state c.in_ok-read.ensures.ok c.requires.settled c.in-Some.ensures.found.0,
      c.in-Some.ensures.found.1,
    )

pub returns-in-Some-clause-only : goal.returns-in-Some-clause-only
returns-in-Some-clause-only g c = λ s fits holds.
    let slot = g.D.BlockDisk.slot c.args.disk.now 0 in
    let found : c.decode.result ≡ Some s = c.decode.ensures.only s fits (Spells-held c.args.pages slot c.read.new.into s c.in_ok-read.ensures.ok holds) in
    let was : c.decode.result ≡ Some c.in-Some.state = c.in-Some.is in
    cc (found, was)

pub returns-in-None-clause-bad_control : goal.returns-in-None-clause-bad_control
returns-in-None-clause-bad_control g c = λ bad. (
  c.in_ok-read.ensures.failures,
  λ s fits holds.
      let slot = g.D.BlockDisk.slot c.args.disk.now 0 in
      let found : c.decode.result ≡ Some s = c.decode.ensures.only s fits (Spells-held c.args.pages slot c.read.new.into s c.in_ok-read.ensures.ok holds) in
      let none : c.decode.result ≡ None = c.in-None.is in
      absurd (cc (found, none)),
)
