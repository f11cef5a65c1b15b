use Rattle.std.proofs.Common.{◌≡◌, sym, subst, arith}
use Rattle.als_record.specs.Spelling.{IsRecord}
use Rattle.als_record.specs.LogText.{end_of}
use Rattle.als_record.specs.Shown.{shown}
use Rattle.als_log.specs.Local.{Local, HasRoomFor}
use Rattle.als_log.proofs.Keeping.{held-push}
use Rattle.als_log.proofs.local_log.LocalLog.append_spelled.Goals as goal

pub invariant_of-self : goal.invariant_of-self
invariant_of-self g c =
    let logged = subst (λ (l : Local). IsRecord l.pages (shown c.args.logged.now)) (sym c.self.view_is) c.requires.fits in
    let placed = subst (λ (l : Local). (shown c.args.logged.now).lsn.0 ≡ end_of l.log) (sym c.self.view_is) c.requires.place in
    let room : HasRoomFor c.args.self.now c.spelled_len.result c.args.reserve_after = c.fits.ensures.0 c.if-not-fits.false in
    let here = subst (λ (l : Local). HasRoomFor l c.spelled_len.result c.args.reserve_after) (sym c.self.view_is) room in
    rw (c.push_view.ensures, c.in-Ok.ensures.ok) (held-push c.self.invariant (shown c.args.logged.now) logged placed (omega (arith, here, c.spelled_len.ensures)))
