use Rattle.std.proofs.Common.{◌∷◌, []}
use Rattle.std.proofs.lemmas.Result.{err_from_is_err_and}
use Rattle.als_wire.specs.declared.frame.Frame.TheVariants.{Epochs}
use Rattle.als_ship.specs.Sessions.{Joins}
use Rattle.als_ship.proofs.HistoryFronts.{takes_up_front}
use Rattle.als_ship.proofs.LogForcing.{same_refl}
use Rattle.als_ship.proofs.Sessions.{keeps_nothing, keeps_handled}
use Rattle.als_ship.proofs.Stopping.{joins_unread, joins_refused}
use Rattle.als_ship.proofs.joining.join.Goals as goal

pub returns-in_err-offered-clause-front : goal.returns-in_err-offered-clause-front
returns-in_err-offered-clause-front g c =
    let m = g.E.Events.machine c.args.events.now in
    (g.R.Read.remaining c.args.reader.now, keeps_nothing g.E.Events.alone (g.R.Read.remaining c.args.reader.now) m m (λ a. same_refl m))

pub returns-in_err-offered-clause-fails : goal.returns-in_err-offered-clause-fails
returns-in_err-offered-clause-fails g c =
    let found = joins_unread g.E.Events.alone (g.E.Events.machine c.args.events.now) c.in_err-offered.field-0.0 (g.R.Read.remaining c.args.reader.now) (g.R.Read.remaining c.read_epochs.new.reader) c.in_err-offered.ensures.fails in
    let p = err_from_is_err_and c.from_residual.result c.from_residual.ensures.1 in rw (p.1, p.2) found

pub returns-in_err-take_up-clause-front : goal.returns-in_err-take_up-clause-front
returns-in_err-take_up-clause-front g c =
    let old = g.E.Events.machine c.args.events.now in
    let new = g.E.Events.machine c.take_up.new.events in
    let before = g.R.Read.remaining c.args.reader.now in
    let behind = g.R.Read.remaining c.read_epochs.new.reader in
    let offered = c.in_ok-offered.offered in
    (behind, keeps_handled g.E.Events.alone before behind old new new (Epochs offered) c.in_ok-offered.ensures.found.1 (λ a texts seals epochs holds h. takes_up_front texts seals old new offered c.take_up.result epochs holds (c.take_up.ensures.takes a) h) (λ a. same_refl new))

pub returns-in_err-take_up-clause-fails : goal.returns-in_err-take_up-clause-fails
returns-in_err-take_up-clause-fails g c =
    let old = g.E.Events.machine c.args.events.now in
    let new = g.E.Events.machine c.take_up.new.events in
    let found = joins_refused g.E.Events.alone old new c.in_err-take_up.field-0.0 c.in_ok-offered.offered (g.R.Read.remaining c.args.reader.now) (g.R.Read.remaining c.read_epochs.new.reader) c.in_ok-offered.ensures.found.0 c.in_ok-offered.ensures.found.1 c.in_err-take_up.ensures.takes c.in_err-take_up.ensures.says in
    let p = err_from_is_err_and c.from_residual-in_err-take_up.result c.from_residual-in_err-take_up.ensures.1 in rw (p.1, p.2) found

pub returns-clause-front : goal.returns-clause-front
returns-clause-front g c =
    let old = g.E.Events.machine c.args.events.now in
    let new = g.E.Events.machine c.take_up.new.events in
    let before = g.R.Read.remaining c.args.reader.now in
    let behind = g.R.Read.remaining c.read_epochs.new.reader in
    let offered = c.in_ok-offered.offered in
    (behind, keeps_handled g.E.Events.alone before behind old new new (Epochs offered) c.in_ok-offered.ensures.found.1 (λ a texts seals epochs holds h. takes_up_front texts seals old new offered c.take_up.result epochs holds (c.take_up.ensures.takes a) h) (λ a. same_refl new))

pub returns-clause-ok : goal.returns-clause-ok
returns-clause-ok g c = record {
  offered = c.in_ok-offered.offered;
  history = c.in_ok-offered.ensures.found.0;
  read = c.in_ok-offered.ensures.found.1;
  taken = λ a. (c.in_ok-take_up.field-0, c.in_ok-take_up.ensures.takes a);
}
