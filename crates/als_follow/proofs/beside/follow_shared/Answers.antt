use Rattle.std.proofs.Common.{sym, subst, ◌∙◌, ap}
use Rattle.std.specs.Prelude.{Some}
use Rattle.als_store.specs.Stored.{acknowledged}
use Rattle.als_share.specs.Reaching.{ReachesFrom, FollowsFrom}
use Rattle.als_share.specs.Ledgers.{CountsNoTakeover}
use Rattle.als_share.proofs.Reached.{from-none}
use Rattle.als_share.proofs.Following.{follows-none, counts_none}
use Rattle.als_ship.specs.Vouching.{TellsVouched}
use Rattle.als_ship.proofs.Vouching.{told_higher}
use Rattle.als_follow.proofs.Following.{told_same, asked_again}
use Rattle.als_follow.proofs.beside.follow_shared.Goals as goal

pub returns-in_default-clause-reached : goal.returns-in_default-clause-reached
returns-in_default-clause-reached g c = λ alone.
    subst (λ e. ReachesFrom g.L.Ledgers.start (g.E.Events.machine e)) (sym c.not_followed.ensures.engine) (from-none g.L.Ledgers.start _ (c.requires.start ∙ ap Some (sym c.counted-engine.ensures.machine)))

pub returns-in_default-clause-vouched : goal.returns-in_default-clause-vouched
returns-in_default-clause-vouched g c = λ alone.
    told_same g.O.Write.contents (acknowledged (g.E.Events.machine c.not_followed.result.engine).held) c.args.writer c.not_followed.result.writer c.not_followed.ensures.writer

pub returns-clause-reached : goal.returns-clause-reached
returns-clause-reached g c = λ alone.
    subst (λ e. ReachesFrom g.L.Ledgers.start (g.E.Events.machine e)) (sym (c.not_followed-in-Err.ensures.engine ∙ c.in-Err.ensures.back)) (from-none g.L.Ledgers.start _ (c.requires.start ∙ ap Some (sym c.counted-engine.ensures.machine)))

pub returns-clause-book : goal.returns-clause-book
returns-clause-book g c = ap g.E.Events.book (c.not_followed-in-Err.ensures.engine ∙ c.in-Err.ensures.back) ∙ c.counted-engine.ensures.book ∙ sym c.requires.book

pub returns-clause-vouched : goal.returns-clause-vouched
returns-clause-vouched g c = λ alone.
    told_same g.O.Write.contents (acknowledged (g.E.Events.machine c.not_followed-in-Err.result.engine).held) c.args.writer c.not_followed-in-Err.result.writer c.not_followed-in-Err.ensures.writer

pub returns-in-Ok-share-clause-vouched : goal.returns-in-Ok-share-clause-vouched
returns-in-Ok-share-clause-vouched g c = λ alone.
    let session = c.coordinate-session.result.session in
    let old = g.O.Write.contents c.args.writer in
    let new = g.O.Write.contents session.writer in
    subst (λ e. TellsVouched (acknowledged (g.E.Events.machine e).held) old new) (sym c.checked-engine.ensures.same)
    (told_higher session.acknowledger (acknowledged (g.E.Events.machine c.settle-engine.result.engine).held) old new (c.settle-engine.ensures.floor alone) c.coordinate-session.ensures.vouched)

pub returns-in-Ok-share-clause-answered : goal.returns-in-Ok-share-clause-answered
returns-in-Ok-share-clause-answered g c =
    let session = c.coordinate-session.result.session in
    asked_again g.I.Read.remaining g.O.Write.contents c.args.reader session.reader c.args.writer session.writer c.coordinate-session.result.ended c.checked-engine.result.1 c.coordinate-session.ensures.answered c.checked-engine.ensures.ok

pub returns-in-Ok-share-clause-reader : goal.returns-in-Ok-share-clause-reader
returns-in-Ok-share-clause-reader g c = λ none. c.coordinate-session.ensures.reader (c.checked-engine.ensures.none none)

pub returns-in-Ok-share-clause-writer : goal.returns-in-Ok-share-clause-writer
returns-in-Ok-share-clause-writer g c = λ none. c.coordinate-session.ensures.writer (c.checked-engine.ensures.none none)

-- ---- without events of a takeover

pub returns-in_default-clause-follows : goal.returns-in_default-clause-follows
returns-in_default-clause-follows g c = λ alone.
    subst (λ e. FollowsFrom g.L.Ledgers.start (g.E.Events.machine e)) (sym c.not_followed.ensures.engine) (follows-none g.L.Ledgers.start _ (c.requires.start ∙ ap Some (sym c.counted-engine.ensures.machine)))

pub returns-clause-follows : goal.returns-clause-follows
returns-clause-follows g c = λ alone.
    subst (λ e. FollowsFrom g.L.Ledgers.start (g.E.Events.machine e)) (sym (c.not_followed-in-Err.ensures.engine ∙ c.in-Err.ensures.back)) (follows-none g.L.Ledgers.start _ (c.requires.start ∙ ap Some (sym c.counted-engine.ensures.machine)))

pub returns-in-Ok-share-clause-follows : goal.returns-in-Ok-share-clause-follows
returns-in-Ok-share-clause-follows g c = λ alone.
    subst (λ e. FollowsFrom g.L.Ledgers.start (g.E.Events.machine e)) (sym c.checked-engine.ensures.same) (c.settle-engine.ensures.follows c.requires.takes_over alone)

pub returns-in_default-clause-counted : goal.returns-in_default-clause-counted
returns-in_default-clause-counted g c = counts_none _ (ap g.E.Events.tally c.not_followed.ensures.engine ∙ c.counted-engine.ensures.tally)

pub returns-clause-counted : goal.returns-clause-counted
returns-clause-counted g c = counts_none _ (ap g.E.Events.tally (c.not_followed-in-Err.ensures.engine ∙ c.in-Err.ensures.back) ∙ c.counted-engine.ensures.tally)

pub returns-in-Ok-share-clause-counted : goal.returns-in-Ok-share-clause-counted
returns-in-Ok-share-clause-counted g c =
    subst (λ e. CountsNoTakeover (g.E.Events.tally e)) (sym c.checked-engine.ensures.same) (c.settle-engine.ensures.none c.requires.takes_over)

-- ---- the machine, where no frame was asked for

pub returns-in_default-clause-machine : goal.returns-in_default-clause-machine
returns-in_default-clause-machine g c = λ none.
    c.requires.start ∙ ap Some (sym c.counted-engine.ensures.machine) ∙ ap (λ e. Some (g.E.Events.machine e)) (sym c.not_followed.ensures.engine)

pub returns-clause-machine : goal.returns-clause-machine
returns-clause-machine g c = λ none.
    c.requires.start ∙ ap Some (sym c.counted-engine.ensures.machine) ∙ ap (λ e. Some (g.E.Events.machine e)) (sym (c.not_followed-in-Err.ensures.engine ∙ c.in-Err.ensures.back))

pub returns-in-Ok-share-clause-machine : goal.returns-in-Ok-share-clause-machine
returns-in-Ok-share-clause-machine g c = λ none.
    c.settle-engine.ensures.untouched (c.checked-engine.ensures.untouched none) ∙ ap (λ e. Some (g.E.Events.machine e)) (sym c.checked-engine.ensures.same)
