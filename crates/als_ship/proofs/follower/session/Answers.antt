use Rattle.std.proofs.Common.{refl, inl, inr, arith, ap}
use Rattle.std.proofs.lemmas.Result.{err_from_is_err_and}
use Rattle.als_ship.proofs.Stopping.{stops_at_once}
use Rattle.als_ship.proofs.LogForcing.{same_refl}
use Rattle.als_ship.proofs.Sessions.{keeps_nothing, keeps_both, keeps_joined, nothing_so_far, more_so_far, keeps_so_far, asks_as, follows_all, stops_early, tells_nothing}
use Rattle.als_ship.proofs.Vouching.{answers_none, answers_more, told_resume, told_all, told_last, told_part}
use Rattle.als_ship.specs.declared.fault.Fault.TheVariants.{Stream}
use Rattle.als_ship.proofs.follower.session.Goals as goal

pub returns-in_err-ask-clause-front : goal.returns-in_err-ask-clause-front
returns-in_err-ask-clause-front g c =
    let m = g.E.Events.machine c.args.events.now in
    (g.R.Read.remaining c.args.reader.now, keeps_nothing g.E.Events.alone (g.R.Read.remaining c.args.reader.now) m m (λ a. same_refl m))

pub returns-in_err-join-clause-front : goal.returns-in_err-join-clause-front
returns-in_err-join-clause-front g c = c.join.ensures.front

pub loop-init : goal.loop-init
loop-init g c = (
  nothing_so_far g.E.Events.alone (g.R.Read.remaining c.join.new.reader) (g.W.Write.contents c.ask.new.writer) (g.E.Events.machine c.join.new.events),
  answers_none (g.V.Voucher.floor c.args.voucher.now) (g.W.Write.contents c.ask.new.writer),
  omega arith,
)

pub returns-in_err-last-clause-front : goal.returns-in_err-last-clause-front
returns-in_err-last-clause-front g c =
    let alone = g.E.Events.alone in
    let first = g.R.Read.remaining c.args.reader.now in
    let before = g.R.Read.remaining c.join.new.reader in
    let between = g.R.Read.remaining c.loop.reader in
    let behind = g.R.Read.remaining c.turn.new.reader in
    let written = g.W.Write.contents c.ask.new.writer in
    let then = g.W.Write.contents c.loop.writer in
    let more = g.W.Write.contents c.turn.new.writer in
    let start = g.E.Events.machine c.args.events.now in
    let old = g.E.Events.machine c.join.new.events in
    let mid = g.E.Events.machine c.loop.events in
    let new = g.E.Events.machine c.turn.new.events in
    let kept = c.turn.ensures.front in
    (kept.0, keeps_both alone first before kept.0 start old new (keeps_joined alone first before start old c.in_ok-join.ensures.ok) (keeps_both alone before between kept.0 old mid new (keeps_so_far alone before between written then old mid c.loop.invariant.0) kept.1))

pub returns-then-last-clause-done : goal.returns-then-last-clause-done
returns-then-last-clause-done g c =
    let alone = g.E.Events.alone in
    let first = g.R.Read.remaining c.args.reader.now in
    let before = g.R.Read.remaining c.join.new.reader in
    let between = g.R.Read.remaining c.loop.reader in
    let behind = g.R.Read.remaining c.turn.new.reader in
    let written = g.W.Write.contents c.ask.new.writer in
    let then = g.W.Write.contents c.loop.writer in
    let more = g.W.Write.contents c.turn.new.writer in
    let start = g.E.Events.machine c.args.events.now in
    let old = g.E.Events.machine c.join.new.events in
    let mid = g.E.Events.machine c.loop.events in
    let new = g.E.Events.machine c.turn.new.events in
    follows_all alone c.args.header c.status.result.end c.history-own.result c.in_ok-last.last first before between behind (g.W.Write.contents c.args.writer.now) written then more start old mid new c.in_ok-ask.ensures.all
    (asks_as alone start c.status.result.end c.history-own.result (λ a. (c.status.ensures.tells a).end) c.history-own.ensures.history) c.in_ok-join.ensures.ok c.loop.invariant.0 c.if-last.true c.in_ok-last.ensures.ok

pub returns-then-last-clause-front : goal.returns-then-last-clause-front
returns-then-last-clause-front g c =
    let alone = g.E.Events.alone in
    let first = g.R.Read.remaining c.args.reader.now in
    let before = g.R.Read.remaining c.join.new.reader in
    let between = g.R.Read.remaining c.loop.reader in
    let behind = g.R.Read.remaining c.turn.new.reader in
    let written = g.W.Write.contents c.ask.new.writer in
    let then = g.W.Write.contents c.loop.writer in
    let more = g.W.Write.contents c.turn.new.writer in
    let start = g.E.Events.machine c.args.events.now in
    let old = g.E.Events.machine c.join.new.events in
    let mid = g.E.Events.machine c.loop.events in
    let new = g.E.Events.machine c.turn.new.events in
    (behind, keeps_both alone first before behind start old new (keeps_joined alone first before start old c.in_ok-join.ensures.ok) (keeps_so_far alone before behind written more old new (more_so_far alone c.in_ok-last.last before between behind written then more old mid new c.loop.invariant.0 c.in_ok-last.ensures.ok)))

pub loop-preserved : goal.loop-preserved
loop-preserved g c =
    let alone = g.E.Events.alone in
    let first = g.R.Read.remaining c.args.reader.now in
    let before = g.R.Read.remaining c.join.new.reader in
    let between = g.R.Read.remaining c.loop.reader in
    let behind = g.R.Read.remaining c.turn.new.reader in
    let written = g.W.Write.contents c.ask.new.writer in
    let then = g.W.Write.contents c.loop.writer in
    let more = g.W.Write.contents c.turn.new.writer in
    let start = g.E.Events.machine c.args.events.now in
    let old = g.E.Events.machine c.join.new.events in
    let mid = g.E.Events.machine c.loop.events in
    let new = g.E.Events.machine c.turn.new.events in (
      more_so_far alone c.in_ok-last.last before between behind written then more old mid new c.loop.invariant.0 c.in_ok-last.ensures.ok,
      answers_more (g.V.Voucher.floor c.loop.voucher) (g.V.Voucher.floor c.turn.new.voucher) written then more c.turn.ensures.rises c.loop.invariant.1 c.in_ok-last.ensures.answers,
      omega (arith, c.loop.invariant.2, c.turn.ensures.rises),
    )

pub returns-clause-front : goal.returns-clause-front
returns-clause-front g c =
    let alone = g.E.Events.alone in
    let first = g.R.Read.remaining c.args.reader.now in
    let before = g.R.Read.remaining c.join.new.reader in
    let between = g.R.Read.remaining c.loop.reader in
    let start = g.E.Events.machine c.args.events.now in
    let old = g.E.Events.machine c.join.new.events in
    let mid = g.E.Events.machine c.loop.events in
    (between, keeps_both alone first before between start old mid (keeps_joined alone first before start old c.in_ok-join.ensures.ok) (keeps_so_far alone before between (g.W.Write.contents c.ask.new.writer) (g.W.Write.contents c.loop.writer) old mid c.loop.invariant.0))

pub returns-in_err-ask-clause-fails : goal.returns-in_err-ask-clause-fails
returns-in_err-ask-clause-fails g c =
    let asks = asks_as g.E.Events.alone (g.E.Events.machine c.args.events.now) c.status.result.end c.history-own.result (λ a. (c.status.ensures.tells a).end) c.history-own.ensures.history in
    let found = inl (record { from = c.status.result.end; seals = c.history-own.result; asks = asks; failed = c.in_err-ask.ensures.fails; told = c.ask.ensures.part; same = λ a. refl }) in
    let p = err_from_is_err_and c.from_residual.result c.from_residual.ensures.1 in rw (p.1, p.2) found

pub returns-in_err-join-clause-fails : goal.returns-in_err-join-clause-fails
returns-in_err-join-clause-fails g c =
    let asks = asks_as g.E.Events.alone (g.E.Events.machine c.args.events.now) c.status.result.end c.history-own.result (λ a. (c.status.ensures.tells a).end) c.history-own.ensures.history in
    let found = inr (inl (record { from = c.status.result.end; seals = c.history-own.result; asks = asks; told = c.in_ok-ask.ensures.all; behind = g.R.Read.remaining c.join.new.reader; fails = c.in_err-join.ensures.fails })) in
    let p = err_from_is_err_and c.from_residual-in_err-join.result c.from_residual-in_err-join.ensures.1 in rw (p.1, p.2) found

pub returns-in_err-last-clause-fails : goal.returns-in_err-last-clause-fails
returns-in_err-last-clause-fails g c =
    let alone = g.E.Events.alone in
    let first = g.R.Read.remaining c.args.reader.now in
    let before = g.R.Read.remaining c.join.new.reader in
    let between = g.R.Read.remaining c.loop.reader in
    let asking = g.W.Write.contents c.args.writer.now in
    let written = g.W.Write.contents c.ask.new.writer in
    let then = g.W.Write.contents c.loop.writer in
    let more = g.W.Write.contents c.turn.new.writer in
    let start = g.E.Events.machine c.args.events.now in
    let old = g.E.Events.machine c.join.new.events in
    let mid = g.E.Events.machine c.loop.events in
    let new = g.E.Events.machine c.turn.new.events in
    let asks = asks_as alone start c.status.result.end c.history-own.result (λ a. (c.status.ensures.tells a).end) c.history-own.ensures.history in
    let found = stops_early alone g.U.Upkeep.refuses c.args.header c.status.result.end c.history-own.result first before between (g.R.Read.remaining c.turn.new.reader) asking written then more start old mid new c.in_err-last.field-0.0 c.in_ok-ask.ensures.all asks c.in_ok-join.ensures.ok c.loop.invariant.0 c.in_err-last.ensures.fails c.in_err-last.ensures.part in
    let p = err_from_is_err_and c.from_residual-in_err-last.result c.from_residual-in_err-last.ensures.1 in rw (p.1, p.2) found

pub returns-clause-fails : goal.returns-clause-fails
returns-clause-fails g c =
    let alone = g.E.Events.alone in
    let first = g.R.Read.remaining c.args.reader.now in
    let before = g.R.Read.remaining c.join.new.reader in
    let between = g.R.Read.remaining c.loop.reader in
    let asking = g.W.Write.contents c.args.writer.now in
    let written = g.W.Write.contents c.ask.new.writer in
    let then = g.W.Write.contents c.loop.writer in
    let start = g.E.Events.machine c.args.events.now in
    let old = g.E.Events.machine c.join.new.events in
    let m = g.E.Events.machine c.loop.events in
    let asks = asks_as alone start c.status.result.end c.history-own.result (λ a. (c.status.ensures.tells a).end) c.history-own.ensures.history in
    stops_early alone g.U.Upkeep.refuses c.args.header c.status.result.end c.history-own.result first before between between asking written then then start old m m Stream c.in_ok-ask.ensures.all asks c.in_ok-join.ensures.ok c.loop.invariant.0 (stops_at_once alone g.U.Upkeep.refuses m Stream between refl) (tells_nothing alone m m between between then)

pub returns-in_err-ask-clause-vouched : goal.returns-in_err-ask-clause-vouched
returns-in_err-ask-clause-vouched g c =
    told_resume (g.V.Voucher.floor c.args.voucher.now) c.status.result.end.0 c.args.header.pages c.history-own.result (g.W.Write.contents c.args.writer.now) (g.W.Write.contents c.ask.new.writer) (c.ask.ensures.low, c.ask.ensures.narrow, c.ask.ensures.history) c.ask.ensures.part

pub returns-in_err-join-clause-vouched : goal.returns-in_err-join-clause-vouched
returns-in_err-join-clause-vouched g c =
    told_all (g.V.Voucher.floor c.args.voucher.now) c.status.result.end.0 c.args.header.pages c.history-own.result (g.W.Write.contents c.args.writer.now) (g.W.Write.contents c.ask.new.writer) (g.W.Write.contents c.ask.new.writer) (c.ask.ensures.low, c.ask.ensures.narrow, c.ask.ensures.history) c.in_ok-ask.ensures.all
    (answers_none (g.V.Voucher.floor c.args.voucher.now) (g.W.Write.contents c.ask.new.writer))

pub returns-in_err-last-clause-vouched : goal.returns-in_err-last-clause-vouched
returns-in_err-last-clause-vouched g c =
    told_part (g.V.Voucher.floor c.loop.voucher) (g.V.Voucher.floor c.turn.new.voucher) c.status.result.end.0 c.args.header.pages c.history-own.result (g.W.Write.contents c.args.writer.now) (g.W.Write.contents c.ask.new.writer) (g.W.Write.contents c.loop.writer) (g.W.Write.contents c.turn.new.writer) c.turn.ensures.rises (c.ask.ensures.low, c.ask.ensures.narrow, c.ask.ensures.history) c.in_ok-ask.ensures.all c.loop.invariant.1 c.in_err-last.ensures.begins

pub returns-then-last-clause-vouched : goal.returns-then-last-clause-vouched
returns-then-last-clause-vouched g c =
    told_last (g.V.Voucher.floor c.loop.voucher) (g.V.Voucher.floor c.turn.new.voucher) c.status.result.end.0 c.args.header.pages c.history-own.result (g.W.Write.contents c.args.writer.now) (g.W.Write.contents c.ask.new.writer) (g.W.Write.contents c.loop.writer) (g.W.Write.contents c.turn.new.writer) c.turn.ensures.rises (c.ask.ensures.low, c.ask.ensures.narrow, c.ask.ensures.history) c.in_ok-ask.ensures.all c.loop.invariant.1 c.in_ok-last.ensures.answers

pub returns-clause-vouched : goal.returns-clause-vouched
returns-clause-vouched g c =
    told_all (g.V.Voucher.floor c.loop.voucher) c.status.result.end.0 c.args.header.pages c.history-own.result (g.W.Write.contents c.args.writer.now) (g.W.Write.contents c.ask.new.writer) (g.W.Write.contents c.loop.writer) (c.ask.ensures.low, c.ask.ensures.narrow, c.ask.ensures.history) c.in_ok-ask.ensures.all c.loop.invariant.1
