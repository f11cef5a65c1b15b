use Rattle.std.proofs.Common.{◌≡◌, ◌≤◌, ℕ, List, length, ap, refl, inl, ◌∙◌, arith}
use Rattle.als_sending.specs.declared.way.Way.{Way}
use Rattle.als_sending.proofs.Going.{stops_now}
use Rattle.als_sending.proofs.Whole.{true_stops, window_stops, true_closes, window_closes}
use Rattle.als_sending.proofs.sending.send_log.Goals as goal

pub returns-in_err-met-clause-true_frames : goal.returns-in_err-met-clause-true_frames
returns-in_err-met-clause-true_frames g c = λ text are. inl c.in_err-met.ensures.fails.1

pub returns-in_err-resize-clause-true_frames : goal.returns-in_err-resize-clause-true_frames
returns-in_err-resize-clause-true_frames g c = λ text are.
    let own = g.G.Growing.seals c.args.log.now in
    let w : Way = record { epoch = length own; window = c.args.window; at = c.in_ok-met.met.from; end = c.in_ok-met.met.end; ahead = 0 } in
    let low : w.ahead ≤ w.window = omega arith in
    let reads = g.G.Growing.reads c.meet.new.log in
    let heard = g.M.Marks.heard c.args.marks.now in
    let between = g.R.Read.remaining c.meet.new.reader in
    let then = g.W.Write.contents c.meet.new.writer in
    true_stops text own w reads reads heard heard between (g.W.Write.contents c.args.writer.now) then then refl c.in_ok-met.ensures.met.told (stops_now w reads heard between then low) are

pub returns-in_err-resize-clause-window : goal.returns-in_err-resize-clause-window
returns-in_err-resize-clause-window g c =
    let own = g.G.Growing.seals c.args.log.now in
    let w : Way = record { epoch = length own; window = c.args.window; at = c.in_ok-met.met.from; end = c.in_ok-met.met.end; ahead = 0 } in
    let low : w.ahead ≤ w.window = omega arith in
    let reads = g.G.Growing.reads c.meet.new.log in
    let heard = g.M.Marks.heard c.args.marks.now in
    let between = g.R.Read.remaining c.meet.new.reader in
    let then = g.W.Write.contents c.meet.new.writer in
    let here = stops_now w reads heard between then low in
    rw c.begin.ensures.heard (window_stops own w reads reads heard heard between (g.W.Write.contents c.args.writer.now) then then refl refl c.in_ok-met.ensures.met.told here)

pub returns-in_err-pour-clause-true_frames : goal.returns-in_err-pour-clause-true_frames
returns-in_err-pour-clause-true_frames g c = λ text are.
    let own = g.G.Growing.seals c.args.log.now in
    let w : Way = record { epoch = c.epoch.result; window = c.args.window; at = c.in_ok-met.met.from; end = c.in_ok-met.met.end; ahead = 0 } in
    let epoch : w.epoch ≡ length own = c.epoch.ensures.len ∙ ap (λ (xs : List ℕ). length xs) (c.history.ensures ∙ c.meet.ensures.seals) in
    true_stops text own w (g.G.Growing.reads c.meet.new.log) (g.G.Growing.reads c.pour.new.log) (g.M.Marks.heard c.begin.new.self) (g.M.Marks.heard c.pour.new.marks) (g.R.Read.remaining c.meet.new.reader) (g.W.Write.contents c.args.writer.now) (g.W.Write.contents c.meet.new.writer) (g.W.Write.contents c.pour.new.writer)
    epoch c.in_ok-met.ensures.met.told c.in_err-pour.ensures.stops are

pub returns-clause-true_frames : goal.returns-clause-true_frames
returns-clause-true_frames g c = λ text are.
    let own = g.G.Growing.seals c.args.log.now in
    let w : Way = record { epoch = c.epoch.result; window = c.args.window; at = c.in_ok-met.met.from; end = c.in_ok-met.met.end; ahead = 0 } in
    let epoch : w.epoch ≡ length own = c.epoch.ensures.len ∙ ap (λ (xs : List ℕ). length xs) (c.history.ensures ∙ c.meet.ensures.seals) in
    true_closes text own w (g.G.Growing.shown c.pour.new.log) (g.G.Growing.reads c.meet.new.log) (g.G.Growing.reads c.pour.new.log) (g.M.Marks.heard c.begin.new.self) (g.M.Marks.heard c.pour.new.marks) (g.R.Read.remaining c.meet.new.reader) (g.R.Read.remaining c.pour.new.reader) (g.W.Write.contents c.args.writer.now) (g.W.Write.contents c.meet.new.writer) (g.W.Write.contents c.pour.new.writer)
    epoch c.in_ok-met.ensures.met.told c.in_ok-pour.ensures.closes are

pub returns-clause-window : goal.returns-clause-window
returns-clause-window g c =
    let own = g.G.Growing.seals c.args.log.now in
    let w : Way = record { epoch = c.epoch.result; window = c.args.window; at = c.in_ok-met.met.from; end = c.in_ok-met.met.end; ahead = 0 } in
    let epoch : w.epoch ≡ length own = c.epoch.ensures.len ∙ ap (λ (xs : List ℕ). length xs) (c.history.ensures ∙ c.meet.ensures.seals) in
    rw (← c.begin.ensures.heard) (window_closes own w (g.G.Growing.shown c.pour.new.log) (g.G.Growing.reads c.meet.new.log) (g.G.Growing.reads c.pour.new.log) (g.M.Marks.heard c.begin.new.self) (g.M.Marks.heard c.pour.new.marks) (g.R.Read.remaining c.meet.new.reader) (g.R.Read.remaining c.pour.new.reader) (g.W.Write.contents c.args.writer.now) (g.W.Write.contents c.meet.new.writer) (g.W.Write.contents c.pour.new.writer)
    epoch c.in_ok-met.ensures.met.told c.in_ok-pour.ensures.closes)
