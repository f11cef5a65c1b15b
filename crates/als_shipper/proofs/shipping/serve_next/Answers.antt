use Rattle.std.proofs.Common.{◌≡◌, refl, inl, ◌∙◌}
use Rattle.std.proofs.lemmas.Result.{err_from_is_err_and}
use Rattle.als_ship.specs.declared.fault.Fault.{Fault as AnyFault}
use Rattle.als_operate.specs.declared.fault.Fault.TheVariants.{Session}
use Rattle.als_shipper.proofs.Visiting.{passes_none, passes_more, served, told_line, sends_true, ends_serving}
use Rattle.als_shipper.proofs.shipping.serve_next.Goals as goal

pub loop-init : goal.loop-init
loop-init g c = record { over = passes_none (g.V.Visitors.met c.args.visitors.now); quiet = refl; same = refl; kept = refl }

pub loop-preserved : goal.loop-preserved
loop-preserved g c =
    let start = g.V.Visitors.met c.args.visitors.now in
    let mid = g.V.Visitors.met c.loop.visitors in
    let new = g.V.Visitors.met c.receive.new.visitors in
    let passed = c.in_ok-has_asked.ensures.passed c.if-has_asked.false in
    record {
      over = passes_more start mid new c.loop.invariant.over passed.0;
      quiet = passed.1 ∙ c.loop.invariant.quiet;
      same = c.receive.ensures.same ∙ c.loop.invariant.same;
      kept = c.receive.ensures.kept ∙ c.loop.invariant.kept;
    }

pub returns-then-has_asked-clause-sent : goal.returns-then-has_asked-clause-sent
returns-then-has_asked-clause-sent g c = λ header begins few.
    let text = g.S.Source.text c.args.source.now in
    let now = g.S.Source.text c.loop.source in
    let seals = g.S.Source.seals c.args.source.now in
    let own = g.S.Source.seals c.loop.source in
    let start = g.V.Visitors.met c.args.visitors.now in
    let mid = g.V.Visitors.met c.loop.visitors in
    let new = g.V.Visitors.met c.receive.new.visitors in
    let printed = g.O.Write.contents c.args.output.now in
    let so_far = g.O.Write.contents c.loop.output in
    let after = g.O.Write.contents c.receive.new.output in
    served text now seals own header start mid new printed so_far after c.loop.invariant.same c.loop.invariant.kept c.loop.invariant.quiet c.loop.invariant.over (λ first low. c.in_ok-has_asked.ensures.sent header first low c.if-has_asked.true) begins few

pub returns-then-has_asked-clause-told : goal.returns-then-has_asked-clause-told
returns-then-has_asked-clause-told g c =
    told_line (g.O.Write.contents c.args.output.now) (g.O.Write.contents c.loop.output) (g.O.Write.contents c.receive.new.output) c.loop.invariant.quiet (c.in_ok-has_asked.ensures.told c.if-has_asked.true)

pub returns-then-has_asked-clause-true_frames : goal.returns-then-has_asked-clause-true_frames
returns-then-has_asked-clause-true_frames g c =
    sends_true (g.S.Source.text c.args.source.now) (g.S.Source.text c.loop.source) (g.S.Source.seals c.args.source.now) (g.S.Source.seals c.loop.source) (g.V.Visitors.met c.args.visitors.now) (g.V.Visitors.met c.loop.visitors) (g.V.Visitors.met c.receive.new.visitors) c.loop.invariant.same c.loop.invariant.kept c.loop.invariant.over c.receive.ensures.true_frames

pub returns-in_err-has_asked-clause-true_frames : goal.returns-in_err-has_asked-clause-true_frames
returns-in_err-has_asked-clause-true_frames g c =
    sends_true (g.S.Source.text c.args.source.now) (g.S.Source.text c.loop.source) (g.S.Source.seals c.args.source.now) (g.S.Source.seals c.loop.source) (g.V.Visitors.met c.args.visitors.now) (g.V.Visitors.met c.loop.visitors) (g.V.Visitors.met c.receive.new.visitors) c.loop.invariant.same c.loop.invariant.kept c.loop.invariant.over c.receive.ensures.true_frames

pub returns-clause-true_frames : goal.returns-clause-true_frames
returns-clause-true_frames g c = (g.V.Visitors.met c.loop.visitors, c.loop.invariant.over, inl refl)

pub returns-in_err-has_asked-clause-answered : goal.returns-in_err-has_asked-clause-answered
returns-in_err-has_asked-clause-answered g c =
    let text = g.S.Source.text c.args.source.now in
    let now = g.S.Source.text c.loop.source in
    let seals = g.S.Source.seals c.args.source.now in
    let own = g.S.Source.seals c.loop.source in
    let start = g.V.Visitors.met c.args.visitors.now in
    let mid = g.V.Visitors.met c.loop.visitors in
    let new = g.V.Visitors.met c.receive.new.visitors in
    let found = λ (cause : AnyFault) (is : c.in_err-has_asked.field-0.0 ≡ Session cause). ends_serving text now seals own start mid new c.loop.invariant.same c.loop.invariant.kept c.loop.invariant.over (c.in_err-has_asked.ensures.answered cause is) in
    let p = err_from_is_err_and c.from_residual.result c.from_residual.ensures.1 in rw (p.1, p.2) found
