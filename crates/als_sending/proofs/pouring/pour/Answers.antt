use Rattle.std.proofs.Common.{rules, arith, subst, sym, ◌∙◌, ◌≡◌, ℕ, List}
use Rattle.std.proofs.lemmas.Result.{err_from_is_err_and}
use Rattle.std.proofs.KnownBytes.{Keeps-trans}
use Rattle.als_sending.specs.Going.{Closes, Goes}
use Rattle.als_sending.proofs.Going.{goes_both, stops_both, stops_here, closes_both, fails_both}
use Rattle.als_sending.proofs.pouring.pour.Goals as goal

pub loop-init : goal.loop-init
loop-init g c = record {
  goes = subst (λ (heard : List ℕ). Goes c.args.way.now c.greet.new.way (g.G.Growing.reads c.args.log.now) (g.G.Growing.reads c.greet.new.log) (g.M.Marks.heard c.args.marks.now) heard (g.R.Read.remaining c.args.reader.now) (g.R.Read.remaining c.args.reader.now) (g.W.Write.contents c.args.writer.now) (g.W.Write.contents c.greet.new.writer))
      (sym c.greet.ensures.heard) (c.in_ok-greet.ensures.goes (g.M.Marks.heard c.args.marks.now) (g.R.Read.remaining c.args.reader.now));
  is = c.greet.ensures.is;
  room = search (rules, arith);
  rises = omega (arith, c.greet.ensures.shown);
  begun = c.greet.ensures.begun;
  seals = c.greet.ensures.seals;
  pages = c.greet.ensures.pages;
}

pub loop-preserved : goal.loop-preserved
loop-preserved g c = record {
  goes = goes_both c.args.way.now c.loop.way c.turn.new.way
      (g.G.Growing.reads c.args.log.now) (g.G.Growing.reads c.loop.log) (g.G.Growing.reads c.turn.new.log)
      (g.M.Marks.heard c.args.marks.now) (g.M.Marks.heard c.loop.marks) (g.M.Marks.heard c.turn.new.marks)
      (g.R.Read.remaining c.args.reader.now) (g.R.Read.remaining c.loop.reader) (g.R.Read.remaining c.turn.new.reader)
      (g.W.Write.contents c.args.writer.now) (g.W.Write.contents c.loop.writer) (g.W.Write.contents c.turn.new.writer)
      c.loop.invariant.goes c.in_ok-turn.ensures.goes;
  is = c.in_ok-turn.ensures.is;
  room = search (rules, arith);
  rises = omega (arith, c.turn.ensures.rises, c.loop.invariant.rises);
  begun = Keeps-trans (g.M.Marks.begun c.args.marks.now) (g.M.Marks.begun c.loop.marks) (g.M.Marks.begun c.turn.new.marks) c.loop.invariant.begun c.turn.ensures.begun;
  seals = c.turn.ensures.seals ∙ c.loop.invariant.seals;
  pages = c.turn.ensures.pages ∙ c.loop.invariant.pages;
}

pub returns-in_err-turn-clause-stops : goal.returns-in_err-turn-clause-stops
returns-in_err-turn-clause-stops g c =
    let found = stops_both c.args.way.now c.loop.way
    (g.G.Growing.reads c.args.log.now) (g.G.Growing.reads c.loop.log) (g.G.Growing.reads c.turn.new.log)
    (g.M.Marks.heard c.args.marks.now) (g.M.Marks.heard c.loop.marks) (g.M.Marks.heard c.turn.new.marks)
    (g.R.Read.remaining c.args.reader.now) (g.R.Read.remaining c.loop.reader)
    (g.W.Write.contents c.args.writer.now) (g.W.Write.contents c.loop.writer) (g.W.Write.contents c.turn.new.writer)
    c.loop.invariant.goes c.in_err-turn.ensures.stops in
    let p = err_from_is_err_and c.from_residual-in_err-turn.result c.from_residual-in_err-turn.ensures.1 in rw (p.1) found

pub returns-in_err-turn-clause-fails : goal.returns-in_err-turn-clause-fails
returns-in_err-turn-clause-fails g c =
    let found = fails_both c.in_err-turn.field-0.0 c.loop.invariant.goes.answers (g.R.Read.remaining c.args.reader.now) (g.R.Read.remaining c.loop.reader) c.loop.invariant.goes.read c.in_err-turn.ensures.fails in
    let p = err_from_is_err_and c.from_residual-in_err-turn.result c.from_residual-in_err-turn.ensures.1 in rw (p.1, p.2) found

pub returns-in_err-close-clause-stops : goal.returns-in_err-close-clause-stops
returns-in_err-close-clause-stops g c =
    let r0 = g.G.Growing.reads c.args.log.now in
    let r1 = g.G.Growing.reads c.loop.log in
    let r2 = g.G.Growing.reads c.turn.new.log in
    let h0 = g.M.Marks.heard c.args.marks.now in
    let h1 = g.M.Marks.heard c.loop.marks in
    let h2 = g.M.Marks.heard c.turn.new.marks in
    let a0 = g.R.Read.remaining c.args.reader.now in
    let a1 = g.R.Read.remaining c.loop.reader in
    let a2 = g.R.Read.remaining c.turn.new.reader in
    let o0 = g.W.Write.contents c.args.writer.now in
    let o1 = g.W.Write.contents c.loop.writer in
    let o2 = g.W.Write.contents c.turn.new.writer in
    let far = goes_both c.args.way.now c.loop.way c.turn.new.way r0 r1 r2 h0 h1 h2 a0 a1 a2 o0 o1 o2 c.loop.invariant.goes c.in_ok-turn.ensures.goes in
    let found = stops_both c.args.way.now c.turn.new.way r0 r2 r2 h0 h2 (g.M.Marks.heard c.close.new.marks) a0 a2 o0 o2 (g.W.Write.contents c.close.new.writer) far (c.in_err-close.ensures.stops r2) in
    let p = err_from_is_err_and c.from_residual-in_err-close.result c.from_residual-in_err-close.ensures.1 in rw (p.1) found

pub returns-in_err-close-clause-fails : goal.returns-in_err-close-clause-fails
returns-in_err-close-clause-fails g c =
    let a0 = g.R.Read.remaining c.args.reader.now in
    let a1 = g.R.Read.remaining c.loop.reader in
    let a2 = g.R.Read.remaining c.turn.new.reader in
    let later = fails_both c.in_err-close.field-0.0 c.in_ok-turn.ensures.goes.answers a1 a2 c.in_ok-turn.ensures.goes.read c.in_err-close.ensures.fails in
    let found = fails_both c.in_err-close.field-0.0 c.loop.invariant.goes.answers a0 a1 c.loop.invariant.goes.read later in
    let p = err_from_is_err_and c.from_residual-in_err-close.result c.from_residual-in_err-close.ensures.1 in rw (p.1, p.2) found

pub returns-then-not-branch-clause-closes : goal.returns-then-not-branch-clause-closes
returns-then-not-branch-clause-closes g c =
    let r0 = g.G.Growing.reads c.args.log.now in
    let r1 = g.G.Growing.reads c.loop.log in
    let r2 = g.G.Growing.reads c.turn.new.log in
    let h0 = g.M.Marks.heard c.args.marks.now in
    let h1 = g.M.Marks.heard c.loop.marks in
    let h2 = g.M.Marks.heard c.turn.new.marks in
    let h3 = g.M.Marks.heard c.close.new.marks in
    let a0 = g.R.Read.remaining c.args.reader.now in
    let a1 = g.R.Read.remaining c.loop.reader in
    let a2 = g.R.Read.remaining c.turn.new.reader in
    let a3 = g.R.Read.remaining c.close.new.reader in
    let o0 = g.W.Write.contents c.args.writer.now in
    let o1 = g.W.Write.contents c.loop.writer in
    let o2 = g.W.Write.contents c.turn.new.writer in
    let o3 = g.W.Write.contents c.close.new.writer in
    let far = goes_both c.args.way.now c.loop.way c.turn.new.way r0 r1 r2 h0 h1 h2 a0 a1 a2 o0 o1 o2 c.loop.invariant.goes c.in_ok-turn.ensures.goes in
    let there : c.turn.new.way.at ≡ g.G.Growing.shown c.turn.new.log = (c.in_ok-turn.ensures.ends c.if-not-branch.true).1 in
    let ended = closes_both c.args.way.now c.turn.new.way c.turn.new.way.at r0 r2 r2 h0 h2 h3 a0 a2 a3 o0 o2 o3 far (c.in_ok-close.ensures.closes r2) in
    subst (λ (k : ℕ). Closes c.args.way.now k r0 r2 h0 h3 a0 a3 o0 o3) there ended

pub returns-clause-stops : goal.returns-clause-stops
returns-clause-stops g c =
    stops_here c.args.way.now c.loop.way (g.G.Growing.reads c.args.log.now) (g.G.Growing.reads c.loop.log) (g.M.Marks.heard c.args.marks.now) (g.M.Marks.heard c.loop.marks) (g.R.Read.remaining c.args.reader.now) (g.R.Read.remaining c.loop.reader) (g.W.Write.contents c.args.writer.now) (g.W.Write.contents c.loop.writer)
    c.loop.invariant.goes c.loop.invariant.is.ahead
