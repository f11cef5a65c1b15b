use Rattle.std.proofs.Common.{◌≢◌, Option, None, subst, ◌∙◌, arith}
use Rattle.std.specs.Prelude.{IsSomeAnd}
use Rattle.als_frames.specs.Frames.{Framed}
use Rattle.als_frames.specs.Leases.{recalled_frame}
use Rattle.als_frames.specs.Table.{Puts}
use Rattle.als_frames.proofs.ZoneSteps.{puts_for, ended_but}
use Rattle.als_frames.proofs.table.recall.Goals as goal

pub settle-requires : goal.settle-requires
settle-requires c =
    let (f, at) = c.in-Some.ensures.some in
    let sets = c.recall_at.ensures.sets c.args.page f at.here in
    let lent = subst (λ (o : Option Framed). IsSomeAnd o (λ x. x.lent ≢ None)) at.found c.requires.resident in
    record {
      zoned = ended_but c.args.zones.now c.args.frames.now.entries c.recall_at.new.frames.entries c.in-Some.i c.args.page f c.requires.zoned at.here f.content sets lent (omega arith);
    }

pub returns-clause-puts : goal.returns-clause-puts
returns-clause-puts c =
    let (f, at) = c.in-Some.ensures.some in
    let sets = c.recall_at.ensures.sets c.args.page f at.here in
    let change : Framed → Framed = recalled_frame in
    let puts : Puts c.args.frames.now.entries c.settle.new.frames.entries c.args.page (change f) = record {
      frame = c.settle.ensures.frames c.args.page ∙ sets.puts.frame;
      others = λ other apart. c.settle.ensures.frames other ∙ sets.puts.others other apart;
    } in
    puts_for c.args.frames.now.entries c.settle.new.frames.entries c.args.page f change at.found puts

pub returns-clause-len : goal.returns-clause-len
returns-clause-len c =
    let (f, at) = c.in-Some.ensures.some in
    let sets = c.recall_at.ensures.sets c.args.page f at.here in
    c.settle.ensures.len ∙ sets.len
