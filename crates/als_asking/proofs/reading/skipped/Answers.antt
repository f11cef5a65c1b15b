use Rattle.std.proofs.Common.{sym, ◌∙◌}
use Rattle.als_asking.proofs.BodyLaws.{skipped_end}
use Rattle.als_asking.proofs.reading.skipped.Goals as goal

pub returns-in_default : goal.returns-in_default
returns-in_default c =
    skipped_end c.args.text.now c.loop.rest.now c.in-Some.first.now c.in-Some.more.now c.loop.invariant.0 c.in-Some.ensures.cases.0
    (sym c.is_blank.ensures ∙ c.if-is_blank.false)
