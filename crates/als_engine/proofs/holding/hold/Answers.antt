use Rattle.std.proofs.Common.{sym, ◌∙◌}
use Rattle.als_record.specs.Shown.{shown as seen}
use Rattle.als_engine.proofs.ReaderLaws.{goes_on_other}
use Rattle.als_engine.proofs.holding.hold.Goals as goal

pub returns-clause-goes_on : goal.returns-clause-goes_on
returns-clause-goes_on g c =
    goes_on_other c.args.held.now.stored c.admit.new.self.stored (seen c.args.logged.now)
    c.args.shown.now c.in_ok-admit.ensures.ok.1 c.end.ensures.log.valid
    (sym c.is_commit_record.ensures ∙ c.if-is_commit_record.false) c.a_view_goes_on.ensures.other
