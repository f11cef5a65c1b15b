use Rattle.std.proofs.Common.{sym, ap, ◌∙◌, List}
use Rattle.als_record.specs.declared.record.Record.{Record}
use Rattle.als_record.specs.LogText.{log_text}
use Rattle.als_log.specs.History.{records_in}
use Rattle.als_scan.specs.Scanned.{Scanned}
use Rattle.als_scan.proofs.TextLaws.{settled_stored}
use Rattle.als_scan.proofs.ScanLaws.{slot_seen}
use Rattle.als_scan.proofs.scan.Scan.into_parts.Goals as goal

pub reopen-requires-clause-stored : goal.reopen-requires-clause-stored
reopen-requires-clause-stored g c =
    let inside = c.self.inside in
    let shown = ap (λ (s : Scanned). log_text s.pages s.log) c.self.view_is in
    let history = ap (λ (l : List Record). log_text inside.pages l) c.into_parts-validator.ensures.history in
    settled_stored (g.D.BlockDisk.slot inside.disk) inside.mark (log_text inside.pages (records_in c.into_parts-validator.result.1)) c.self.invariant.settled
    (ap (λ (s : Scanned). s.text) c.self.view_is ∙ c.requires.text_is ∙ sym shown ∙ sym history)

pub returns-in-Err-clause-same : goal.returns-in-Err-clause-same
returns-in-Err-clause-same g c k lt = c.in-Err.ensures.same k ∙ slot_seen _ _ _ _ _ k _ (g.D.BlockDisk.slot c.self.inside.disk) c.args.self c.self.view_is lt
