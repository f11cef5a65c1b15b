use Rattle.als_reopen.proofs.reading.Reading.take_up.Goals as goal

pub returns-in-Ok-clause-judged : goal.returns-in-Ok-clause-judged
returns-in-Ok-clause-judged g c =
    c.kept_for.ensures.known c.args.self.scan.pages c.args.self.scan.log c.in-Ok.ensures.known
