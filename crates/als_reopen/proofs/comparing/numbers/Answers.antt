use Rattle.als_reopen.proofs.comparing.numbers.Goals as goal

pub returns : goal.returns
returns g c =
    let s = c.args.scan.now in
    let known = c.validator-validator.ensures.known in
    let greatest = c.greatest.ensures s.pages s.log known in
    let begun = c.open_checkpoint.ensures s.pages s.log known in
    λ j. record {
      position = record { 0 = c.end.ensures.end j };
      greatest = record { 0 = greatest j };
      open_checkpoint = record { 0 = begun j };
      commits = c.requires.commits j;
      last_commit = record { 0 = c.requires.last j };
    }
