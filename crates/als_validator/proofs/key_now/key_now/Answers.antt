use Rattle.std.proofs.Common.{◌∙◌}
use Rattle.std.proofs.lemmas.Bool.{true≢false}
use Rattle.als_validator.specs.Keys.{IsKeyOf}
use Rattle.als_validator.proofs.HoldersNow.{held_by-new}
use Rattle.als_validator.proofs.key_now.key_now.Goals as goal

pub returns-in-Some : goal.returns-in-Some
returns-in-Some c pages log are table v fits =
    let k : IsKeyOf c.in-Some.kept.now log c.args.key = c.in-Some.ensures pages log are fits in
    record {
      image = k.image;
      holder = λ r before after b n. c.holder_now-holder.ensures log table ∙ held_by-new log r c.args.key before after v b c.in-Some.kept.now k n;
    }

pub returns-in-None : goal.returns-in-None
returns-in-None c pages log are table v fits = c.in-None.ensures pages log are fits
