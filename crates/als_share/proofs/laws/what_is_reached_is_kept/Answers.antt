use Rattle.als_share.proofs.Reached.{reached-kept, told-rises}
use Rattle.als_share.proofs.laws.what_is_reached_is_kept.Goals as goal

pub returns-clause-keeps : goal.returns-clause-keeps
returns-clause-keeps c start now s r = (reached-kept start now s r).keeps

pub returns-clause-stands : goal.returns-clause-stands
returns-clause-stands c start now s r = (reached-kept start now s r).stands

pub returns-clause-told : goal.returns-clause-told
returns-clause-told c start now s r =
    let k = reached-kept start now s r in told-rises start now s k.stands k.keeps
