use Rattle.std.proofs.Common.{◌≡◌, ◌++◌, take, flat_map}
use Rattle.als_report.specs.Followers.{follower_tokens}
use Rattle.als_report.proofs.primary_text.write_rows.Given as goal

abbrev pub invariant-loop-i : goal.invariant-loop-i
invariant-loop-i l =
    (l.text.tokens ≡ l.fn.text.tokens ++ flat_map (follower_tokens l.acknowledged.0) (take l.i l.followers)) × (l.text.before ≡ l.fn.text.before)
