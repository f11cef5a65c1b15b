use Rattle.std.proofs.Common.{◌≡◌, ◌<◌, ◌≤◌, [], length, ap, arith}
use Rattle.std.proofs.lemmas.List.{length-map}
use Rattle.als_record.specs.Shown.{shown}
use Rattle.als_record.specs.Transactions.{is_transactional, is_end}
use Rattle.als_validator.specs.Lists.{Lists, lists_of}
use Rattle.als_validator.proofs.ListSteps.{lists-place, lists-more}
use Rattle.als_validator.proofs.survivors.Survivors.note_update.Goals as goal

pub returns-then-at-len : goal.returns-then-at-len
returns-then-at-len c log h m s =
    let xs = c.self.inside.lists.items in
    let n : length (lists_of xs) ≡ length xs = length-map xs (λ o. o.left) in
    let now : length (lists_of xs) ≡ length c.args.self.now.lists = ap (λ (t : Lists). length t.lists) c.self.view_is in
    let lt : c.args.at < length c.args.self.now.lists = lists-place log (shown c.args.logged.now) c.args.self.now.lists c.args.self.now.lists h (ap is_transactional c.requires.shows) m c.args.at s in
    let past : length xs ≤ c.args.at = omega (arith, c.len.ensures, c.if-at-len.true) in
    absurd (omega arith)

pub returns : goal.returns
returns c log h m s =
    lists-more log (shown c.args.logged.now) c.args.self.now.lists c.push.new.self.lists h (ap is_transactional c.requires.shows) m c.args.at s (ap is_end c.requires.shows) (c.push.ensures [])
