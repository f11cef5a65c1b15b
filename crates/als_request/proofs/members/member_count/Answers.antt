use Rattle.std.proofs.Common.{◌≡◌, length, sym, ap, ◌∙◌, arith}
use Rattle.json.proofs.Trees.{view-Object}
use Rattle.als_request.specs.Asking.{member_count, members_in}
use Rattle.json.specs.Find.{as_object}
use Rattle.als_request.proofs.Lists.{keys_count}
use Rattle.als_request.proofs.members.member_count.Goals as goal

pub returns-in-Object : goal.returns-in-Object
returns-in-Object c =
    let count : c.len.result ≡ length c.in-Object.members.items = omega (arith, c.len.ensures, c.in-Object.members.ok.0) in
    let seen = ap (λ j. members_in (as_object j)) (view-Object c.in-Object.members) in
    rw (c.in-Object.is) (count ∙ sym (keys_count _ c.in-Object.members.items) ∙ sym seen)
