use Rattle.std.proofs.Common.{subst, sym}
use Rattle.als_view.specs.Showing.{View, IsShowing}
use Rattle.als_view.specs.Views.{book_by, pages_by, all_by, published_by}
use Rattle.als_view.proofs.ShowingLaws.{shows_moved, front_stays, front_whole, publishes_ended}
use Rattle.als_view.proofs.view.View.publish_ended.Goals as goal

pub returns-in_err-publish_first-clause-shows : goal.returns-in_err-publish_first-clause-shows
returns-in_err-publish_first-clause-shows g c log below low h =
    let s = c.self.inside in
    let old : View = record { pages = pages_by s.publisher; book = book_by s.publisher; published = published_by s.publisher; all = all_by s.publisher; queued = s.waiting.queued; room = s.waiting.room } in
    let p = c.publish_first.new.self in
    let w = c.publish_first.new.waiting in
    let new : View = record { pages = pages_by p; book = book_by p; published = published_by p; all = all_by p; queued = w.queued; room = w.room } in
    let shown : IsShowing log below old = subst (λ (view : View). IsShowing log below view) (sym c.self.view_is) h in
    let moves = c.publish_first.ensures.moves in
    shows_moved log below c.args.acknowledged.0 moves.0 c.count_ended-count.result old new low c.count_ended-count.ensures.ended moves.1
    (front_stays moves.0 c.count_ended-count.result old new moves.1 c.in_err-publish_first.ensures.err shown.front) shown

pub returns-clause-shows : goal.returns-clause-shows
returns-clause-shows g c log below low h =
    let p = c.publish_first.new.self in
    let w = c.publish_first.new.waiting in
    let new : View = record { pages = pages_by p; book = book_by p; published = published_by p; all = all_by p; queued = w.queued; room = w.room } in
    let moves = c.publish_first.ensures.moves in
    shows_moved log below c.args.acknowledged.0 moves.0 c.count_ended-count.result _ new low c.count_ended-count.ensures.ended moves.1
    (front_whole new c.in_ok-publish_first.ensures.ok.1) (subst (λ (view : View). IsShowing log below view) (sym c.self.view_is) h)

pub returns-clause-done : goal.returns-clause-done
returns-clause-done g c log below v low h =
    let p = c.publish_first.new.self in
    let w = c.publish_first.new.waiting in
    let new : View = record { pages = pages_by p; book = book_by p; published = published_by p; all = all_by p; queued = w.queued; room = w.room } in
    publishes_ended log below c.args.acknowledged.0 c.count_ended-count.result _ new v low c.count_ended-count.ensures.limit c.count_ended-count.ensures.all
    c.in_ok-publish_first.ensures.ok.0 c.in_ok-publish_first.ensures.ok.1 (subst (λ (view : View). IsShowing log below view) (sym c.self.view_is) h)
