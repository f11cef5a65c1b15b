use Rattle.std.proofs.Common.{sym, subst}
use Rattle.als_view.specs.Entries.{AreCommits}
use Rattle.als_view.specs.Views.{all_by}
use Rattle.als_view.proofs.ShowingLaws.{moved_are_commits}
use Rattle.als_view.proofs.publisher.Publisher.publish_first.Goals as goal

pub publish-requires : goal.publish-requires
publish-requires g c =
    subst AreCommits (sym c.in_ok-take_first.ensures.ok.all_are) (moved_are_commits c.args.count (all_by c.args.self.now) c.args.waiting.now.queued c.requires.commits)
