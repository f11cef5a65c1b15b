use Rattle.std.proofs.Common.{refl, sym, ◌∙◌}
use Rattle.http.specs.Request.{head_of}
use Rattle.als_asking.specs.Entering.{entry_of}
use Rattle.als_asking.proofs.AnsweringLaws.{answers_commits, answers_prepares}
use Rattle.als_asking.proofs.asking.AskingService.call.Goals as goal

pub returns-in-Commits-clause-ok : goal.returns-in-Commits-clause-ok
returns-in-Commits-clause-ok g c = (
  answers_commits g.R.Service.answers g.C.Commits.commits g.C.Commits.doubts
      (entry_of c.args.self.now.guard c.args.self.now.hosts (head_of c.args.request.now)) c.args.request.now
      c.args.self.now.reads c.args.self.now.commits c.show.new.response c.take-told.new.commits c.deref.result.now c.take-told.result
      (sym c.entry_of.ensures ∙ c.in-Commits.is) (c.deref.ensures ∙ c.body.ensures) c.take-told.ensures c.show.ensures,
  refl,
  refl,
)

pub returns-in-Prepares-clause-ok : goal.returns-in-Prepares-clause-ok
returns-in-Prepares-clause-ok g c = (
  answers_prepares g.R.Service.answers g.C.Commits.commits g.C.Commits.doubts
      (entry_of c.args.self.now.guard c.args.self.now.hosts (head_of c.args.request.now)) c.args.request.now
      c.args.self.now.reads c.args.self.now.commits c.show-in-Prepares.new.response c.take-told-in-Prepares.new.commits
      c.deref-in-Prepares.result.now c.take-told-in-Prepares.result (sym c.entry_of.ensures ∙ c.in-Prepares.is)
      (c.deref-in-Prepares.ensures ∙ c.body-in-Prepares.ensures) c.take-told-in-Prepares.ensures c.show-in-Prepares.ensures,
  refl,
  refl,
)
