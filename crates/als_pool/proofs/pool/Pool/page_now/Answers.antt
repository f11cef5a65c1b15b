use Rattle.als_page.specs.Page.{state_of}
use Rattle.als_frames.proofs.Keeping.{IfOk-so}
use Rattle.als_pool.proofs.Keeping.{page_history, page_sound, keeps_page}
use Rattle.als_pool.proofs.Restarting.{rows-page}
use Rattle.als_pool.proofs.Bounding.{ends-page_now}
use Rattle.als_pool.proofs.pool.Pool.page_now.Goals as goal

pub returns-clause-keeps : goal.returns-clause-keeps
returns-clause-keeps g c log below h =
    keeps_page log below c.read_page.result c.args.self.now c.read_page.new.self c.args.page c.read_page.ensures.same c.read_page.ensures.err h

pub returns-clause-history : goal.returns-clause-history
returns-clause-history g c =
    IfOk-so c.read_page.result c.read_page.ensures.ok (λ p now log below h. page_history log below c.args.self.now.pool c.args.page (state_of p) c.requires now h)

pub returns-clause-sound : goal.returns-clause-sound
returns-clause-sound g c log below h is =
    page_sound log below c.read_page.result c.args.self.now.pool c.read_page.new.self.pool c.args.page c.args.page c.requires c.read_page.ensures.err h is

pub returns-clause-given : goal.returns-clause-given
returns-clause-given g c position rows h =
    rows-page position rows c.read_page.result c.args.self.now c.read_page.new.self c.args.page c.read_page.ensures.same c.read_page.ensures.err h

pub returns-clause-ends : goal.returns-clause-ends
returns-clause-ends g c end h =
    ends-page_now end c.read_page.result c.args.self.now c.read_page.new.self c.args.page c.read_page.ensures.same c.read_page.ensures.err h
