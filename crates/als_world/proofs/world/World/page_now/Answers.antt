use Rattle.std.proofs.Common.{◌≤◌, Ok, Err, Some, None, Result, arith, refl, subst}
use Rattle.als_engine.specs.declared.fault.Fault.{Fault}
use Rattle.als_engine.specs.declared.fault.Fault.TheVariants as fault
use Rattle.als_engine.specs.Events.{ShowsPage}
use Rattle.als_engine.specs.Serving.{Serving}
use Rattle.als_page.specs.declared.page.Page.{Page}
use Rattle.als_world.specs.Standing.{Standing}
use Rattle.als_world.specs.Asking.{TellsPage}
use Rattle.als_world.proofs.AskLaws.{stays-shown, tells-up, tells-down, told-page, told-no-page, told-fault, told-down}
use Rattle.als_world.proofs.world.World.page_now.Goals as goal

pub returns-then-page-pages-clause-tells : goal.returns-then-page-pages-clause-tells
returns-then-page-pages-clause-tells g c =
    let engine = c.in-Up.standby in
    tells-up g.D.BlockDisk.slot g.D.BlockDisk.block_count c.args.self.now (λ (a : Standing). λ (b : Standing). TellsPage a c.args.page (Ok None) b) engine engine c.in-Up.is
    (record { pages = refl; limit = refl; warm = λ w. w }) (told-no-page engine.machine c.args.self.now.slots c.args.page
    (subst (λ (e : Serving). e.machine.held.pages ≤ c.args.page) c.engine.ensures (omega (arith, c.pages.ensures, c.if-page-pages.true))))

pub returns-in-Ok-clause-tells : goal.returns-in-Ok-clause-tells
returns-in-Ok-clause-tells g c =
    let old = c.in-Up.standby in
    let new = c.page_now.new.self in
    let shows = subst (λ (r : Result Page Fault). ShowsPage old.machine c.args.page r new.machine) c.in-Ok.is c.page_now.ensures.shows in
    tells-up g.D.BlockDisk.slot g.D.BlockDisk.block_count c.args.self.now (λ (a : Standing). λ (b : Standing). TellsPage a c.args.page (Ok (Some c.in-Ok.shown)) b) old new c.in-Up.is
    (stays-shown old.machine c.args.page (Ok c.in-Ok.shown) new.machine shows) (told-page old.machine c.args.self.now.slots c.args.page c.in-Ok.shown new.machine shows)

pub returns-in-Err-clause-tells : goal.returns-in-Err-clause-tells
returns-in-Err-clause-tells g c =
    let old = c.in-Up.standby in
    let new = c.page_now.new.self in
    let shows = subst (λ (r : Result Page Fault). ShowsPage old.machine c.args.page r new.machine) c.in-Err.is c.page_now.ensures.shows in
    tells-up g.D.BlockDisk.slot g.D.BlockDisk.block_count c.args.self.now (λ (a : Standing). λ (b : Standing). TellsPage a c.args.page (Err c.in-Err.fault) b) old new c.in-Up.is
    (stays-shown old.machine c.args.page (Err c.in-Err.fault) new.machine shows) (told-fault old.machine c.args.self.now.slots c.args.page c.in-Err.fault new.machine shows)

pub returns-in-Down-clause-tells : goal.returns-in-Down-clause-tells
returns-in-Down-clause-tells g c =
    tells-down g.D.BlockDisk.slot g.D.BlockDisk.block_count c.args.self.now (λ (a : Standing). λ (b : Standing). TellsPage a c.args.page (Err fault.Stopped) b) c.in-Down.field-0 c.in-Down.is
    (told-down c.args.page)
