use Rattle.std.proofs.Common.{None, refl, ap, sym, subst, ◌∙◌}
use Rattle.als_commits.specs.Waiting.{Waiting}
use Rattle.als_receiver.specs.Reception.{Reception}
use Rattle.als_view.specs.Showing.{View, published_of}
use Rattle.als_store.specs.Stored.{Stored}
use Rattle.als_store.specs.Opening.{TakesUp, said_in}
use Rattle.als_ckpt.specs.Regions.{Said}
use Rattle.als_store.specs.Spare.{Holding}
use Rattle.als_engine.proofs.FeedLaws.{machine}
use Rattle.als_engine.proofs.RestartLaws.{restarted, started, bare_or}
use Rattle.als_engine.proofs.ReaderLaws.{serving_opened, warms_none}
use Rattle.als_engine.proofs.engine.Engine.open.Goals as goal

pub invariant_of-engine : goal.invariant_of-engine
invariant_of-engine g c =
    let from = c.in-Ok-open.opened.store.stored in
    let waits = ap (λ (w : Waiting). w.queued) c.into_parts-store.ensures.1
    ∙ c.in-Ok-open.ensures.waiting in
    let w = c.with_waiting-shown.ensures.warming c.args.config.pages from.log
    (warms_none c.args.config.pages c.in-Ok.unlisted c.in-Ok.ensures.view) waits in
    serving_opened c.into_parts-store.result.0.stored from c.new-receiver.result
    c.with_waiting-shown.result c.with_waiting-shown.result _ _ _ _ _
    (ap (λ (h : Holding). h.stored) c.into_parts-store.ensures.0) refl
    c.in-Ok-open.ensures.ok w c.new-receiver.ensures c.end.ensures.end
    c.a_view_goes_on.ensures.waits

pub returns-in-Ok-open-clause-ok : goal.returns-in-Ok-open-clause-ok
returns-in-Ok-open-clause-ok g c =
    let from = c.in-Ok-open.opened.store.stored in
    let waits = ap (λ (w : Waiting). w.queued) c.into_parts-store.ensures.1
    ∙ c.in-Ok-open.ensures.waiting in
    let w = c.with_waiting-shown.ensures.warming c.args.config.pages from.log
    (warms_none c.args.config.pages c.in-Ok.unlisted c.in-Ok.ensures.view) waits in
    restarted c.args.config c.into_parts-store.result.0.stored from
    c.with_waiting-shown.result c.with_waiting-shown.result c.new-receiver.result.kept _ _ _
    (c.fits.ensures.0 c.if-not-fits.false).numbers
    (ap (λ (h : Holding). h.stored) c.into_parts-store.ensures.0) refl
    c.in-Ok-open.ensures.ok w (ap (λ (r : Reception). r.kept) c.new-receiver.ensures)

pub returns-in-Ok-open-clause-only : goal.returns-in-Ok-open-clause-only
returns-in-Ok-open-clause-only g c = λ n holds.
    let same = ap (λ (h : Holding). h.stored) c.into_parts-store.ensures.0 in
    let is = c.in-Ok-open.ensures.only n holds.log_settled holds.control_settled holds.held in
    let said = ap (λ (h : Stored). said_in h) same ∙ is.1 in
    record {
      log = ap (λ (h : Stored). h.log) same ∙ is.0;
      said = said;
      ends = ap (λ (s : Said). s.state.mark.0) said ∙ sym holds.held.ends;
    }

pub returns-in-Ok-open-clause-warm : goal.returns-in-Ok-open-clause-warm
returns-in-Ok-open-clause-warm g c = λ n holds.
    let same = ap (λ (h : Holding). h.stored) c.into_parts-store.ensures.0 in
    let m = machine c.into_parts-store.result.0.stored c.args.config.pending
    c.new-receiver.result.kept None (published_of c.with_waiting-shown.result) in
    started c.args.config n m _ _ _ (returns-in-Ok-open-clause-ok g c)
    (subst (λ (h : Stored). TakesUp n h) (sym same)
    (c.in-Ok-open.ensures.warm n holds.log_settled holds.control_settled holds.pages_settled
    holds.node))
    holds.node.held.count
    (ap (λ (h : Stored). h.pool.frames.most) same ∙ c.in-Ok-open.ensures.frames)

pub returns-in-Ok-open-clause-synced : goal.returns-in-Ok-open-clause-synced
returns-in-Ok-open-clause-synced g c =
    let same = ap (λ (h : Holding). h.stored) c.into_parts-store.ensures.0 in
    let m = machine c.into_parts-store.result.0.stored c.args.config.pending
    c.new-receiver.result.kept None (published_of c.with_waiting-shown.result) in (
      c.in-Ok-open.ensures.synced.0,
      λ n node.
          started c.args.config n m _ _ _ (returns-in-Ok-open-clause-ok g c)
          (subst (λ (h : Stored). TakesUp n h) (sym same) (c.in-Ok-open.ensures.synced.1 n node))
          node.held.count
          (ap (λ (h : Stored). h.pool.frames.most) same ∙ c.in-Ok-open.ensures.frames),
    )

pub returns-in-Ok-open-clause-kept : goal.returns-in-Ok-open-clause-kept
returns-in-Ok-open-clause-kept g c =
    let same = ap (λ (h : Holding). h.stored) c.into_parts-store.ensures.0 in
    let m = machine c.into_parts-store.result.0.stored c.args.config.pending
    c.new-receiver.result.kept None (published_of c.with_waiting-shown.result) in (
      c.in-Ok-open.ensures.kept.0,
      λ n holds.
          let is = c.in-Ok-open.ensures.kept.1 n holds in
          let said = ap (λ (h : Stored). said_in h) same ∙ is.1 in
          record {
            log = ap (λ (h : Stored). h.log) same ∙ is.0;
            said = said;
            ends = ap (λ (s : Said). s.state.mark.0) said ∙ sym holds.ends;
          },
      λ n node.
          started c.args.config n m _ _ _ (returns-in-Ok-open-clause-ok g c)
          (subst (λ (h : Stored). TakesUp n h) (sym same) (c.in-Ok-open.ensures.kept.2 n node))
          node.held.count
          (ap (λ (h : Stored). h.pool.frames.most) same ∙ c.in-Ok-open.ensures.frames),
    )

pub returns-in-Ok-open-clause-readers : goal.returns-in-Ok-open-clause-readers
returns-in-Ok-open-clause-readers g c = (
  λ k d lt.
      let r = c.in-Ok.ensures.readers k d lt in
      (r.0 ∙ sym (ap (λ (v : View). v.book) c.with_waiting-shown.ensures.queued), r.1),
  c.in-Ok.ensures.count,
)

pub returns-in-Err-clause-unsynced : goal.returns-in-Err-clause-unsynced
returns-in-Err-clause-unsynced g c = λ world.
    bare_or c.in-Err.unopened.fault c.from.result c.from.ensures c.in-Err.ensures.unsynced
