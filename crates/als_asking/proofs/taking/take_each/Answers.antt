use Rattle.std.proofs.Common.{inl, ◌≡◌, refl, vec_len, List, length, subst, arith}
use Rattle.als_writer.specs.declared.work.Work.{Work}
use Rattle.als_asking.specs.Taking.{Tells}
use Rattle.als_asking.proofs.TakingLaws.{padded_is}
use Rattle.als_asking.proofs.taking.take_each.Goals as goal

pub returns-in-Ok-resize : goal.returns-in-Ok-resize
unfolding Tells
returns-in-Ok-resize g c =
    let len : vec_len c.commit-outcomes.result ≡ length c.commit-outcomes.result.items = omega arith in
    let count : c.len-count.result ≡ length c.args.transactions.items = omega (arith, c.len-count.ensures) in
    inl (record {
      outcomes = c.commit-outcomes.result.items;
      committed = subst (λ (l : List Work). g.C.Commits.commits c.args.commits.now l c.commit-outcomes.result.items c.commit-outcomes.new.self)
          c.in-Ok.ensures c.commit-outcomes.ensures;
      tells = padded_is c.len-count.result (length c.args.transactions.items) (vec_len c.commit-outcomes.result) c.commit-outcomes.result.items
          c.resize.new.self.items c.in-Ok-resize.ensures.items len count;
    })

pub returns-in-Err : goal.returns-in-Err
unfolding Tells
returns-in-Err g c = inl (record {
  outcomes = c.commit-outcomes.result.items;
  committed = subst (λ (l : List Work). g.C.Commits.commits c.args.commits.now l c.commit-outcomes.result.items c.commit-outcomes.new.self)
      c.in-Ok.ensures c.commit-outcomes.ensures;
  tells = refl;
})
