use Rattle.std.proofs.Common.{inl, ◌≡◌, List, ◌++◌, ◌∷◌, [], subst, ap, ◌∙◌}
use Rattle.als_writer.specs.declared.work.Work.{Work}
use Rattle.als_asking.specs.Taking.{Tells, first_of, work_of}
use Rattle.als_asking.proofs.taking.take_one.Goals as goal

pub returns-in-Ok : goal.returns-in-Ok
unfolding Tells
returns-in-Ok g c =
    let asked : c.push.new.self.items ≡ work_of c.args.manner c.args.transaction ∷ [] =
    c.in-Ok.ensures.items ∙ ap (λ (l : List Work). l ++ (c.work_of.result ∷ [])) c.new-asked.ensures.items ∙ ap (λ (w : Work). w ∷ []) c.work_of.ensures in
    inl (record {
      outcomes = c.commit.result.items;
      committed = subst (λ (l : List Work). g.C.Commits.commits c.args.commits.now l c.commit.result.items c.commit.new.self) asked c.commit.ensures;
      tells = c.first_of.ensures ∙ ap first_of c.as_slice.ensures.value;
    })
