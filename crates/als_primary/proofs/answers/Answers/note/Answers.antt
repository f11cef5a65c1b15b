use Rattle.std.proofs.Common.{sym, subst, inl}
use Rattle.als_quorum.specs.declared.tally.Tally.{Tally}
use Rattle.als_quorum.specs.Tallies.{HadEnough, HadFew}
use Rattle.als_primary.proofs.answers.Answers.note.Goals as goal

pub returns-clause-enough : goal.returns-clause-enough
returns-clause-enough c = λ blocks k n h. inl (subst (λ (t : Tally). HadEnough blocks t k n) (sym c.of.ensures) h)

pub returns-clause-few : goal.returns-clause-few
returns-clause-few c = λ blocks k n h. inl (subst (λ (t : Tally). HadFew blocks t k n) (sym c.of.ensures) h)
