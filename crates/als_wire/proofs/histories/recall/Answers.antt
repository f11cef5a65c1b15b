use Rattle.std.proofs.Common.{◌≡◌, ◌*◌, Some, None, refl, sym, ◌∙◌, arith}
use Rattle.std.proofs.lemmas.List.{take_all}
use Rattle.als_wire.proofs.histories.recall.Goals as goal

pub returns-in-Some-clause-found : goal.returns-in-Some-clause-found
returns-in-Some-clause-found c =
    let found = c.in-Some.ensures.found in
    (found.0, found.1, sym (take_all (8 * c.args.epoch) c.args.bytes.now (omega (arith, c.requires))) ∙ found.2)

pub returns-in-None-clause-fails : goal.returns-in-None-clause-fails
returns-in-None-clause-fails c = (
  refl,
  record {
    none = λ seals rest history len is.
        let found : c.decode.result ≡ Some seals = c.decode.ensures.only seals rest history len is in
        let none : c.decode.result ≡ None = c.in-None.is in
        absurd (cc (found, none));
  },
)
