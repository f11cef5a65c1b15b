use Rattle.std.proofs.Common.{◌≡◌, List, length, sym, ap, ◌∙◌, subst}
use Rattle.std.proofs.lemmas.List.{with_items_is}
use Rattle.als_record.specs.Shown.{shown}
use Rattle.als_validator.specs.declared.key_state.KeyState.{KeyState}
use Rattle.als_validator.specs.Keys.{AreKeysOf}
use Rattle.als_validator.proofs.Bounds.{Follows, follows}
use Rattle.als_validator.proofs.judging.Judging.note.Goals as goal

pub returns : goal.returns
returns c pages log j valid stands =
    let r = shown c.args.logged.now in
    let f : Follows pages log r = follows pages log r valid in
    let len : length c.note_change.new.keys ≡ c.args.self.now.keys.len = c.note_change.auto.keys ∙ ap (λ (xs : List KeyState). length xs) c.as_mut_slice.ensures.value ∙ sym c.args.self.now.keys.ok.0 in
    record {
      survivors = c.note.ensures log j.survivors f.may stands;
      keys = rw with_items_is (c.note_change.ensures pages log (subst (λ ks. AreKeysOf ks pages log) (sym c.as_mut_slice.ensures.value) j.keys) valid);
      committed = c.note_commit.ensures log j.committed;
    }
