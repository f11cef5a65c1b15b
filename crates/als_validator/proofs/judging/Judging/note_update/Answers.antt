use Rattle.std.proofs.Common.{◌≡◌, List, length, sym, ap, ◌∙◌, subst}
use Rattle.std.proofs.lemmas.List.{with_items_is}
use Rattle.als_record.specs.Shown.{shown, shown_image}
use Rattle.als_record.specs.Transactions.{is_commit}
use Rattle.als_validator.specs.declared.key_state.KeyState.{KeyState}
use Rattle.als_validator.specs.Keys.{AreKeysOf}
use Rattle.als_validator.proofs.Bounds.{Follows, follows}
use Rattle.als_validator.proofs.StateSteps.{committed-keep}
use Rattle.als_validator.proofs.judging.Judging.note_update.Goals as goal

pub returns : goal.returns
returns c pages log j valid stands =
    let r = shown c.args.logged.now in
    let f : Follows pages log r = follows pages log r valid in
    let len : length c.note_update-2.new.keys ≡ c.args.self.now.keys.len = c.note_update-2.auto.keys ∙ ap (λ (xs : List KeyState). length xs) c.as_mut_slice.ensures.value ∙ sym c.args.self.now.keys.ok.0 in
    record {
      survivors = c.note_update.ensures log j.survivors f.may stands;
      keys = rw with_items_is (c.note_update-2.ensures pages log (shown_image c.args.before.now) (subst (λ ks. AreKeysOf ks pages log) (sym c.as_mut_slice.ensures.value) j.keys) c.requires.shows valid);
      committed = committed-keep c.args.self.now.committed.items log r j.committed (ap is_commit c.requires.shows);
    }
