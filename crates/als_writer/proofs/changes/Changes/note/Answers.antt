use Rattle.std.proofs.Common.{◌≡◌, ℕ, ◌*◌, ◌<◌, cond, List, length, set, get_or, ap, ◌∙◌, arith}
use Rattle.std.proofs.lemmas.List.{take_all}
use Rattle.std.specs.List.{list_any}
use Rattle.als_record.specs.Spelling.{IsKey}
use Rattle.als_record.specs.Images.{same_key}
use Rattle.als_record.specs.Commits.{Write}
use Rattle.als_writer.specs.Changes.{place_of}
use Rattle.als_writer.proofs.LastBounds.{noted_more, all_at, AreBounds-noted}
use Rattle.als_writer.proofs.changes.Changes.note.Goals as goal

pub loop-set-preserved : goal.loop-set-preserved
loop-set-preserved c = record {
  count = c.keep.ensures.len ∙ c.loop-set.invariant.count;
  each = λ pages count keys k d p s.
      let ws : List Write = c.args.sets.now in
      let i : ℕ = c.loop-set.set-index in
      let w : Write = c.set-item.result in
      let bounds : List ℕ = c.loop-set.self-inside.bounds.items in
      let is : IsKey pages w.key = all_at (λ w. IsKey pages w.key) ws i w keys c.loop-set-test.true c.set-item.is in
      let key : c.place.result ≡ place_of w.key = c.place.ensures ∙ ap (λ (x : Write). place_of x.key) c.set.view_is in
      let len : length bounds ≡ pages * 15 = c.loop-set.invariant.count ∙ count in
      let within : place_of w.key < length bounds = omega (arith, len, is.page, is.slot) in
      let kept = c.keep.ensures.kept (omega (arith, key, within)) ∙ ap (λ (at : ℕ). set bounds at c.args.lsn.0) key in
      ap (λ (xs : List ℕ). get_or xs (place_of k) d) kept
      ∙ noted_more bounds ws i w k c.args.lsn.0 (get_or c.args.self.now (place_of k) d) d c.loop-set-test.true c.set-item.is is.slot s within
      (c.loop-set.invariant.each pages count keys k d p s);
}

pub returns : goal.returns
returns c pages log more a keys last =
    AreBounds-noted c.args.self.now c.loop-set.self-inside.bounds.items pages c.args.lsn.0 c.args.sets.now log more a c.loop-set.invariant.count
    (λ k d p s. c.loop-set.invariant.each pages a.count keys k d p s ∙ ap (λ (x : List Write). cond (list_any (λ w. same_key w.key k) x) c.args.lsn.0 (get_or c.args.self.now (place_of k) d)) (take_all c.loop-set.set-index c.args.sets.now c.loop-set-test.false)) last
