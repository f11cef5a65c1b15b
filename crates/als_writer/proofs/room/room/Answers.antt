use Rattle.std.proofs.Common.{◌≡◌, ℕ, ◌+◌, ◌*◌, List, [], ◌∷◌, ◌++◌, map, take, sym, ap, ◌∙◌, subst, arith}
use Rattle.std.specs.Prelude.{All}
use Rattle.std.proofs.lemmas.List.{take_all, take_more}
use Rattle.std.proofs.lemmas.List.Elements.{All-more}
use Rattle.als_record.specs.declared.record.Record.{Record as AnyRecord}
use Rattle.als_record.specs.Spelling.{Image, image_len, IsImage}
use Rattle.als_record.specs.Images.{image_now}
use Rattle.als_record.specs.Commits.{Write}
use Rattle.als_writing.specs.Writing.{Writes, moved, room_for}
use Rattle.als_writing.proofs.Before.{image_now-moved}
use Rattle.als_writer.proofs.Roomy.{room_for-none, room_for-more}
use Rattle.als_writer.proofs.room.room.Goals as goal

pub loop-i-init : goal.loop-i-init
loop-i-init c = record {
  so_far = λ log t b a. sym (room_for-none log t);
  most = omega arith;
  images = λ k d lt. absurd (omega arith);
}

pub loop-i-preserved : goal.loop-i-preserved
loop-i-preserved c =
    let i : ℕ = c.loop-i.i in
    let ws : List Write = c.args.sets.now in
    let w : Write = c.index-sets-i.result in
    let b : Image = c.index-befores-i.result in
    record {
      so_far = λ log t befores apart.
          let us : List AnyRecord = moved log t (map Writes (take i ws)) in
          let now : image_now (log ++ us) w.key ≡ b =
          image_now-moved t w.key (take i ws) log (apart i w c.loop-i-test.true c.index-sets-i.is)
          ∙ sym (befores i w b c.loop-i-test.true c.index-sets-i.is c.index-befores-i.is) in
          let next : take (i + 1) ws ≡ take i ws ++ w ∷ [] = take_more ws i w c.loop-i-test.true ∙ ap (λ (x : Write). take i ws ++ x ∷ []) (sym c.index-sets-i.is) in
          let step : room_for log t (take (i + 1) ws) ≡ room_for log t (take i ws) + (77 + 2 * image_len (image_now (log ++ us) w.key) + image_len w.after) = ap (room_for log t) next ∙ room_for-more log t (take i ws) w in
          let same : image_len (image_now (log ++ us) w.key) ≡ image_len b = ap image_len now in
          let before : c.loop-i.bytes ≡ room_for log t (take i ws) = c.loop-i.invariant.so_far log t befores apart in
          omega (arith, c.update_room-bytes.ensures.room, step, same, before);
      most = omega (arith, c.update_room-bytes.ensures.most, c.loop-i.invariant.most);
      images = All-more (λ (v : Write). IsImage v.after) ws i w c.loop-i-test.true c.loop-i.invariant.images
          (subst (λ (v : Write). IsImage v.after) c.index-sets-i.is c.update_room-bytes.ensures.image);
    }

pub returns-clause-room : goal.returns-clause-room
returns-clause-room c log t befores apart =
    c.loop-i.invariant.so_far log t befores apart ∙ ap (room_for log t) (take_all c.loop-i.i c.args.sets.now c.loop-i-test.false)

pub returns-clause-images : goal.returns-clause-images
returns-clause-images c = subst (All (λ (w : Write). IsImage w.after)) (take_all c.loop-i.i c.args.sets.now c.loop-i-test.false) c.loop-i.invariant.images
