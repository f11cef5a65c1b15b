use Rattle.std.proofs.Common.{◌≡◌, ℕ, suc, ◌+◌, ◌<◌, ◌≤◌, true, nat_lt, Bool, ◌&&◌, cond, List, [], ◌∷◌, ◌++◌, length, map, None, refl, sym, ap, ◌∙◌, subst, arith, length-append}
use Rattle.std.specs.List.{AllByRecursion}
use Rattle.std.proofs.lemmas.Bool.{lt-ltb}
use Rattle.std.proofs.lemmas.List.{map-append}
use Rattle.als_record.specs.declared.record.Record.{Record as AnyRecord}
use Rattle.als_record.specs.Spelling.{Image, IsImage}
use Rattle.als_record.specs.LogText.{spellings}
use Rattle.als_record.specs.Images.{image_now}
use Rattle.als_record.specs.Commits.{Write}
use Rattle.als_writing.specs.Writing.{Move, Writes, moved}
use Rattle.als_lookback.specs.Seen.{IsSeenOf}
use Rattle.als_writing.specs.Placing.{IsPlaceOf, SoFar}
use Rattle.als_renew.specs.Pages.{key_at, write_at, page_writes, value_in}
use Rattle.als_writing.proofs.Before.{image_now-moved}
use Rattle.als_renew.proofs.PageWrites.{none-later, all_images-more}
use Rattle.als_writing.proofs.Spelt.{SoFar-none}
use Rattle.als_renew.proofs.Spelt.{SoFar-append}
use Rattle.als_renew.proofs.page.spell_values.Goals as goal

pub loop-slot-init : goal.loop-slot-init
unfolding page_writes
loop-slot-init c = record {
  so_far = λ held log is p nothing. SoFar-none log c.args.place.now.trans.0 c.args.piece.now.items c.args.place.now c.requires.empty p;
  counted = λ held is. refl;
  few = omega arith;
  images = λ held is. tt;
  trans = refl;
  end = omega arith;
}

-- the value that was found
value-is : (held : List AnyRecord) (page pages slot : ℕ) → page < pages → slot < 15
    → cond (nat_lt page pages && nat_lt slot 15) (value_in held (key_at page slot)) None ≡ value_in held (key_at page slot)
value-is held page pages slot inside low =
    let a : nat_lt page pages ≡ true = lt-ltb page pages inside in
    let b : nat_lt slot 15 ≡ true = lt-ltb slot 15 low in
    ap (λ (x : Bool). cond (x && nat_lt slot 15) (value_in held (key_at page slot)) None) a ∙ ap (λ (x : Bool). cond (true && x) (value_in held (key_at page slot)) None) b

next-is : (slot : ℕ) → slot + 1 ≡ suc slot
next-is slot = omega arith

-- the writes with one more slot
more-is : (held : List AnyRecord) (page slot : ℕ) (i : Image) → i ≡ value_in held (key_at page slot) → page_writes (value_in held) page (slot + 1) ≡ page_writes (value_in held) page slot ++ write_at (key_at page slot) i
unfolding page_writes
more-is held page slot i e =
    ap (page_writes (value_in held) page) (next-is slot) ∙ ap (λ (x : Image). page_writes (value_in held) page slot ++ write_at (key_at page slot) x) (sym e)

pub loop-slot-preserved : goal.loop-slot-preserved
loop-slot-preserved c =
    let page = c.args.page in
    let slot : ℕ = c.loop-slot.slot in
    let before = c.loop-slot.invariant in
    let t : ℕ = c.args.place.now.trans.0 in
    let same : c.loop-slot.place.trans.0 ≡ t = ap (λ x. x.0) before.trans in
    let found : (held : List AnyRecord) → IsSeenOf c.args.seen.now c.args.seen.now.pages held → c.value-after.result ≡ value_in held (key_at page slot) =
    λ held is. c.value-after.ensures.seen c.args.seen.now.pages held is ∙ value-is held page c.args.seen.now.pages slot c.requires.page (omega (arith, c.loop-slot-test.true)) in
    record {
      so_far = λ held log is p nothing.
          let ws : List Write = page_writes (value_in held) page slot in
          let done : List Move = map Writes ws in
          let h : SoFar log t done c.loop-slot.piece.items c.loop-slot.place = before.so_far held log is p nothing in
          let more : List Write = write_at (key_at page slot) c.value-after.result in
          let now : image_now (log ++ moved log t done) (key_at page slot) ≡ None =
          image_now-moved t (key_at page slot) ws log (none-later (value_in held) page slot slot (omega arith)) ∙ nothing slot (omega (arith, c.loop-slot-test.true)) in
          let spelled = c.in_ok-count.ensures.spelled (log ++ moved log t done) h.behind now in
          let goes_on = c.in_ok-count.ensures.goes_on (log ++ moved log t done) h.behind now in
          let whole : map Writes (page_writes (value_in held) page (slot + 1)) ≡ done ++ map Writes more = ap (map Writes) (more-is held page slot c.value-after.result (found held is)) ∙ map-append Writes ws more in
          subst (λ (moves : List Move). SoFar log t moves c.spell_value.new.piece.items c.spell_value.new.place) (sym whole)
          (SoFar-append log t done (map Writes more) c.loop-slot.piece.items c.spell_value.new.piece.items c.loop-slot.place c.spell_value.new.place h
          (subst (λ (x : ℕ). c.spell_value.new.piece.items ≡ c.loop-slot.piece.items ++ spellings (moved (log ++ moved log t done) x (map Writes more))) same spelled)
          (subst (λ (x : ℕ). IsPlaceOf c.spell_value.new.place ((log ++ moved log t done) ++ moved (log ++ moved log t done) x (map Writes more))) same goes_on));
      counted = λ held is.
          let ws : List Write = page_writes (value_in held) page slot in
          let more : List Write = write_at (key_at page slot) c.value-after.result in
          let all : length (page_writes (value_in held) page (slot + 1)) ≡ length ws + length more = ap (λ (vs : List Write). length vs) (more-is held page slot c.value-after.result (found held is)) ∙ length-append ws more in
          omega (arith, before.counted held is, all, c.in_ok-count.ensures.count);
      few = omega (arith, before.few, c.in_ok-count.ensures.one);
      images = λ held is.
          subst (λ (n : ℕ). AllByRecursion (λ (w : Write). IsImage w.after) (page_writes (value_in held) page n)) (sym (next-is slot))
          (all_images-more (value_in held) page slot IsImage (before.images held is) (subst IsImage (found held is) c.in_ok-count.ensures.image));
      trans = c.in_ok-count.ensures.trans ∙ before.trans;
      end = omega (arith, c.in_ok-count.ensures.most, before.end);
    }
