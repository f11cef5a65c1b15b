use Rattle.std.proofs.Common.{◌≡◌, ℕ, ◌+◌, ◌≤◌, List, [], ◌∷◌, ◌++◌, length, map, take, refl, sym, ap, ◌∙◌, subst, arith}
use Rattle.std.proofs.lemmas.List.{take_all}
use Rattle.als_record.specs.declared.record.Body.TheVariants.{Update}
use Rattle.als_record.specs.declared.record.Record.{Record as AnyRecord}
use Rattle.als_record.specs.Spelling.{Image, record_len, spelling}
use Rattle.als_record.specs.LogText.{spellings, end_of}
use Rattle.als_record.specs.Images.{image_now}
use Rattle.als_record.specs.Commits.{Write}
use Rattle.als_writing.specs.Writing.{Move, Writes, Commits, Ends, Prepares, body_for, record_for, moved, updates}
use Rattle.als_writing.specs.declared.place.Place.{Place}
use Rattle.als_writing.specs.Placing.{IsPlaceOf, SoFar}
use Rattle.als_writing.proofs.Before.{image_now-moved}
use Rattle.als_writing.proofs.Spelt.{SoFar-none, SoFar-more, Spelled-more, all-updates, whole-transaction, end_of-more, committed, ended, end_len}
use Rattle.als_writer.specs.declared.closing.Closing.{Closing}
use Rattle.als_writer.specs.Closing.{records_for}
use Rattle.als_writer.proofs.Spelt.{take-writes, whole-prepared}
use Rattle.als_writer.proofs.spelling.spell.Goals as goal

pub loop-i-init : goal.loop-i-init
loop-i-init c = record {
  so_far = λ log p b a. SoFar-none log c.args.start.trans.0 c.in_ok-piece.piece.items c.args.start c.in_ok-piece.ensures.items p;
  trans = refl;
  end = omega arith;
}

pub loop-i-preserved : goal.loop-i-preserved
loop-i-preserved c =
    let t : ℕ = c.args.start.trans.0 in
    let i : ℕ = c.loop-i.i in
    let ws : List Write = c.args.sets.now in
    let w : Write = c.index-sets-i.result in
    let b : Image = c.index-befores-i.result in
    let before = c.loop-i.invariant in
    record {
      so_far = λ log p befores apart.
          let done : List Move = map Writes (take i ws) in
          let h : SoFar log t done c.loop-i.piece.items c.loop-i.place = before.so_far log p befores apart in
          let now : image_now (log ++ moved log t done) w.key ≡ image_now log w.key = image_now-moved t w.key (take i ws) log (apart i w c.loop-i-test.true c.index-sets-i.is) in
          let says : c.update_of-body.result ≡ body_for (log ++ moved log t done) (Writes w) =
          c.update_of-body.ensures.says ∙ ap (λ (x : Image). Update w.key x w.after) (befores i w b c.loop-i-test.true c.index-sets-i.is c.index-befores-i.is ∙ sym now) in
          let same : c.loop-i.place.trans.0 ≡ t = ap (λ x. x.0) before.trans in
          let e : c.spell.new.piece.items ≡ c.loop-i.piece.items ++ spelling (record_for (log ++ moved log t done) t (Writes w)) =
          c.in_ok-spell.ensures.spelled (log ++ moved log t done) (Writes w) h.behind says ∙ ap (λ (n : ℕ). c.loop-i.piece.items ++ spelling (record_for (log ++ moved log t done) n (Writes w))) same in
          let says_kind : c.update_of-body.result ≡ Update w.key b w.after = c.update_of-body.ensures.says in
          let n : IsPlaceOf c.spell.new.self ((log ++ moved log t done) ++ record_for (log ++ moved log t done) t (Writes w) ∷ []) =
          subst (λ (n : ℕ). IsPlaceOf c.spell.new.self ((log ++ moved log t done) ++ record_for (log ++ moved log t done) n (Writes w) ∷ [])) same
          (c.in_ok-spell.ensures.goes_on (log ++ moved log t done) (Writes w) h.behind says (rw says_kind refl) (rw says_kind refl)) in
          subst (λ (d : List Move). SoFar log t d c.spell.new.piece.items c.spell.new.self) (sym (take-writes ws i w c.loop-i-test.true c.index-sets-i.is))
          (SoFar-more log t done c.loop-i.piece.items c.spell.new.piece.items c.loop-i.place c.spell.new.self (Writes w) h e n);
      trans = c.in_ok-spell.ensures.trans ∙ before.trans;
      end = omega (arith, c.in_ok-spell.ensures.end, before.end, c.update_of-body.ensures.most);
    }

-- all updates are spelled
updated : (log : List AnyRecord) (t : ℕ) (ws : List Write) (i : ℕ) (piece : List ℕ) (place : Place) → length ws ≤ i → SoFar log t (map Writes (take i ws)) piece place → SoFar log t (map Writes ws) piece place
updated log t ws i piece place over h = subst (λ (vs : List Write). SoFar log t (map Writes vs) piece place) (take_all i ws over) h

prepare_len : (log : List AnyRecord) (t : ℕ) → record_len (record_for log t Prepares) ≡ 28
unfolding record_len
prepare_len log t = refl

-- where the updates end
updates_end : (log : List AnyRecord) (t : ℕ) (ws : List Write) (i : ℕ) (piece : List ℕ) (place : Place) → length ws ≤ i → SoFar log t (map Writes (take i ws)) piece place → place.end.0 ≡ end_of (log ++ updates log t ws)
updates_end log t ws i piece place over h =
    (updated log t ws i piece place over h).behind.end ∙ ap (λ (more : List AnyRecord). end_of (log ++ more)) (all-updates log t ws)

pub returns-in_ok-spell-in-Commit-2-clause-lsn : goal.returns-in_ok-spell-in-Commit-2-clause-lsn
returns-in_ok-spell-in-Commit-2-clause-lsn c log p befores apart =
    updates_end log c.args.start.trans.0 c.args.sets.now c.loop-i.i c.loop-i.piece.items c.loop-i.place c.loop-i-test.false (c.loop-i.invariant.so_far log p befores apart)

pub returns-in_ok-spell-in-Prepare-clause-lsn : goal.returns-in_ok-spell-in-Prepare-clause-lsn
returns-in_ok-spell-in-Prepare-clause-lsn c log p befores apart =
    updates_end log c.args.start.trans.0 c.args.sets.now c.loop-i.i c.loop-i.piece.items c.loop-i.place c.loop-i-test.false (c.loop-i.invariant.so_far log p befores apart)

pub returns-in_ok-spell-in-Commit-2-clause-piece : goal.returns-in_ok-spell-in-Commit-2-clause-piece
returns-in_ok-spell-in-Commit-2-clause-piece c log p befores apart =
    let t : ℕ = c.args.start.trans.0 in
    let ws : List Write = c.args.sets.now in
    let done : List Move = map Writes ws in
    let same : c.loop-i.place.trans.0 ≡ t = ap (λ x. x.0) c.loop-i.invariant.trans in
    let h : SoFar log t done c.loop-i.piece.items c.loop-i.place = updated log t ws c.loop-i.i c.loop-i.piece.items c.loop-i.place c.loop-i-test.false (c.loop-i.invariant.so_far log p befores apart) in
    let n : SoFar log t (done ++ Commits ∷ []) c.spell-in-Commit.new.piece.items c.spell-in-Commit.new.self =
    committed log t done c.loop-i.piece.items c.spell-in-Commit.new.piece.items c.loop-i.place c.spell-in-Commit.new.self same h
    (c.in_ok-spell-in-Commit.ensures.spelled (log ++ moved log t done) Commits h.behind refl)
    (c.in_ok-spell-in-Commit.ensures.goes_on (log ++ moved log t done) Commits h.behind refl refl refl) in
    let same_next : c.spell-in-Commit.new.self.trans.0 ≡ t = ap (λ x. x.0) c.in_ok-spell-in-Commit.ensures.trans ∙ same in
    subst (λ (b : Closing). c.spell-in-Commit-2.new.piece.items ≡ spellings (records_for b log t ws)) (sym c.in-Commit.is)
    (ended log t (done ++ Commits ∷ []) c.spell-in-Commit.new.piece.items c.spell-in-Commit-2.new.piece.items c.spell-in-Commit.new.self same_next n
    (c.in_ok-spell-in-Commit-2.ensures.spelled (log ++ moved log t (done ++ Commits ∷ [])) Ends n.behind refl)
    ∙ ap spellings (whole-transaction log t ws))

pub returns-in_ok-spell-in-Commit-2-clause-end : goal.returns-in_ok-spell-in-Commit-2-clause-end
returns-in_ok-spell-in-Commit-2-clause-end c log p befores apart =
    let t : ℕ = c.args.start.trans.0 in
    let ws : List Write = c.args.sets.now in
    let done : List Move = map Writes ws in
    let same : c.loop-i.place.trans.0 ≡ t = ap (λ x. x.0) c.loop-i.invariant.trans in
    let h : SoFar log t done c.loop-i.piece.items c.loop-i.place = updated log t ws c.loop-i.i c.loop-i.piece.items c.loop-i.place c.loop-i-test.false (c.loop-i.invariant.so_far log p befores apart) in
    let n : SoFar log t (done ++ Commits ∷ []) c.spell-in-Commit.new.piece.items c.spell-in-Commit.new.self =
    committed log t done c.loop-i.piece.items c.spell-in-Commit.new.piece.items c.loop-i.place c.spell-in-Commit.new.self same h
    (c.in_ok-spell-in-Commit.ensures.spelled (log ++ moved log t done) Commits h.behind refl)
    (c.in_ok-spell-in-Commit.ensures.goes_on (log ++ moved log t done) Commits h.behind refl refl refl) in
    let m : List AnyRecord = log ++ moved log t (done ++ Commits ∷ []) in
    let last : c.spell-in-Commit-2.new.self.end.0 ≡ c.spell-in-Commit.new.self.end.0 + 28 = omega (arith, c.in_ok-spell-in-Commit-2.ensures.end) in
    subst (λ (b : Closing). c.spell-in-Commit-2.new.self.end.0 ≡ end_of (log ++ records_for b log t ws)) (sym c.in-Commit.is)
    (last
    ∙ ap (λ (x : ℕ). x + 28) n.behind.end
    ∙ ap (λ (x : ℕ). end_of m + x) (sym (end_len m t))
    ∙ sym (end_of-more log t (done ++ Commits ∷ []) Ends)
    ∙ ap (λ (more : List AnyRecord). end_of (log ++ more)) (whole-transaction log t ws))

pub returns-in_ok-spell-in-Prepare-clause-piece : goal.returns-in_ok-spell-in-Prepare-clause-piece
returns-in_ok-spell-in-Prepare-clause-piece c log p befores apart =
    let t : ℕ = c.args.start.trans.0 in
    let ws : List Write = c.args.sets.now in
    let done : List Move = map Writes ws in
    let same : c.loop-i.place.trans.0 ≡ t = ap (λ x. x.0) c.loop-i.invariant.trans in
    let h : SoFar log t done c.loop-i.piece.items c.loop-i.place = updated log t ws c.loop-i.i c.loop-i.piece.items c.loop-i.place c.loop-i-test.false (c.loop-i.invariant.so_far log p befores apart) in
    let e : c.spell-in-Prepare.new.piece.items ≡ c.loop-i.piece.items ++ spelling (record_for (log ++ moved log t done) t Prepares) =
    c.in_ok-spell-in-Prepare.ensures.spelled (log ++ moved log t done) Prepares h.behind refl ∙ ap (λ (x : ℕ). c.loop-i.piece.items ++ spelling (record_for (log ++ moved log t done) x Prepares)) same in
    subst (λ (b : Closing). c.spell-in-Prepare.new.piece.items ≡ spellings (records_for b log t ws)) (sym c.in-Prepare.is)
    (Spelled-more log t done c.loop-i.piece.items c.spell-in-Prepare.new.piece.items Prepares h.spelled e
    ∙ ap spellings (whole-prepared log t ws))

pub returns-in_ok-spell-in-Prepare-clause-end : goal.returns-in_ok-spell-in-Prepare-clause-end
returns-in_ok-spell-in-Prepare-clause-end c log p befores apart =
    let t : ℕ = c.args.start.trans.0 in
    let ws : List Write = c.args.sets.now in
    let done : List Move = map Writes ws in
    let h : SoFar log t done c.loop-i.piece.items c.loop-i.place = updated log t ws c.loop-i.i c.loop-i.piece.items c.loop-i.place c.loop-i-test.false (c.loop-i.invariant.so_far log p befores apart) in
    let m : List AnyRecord = log ++ moved log t done in
    let last : c.spell-in-Prepare.new.self.end.0 ≡ c.loop-i.place.end.0 + 28 = omega (arith, c.in_ok-spell-in-Prepare.ensures.end) in
    subst (λ (b : Closing). c.spell-in-Prepare.new.self.end.0 ≡ end_of (log ++ records_for b log t ws)) (sym c.in-Prepare.is)
    (last
    ∙ ap (λ (x : ℕ). x + 28) h.behind.end
    ∙ ap (λ (x : ℕ). end_of m + x) (sym (prepare_len m t))
    ∙ sym (end_of-more log t done Prepares)
    ∙ ap (λ (more : List AnyRecord). end_of (log ++ more)) (whole-prepared log t ws))
