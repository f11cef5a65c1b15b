use Rattle.std.proofs.Common.{◌≡◌, ℕ, not, List, [], ◌∷◌, ◌++◌, length, map, None, refl, sym, ap, ◌∙◌, subst, append-nil}
use Rattle.als_record.specs.declared.record.Body.TheVariants.{Update}
use Rattle.als_record.specs.declared.record.Record.{Record as AnyRecord}
use Rattle.als_record.specs.Spelling.{Image}
use Rattle.als_record.specs.LogText.{spellings}
use Rattle.als_record.specs.Commits.{Write}
use Rattle.als_record.proofs.LogLaws.{spellings-nil}
use Rattle.als_writing.specs.Writing.{Writes, body_for, record_for, moved}
use Rattle.als_writing.specs.Placing.{IsPlaceOf}
use Rattle.als_renew.specs.Pages.{write_at}
use Rattle.als_renew.proofs.Spelt.{write_at-none, write_at-some, moved-nothing, moved-one, spellings-one}
use Rattle.als_renew.proofs.page.spell_value.Goals as goal

pub returns-then-is_none-clause-spelled : goal.returns-then-is_none-clause-spelled
returns-then-is_none-clause-spelled c log p none =
    let e : write_at c.args.key c.args.after ≡ [] = write_at-none c.args.key c.args.after (c.is_none.ensures ∙ ap not c.if-is_none.true) in
    let nothing : spellings (moved log c.args.place.now.trans.0 (map Writes (write_at c.args.key c.args.after))) ≡ [] =
    ap (λ (ws : List Write). spellings (moved log c.args.place.now.trans.0 (map Writes ws))) e ∙ ap spellings (moved-nothing log c.args.place.now.trans.0) ∙ spellings-nil in
    sym (ap (λ (b : List ℕ). c.args.piece.now.items ++ b) nothing ∙ append-nil c.args.piece.now.items)

pub returns-then-is_none-clause-goes_on : goal.returns-then-is_none-clause-goes_on
returns-then-is_none-clause-goes_on c log p none =
    let e : write_at c.args.key c.args.after ≡ [] = write_at-none c.args.key c.args.after (c.is_none.ensures ∙ ap not c.if-is_none.true) in
    let same : log ++ moved log c.args.place.now.trans.0 (map Writes (write_at c.args.key c.args.after)) ≡ log =
    ap (λ (ws : List Write). log ++ moved log c.args.place.now.trans.0 (map Writes ws)) e ∙ ap (λ (more : List AnyRecord). log ++ more) (moved-nothing log c.args.place.now.trans.0) ∙ append-nil log in
    subst (IsPlaceOf c.args.place.now) (sym same) p

pub returns-clause-spelled : goal.returns-clause-spelled
returns-clause-spelled c log p none =
    let t : ℕ = c.args.place.now.trans.0 in
    let w : Write = record { key = c.args.key; after = c.args.after } in
    let e : write_at c.args.key c.args.after ≡ w ∷ [] = write_at-some c.args.key c.args.after (c.is_none.ensures ∙ ap not c.if-is_none.false) in
    let says : Update c.args.key None c.args.after ≡ body_for log (Writes w) = ap (λ (i : Image). Update c.args.key i c.args.after) (sym none) in
    c.in_ok-spell.ensures.spelled log (Writes w) p says
    ∙ ap (λ (b : List ℕ). c.args.piece.now.items ++ b) (sym (spellings-one log t (Writes w)) ∙ ap (λ (ws : List Write). spellings (moved log t (map Writes ws))) (sym e))

pub returns-clause-goes_on : goal.returns-clause-goes_on
returns-clause-goes_on c log p none =
    let t : ℕ = c.args.place.now.trans.0 in
    let w : Write = record { key = c.args.key; after = c.args.after } in
    let e : write_at c.args.key c.args.after ≡ w ∷ [] = write_at-some c.args.key c.args.after (c.is_none.ensures ∙ ap not c.if-is_none.false) in
    let says : Update c.args.key None c.args.after ≡ body_for log (Writes w) = ap (λ (i : Image). Update c.args.key i c.args.after) (sym none) in
    let same : log ++ record_for log t (Writes w) ∷ [] ≡ log ++ moved log t (map Writes (write_at c.args.key c.args.after)) =
    ap (λ (more : List AnyRecord). log ++ more) (sym (moved-one log t (Writes w))) ∙ ap (λ (ws : List Write). log ++ moved log t (map Writes ws)) (sym e) in
    subst (IsPlaceOf c.spell.new.self) same (c.in_ok-spell.ensures.goes_on log (Writes w) p says refl refl)

pub returns-then-is_none-clause-count : goal.returns-then-is_none-clause-count
returns-then-is_none-clause-count c = sym (ap (λ (ws : List Write). length ws) (write_at-none c.args.key c.args.after (c.is_none.ensures ∙ ap not c.if-is_none.true)))

pub returns-clause-count : goal.returns-clause-count
returns-clause-count c = sym (ap (λ (ws : List Write). length ws) (write_at-some c.args.key c.args.after (c.is_none.ensures ∙ ap not c.if-is_none.false)))
