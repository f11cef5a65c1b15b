use Rattle.std.proofs.Common.{◌≡◌, ℕ, ◌<◌, ◌^◌, true, List, All, subst, arith, ◌∙◌, sym}
use Rattle.std.proofs.lemmas.List.Elements.{All-more}
use Rattle.std.proofs.lemmas.List.{take_all}
use Rattle.als_record.specs.Spelling.{IsKey}
use Rattle.als_record.specs.Reading.{is_key}
use Rattle.als_writer.specs.declared.ask.Ask.{Ask}
use Rattle.als_writer.specs.Checking.{key_asked}
use Rattle.als_writer.proofs.Checked.{key_in}
use Rattle.als_writer.proofs.checking.asked_outside.Goals as goal

pub loop-ask-preserved : goal.loop-ask-preserved
loop-ask-preserved c =
    let pages : ℕ = c.args.pages in
    let asks : List Ask = c.args.asks.now in
    let width : c.asked-key.result.page < 2 ^ 32 = omega arith in
    let e : is_key pages c.asked-key.result ≡ true = sym c.is_in.ensures ∙ c.if-not-is_in.false in
    let k : IsKey pages c.asked-key.result = key_in pages c.asked-key.result width e in
    All-more (λ (a : Ask). IsKey pages (key_asked a)) asks c.loop-ask.ask-index c.ask-item.result c.loop-ask-test.true c.loop-ask.invariant
    (subst (λ (a : Ask). IsKey pages (key_asked a)) c.ask-item.is (subst (IsKey pages) c.asked-key.ensures k))

pub returns : goal.returns
returns c = subst (All (λ (a : Ask). IsKey c.args.pages (key_asked a))) (take_all c.loop-ask.ask-index c.args.asks.now c.loop-ask-test.false) c.loop-ask.invariant
