use Rattle.std.proofs.Common.{◌≡◌, ◌+◌, drop, take, ap, ap₂, ◌∙◌}
use Rattle.std.proofs.lemmas.List.{take_rest}
use Rattle.als_keys.specs.Numbers.{number_of}
use Rattle.als_http.specs.Asking.{key_asked}
use Rattle.als_http.specs.Asking.{page_numbered}
use Rattle.als_http.proofs.AskingLaws.{slot_found, slot_missing}
use Rattle.als_http.proofs.asking.slot_of.Goals as goal

pub returns-in-Some : goal.returns-in-Some
returns-in-Some c =
    let text = c.args.text.now in
    let at = c.in-Some.at in
    let front : c.number.result ≡ number_of (take at text) = c.number.ensures in
    let back : c.number-in-Some.result ≡ number_of (drop (at + 1) text) = c.number-in-Some.ensures ∙ ap number_of (take_rest text (at + 1)) in
    slot_found text c.slash_in.result at c.key_of.result c.slash_in.ensures.value c.in-Some.is (c.key_of.ensures ∙ ap₂ key_asked front back)

pub returns-in-None : goal.returns-in-None
returns-in-None c =
    let page : c.page_numbered.result ≡ page_numbered (number_of c.args.text.now) = c.page_numbered.ensures ∙ ap page_numbered c.number-in-None.ensures in
    slot_missing c.args.text.now c.slash_in.result c.page_numbered.result c.slash_in.ensures.value c.in-None.is page
