-- What is asked for behind `/keys/`.
use Rattle.std.specs.Prelude.{◌≡◌, ◌+◌, ℕ, List, take, drop, Option, Some, None}
use Rattle.std.specs.List.{position_from}
use Rattle.std.proofs.Common.{sym, ap, ◌∙◌}
use Rattle.als_keys.specs.Numbers.{number_of}
use Rattle.als_http.specs.Asking.{is_slash, key_asked, page_numbered, numbers_asked, slot_asked}
use Rattle.als_http.specs.declared.asked.Asked.{Asked}

pub slot_found : (text : List ℕ) (found : Option ℕ) (i : ℕ) (asked : Asked) → found ≡ position_from is_slash 0 text → found ≡ Some i
    → asked ≡ key_asked (number_of (take i text)) (number_of (drop (i + 1) text)) → asked ≡ slot_asked text
unfolding slot_asked
slot_found text found i asked p q key = key ∙ ap (numbers_asked text) (sym q ∙ p)

pub slot_missing : (text : List ℕ) (found : Option ℕ) (asked : Asked) → found ≡ position_from is_slash 0 text → found ≡ None
    → asked ≡ page_numbered (number_of text) → asked ≡ slot_asked text
unfolding slot_asked
slot_missing text found asked p q page = page ∙ ap (numbers_asked text) (sym q ∙ p)
