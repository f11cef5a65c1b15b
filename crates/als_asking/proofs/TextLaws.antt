-- Texts as lists of tokens, written a few at a time.
use Rattle.std.specs.Prelude.{◌≡◌, ℕ, List, [], ◌++◌}
use Rattle.std.proofs.Common.{sym, subst, ap, ◌∙◌, append_assoc}
use Rattle.json.specs.Token.{Token}
use Rattle.json.specs.Print.{print}
use Rattle.als_asking.specs.declared.told.Told.{Told}
use Rattle.als_asking.specs.Telling.{HasText}

pub text_same : (told : Told) (text sent old : List ℕ) → HasText told text → sent ≡ old ++ text → old ≡ [] → HasText told sent
text_same told text sent old has is none = subst (HasText told) (sym (is ∙ ap (λ (o : List ℕ). o ++ text) none)) has

pub printed : (text before : List ℕ) (tokens start all : List Token) → text ≡ before ++ print tokens → before ≡ []
    → tokens ≡ start ++ all → start ≡ [] → text ≡ print all
printed text before tokens start all is none more begun = rw (is, none, more, begun)

pub two : (start mid end a b : List Token) → mid ≡ start ++ a → end ≡ mid ++ b → end ≡ start ++ (a ++ b)
two start mid end a b p q = rw (q, p, append_assoc)

pub three : (start mid late end a b c : List Token) → mid ≡ start ++ a → late ≡ mid ++ b → end ≡ late ++ c
    → end ≡ start ++ (a ++ (b ++ c))
three start mid late end a b c p q r = two start mid end a (b ++ c) p (two mid late end b c q r)

pub four : (start mid late last end a b c d : List Token) → mid ≡ start ++ a → late ≡ mid ++ b → last ≡ late ++ c → end ≡ last ++ d
    → end ≡ start ++ (a ++ (b ++ (c ++ d)))
four start mid late last end a b c d p q r s = two start mid end a (b ++ (c ++ d)) p (three mid late last end b c d q r s)
