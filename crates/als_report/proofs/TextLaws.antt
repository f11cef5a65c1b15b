-- Texts as lists of tokens, written a few at a time.
use Rattle.std.specs.Prelude.{◌≡◌, ℕ, Bool, List, [], ◌∷◌, ◌++◌}
use Rattle.std.proofs.Common.{ap, ◌∙◌, append_assoc}
use Rattle.json.specs.Token.{Token, string, boolean}
use Rattle.json.specs.Print.{print}
use Rattle.als_report.specs.Followers.{number_tokens}

pub printed : (text before : List ℕ) (tokens start all : List Token) → text ≡ before ++ print tokens → before ≡ []
    → tokens ≡ start ++ all → start ≡ [] → text ≡ print all
printed text before tokens start all is none more begun = rw (is, none, more, begun)

pub two : (start mid end a b : List Token) → mid ≡ start ++ a → end ≡ mid ++ b → end ≡ start ++ (a ++ b)
two start mid end a b p q = rw (q, p, append_assoc)

pub three : (start mid late end a b c : List Token) → mid ≡ start ++ a → late ≡ mid ++ b → end ≡ late ++ c
    → end ≡ start ++ (a ++ (b ++ c))
three start mid late end a b c p q r = two start mid end a (b ++ c) p (two mid late end b c q r)

pub four : (start mid late last end a b c d : List Token) → mid ≡ start ++ a → late ≡ mid ++ b → last ≡ late ++ c → end ≡ last ++ d
    → end ≡ start ++ (a ++ (b ++ (c ++ d)))
four start mid late last end a b c d p q r s = two start mid end a (b ++ (c ++ d)) p (three mid late last end b c d q r s)

pub five : (start mid late more last end a b c d e : List Token) → mid ≡ start ++ a → late ≡ mid ++ b → more ≡ late ++ c → last ≡ more ++ d
    → end ≡ last ++ e → end ≡ start ++ (a ++ (b ++ (c ++ (d ++ e))))
five start mid late more last end a b c d e p q r s t = two start mid end a (b ++ (c ++ (d ++ e))) p (four mid late more last end b c d e q r s t)

pub six : (start mid late more much last end a b c d e f : List Token) → mid ≡ start ++ a → late ≡ mid ++ b → more ≡ late ++ c → much ≡ more ++ d
    → last ≡ much ++ e → end ≡ last ++ f → end ≡ start ++ (a ++ (b ++ (c ++ (d ++ (e ++ f)))))
six start mid late more much last end a b c d e f p q r s t u =
    two start mid end a (b ++ (c ++ (d ++ (e ++ f)))) p (five mid late more much last end b c d e f q r s t u)

pub seven : (start mid late more much near last end a b c d e f g : List Token) → mid ≡ start ++ a → late ≡ mid ++ b → more ≡ late ++ c → much ≡ more ++ d
    → near ≡ much ++ e → last ≡ near ++ f → end ≡ last ++ g → end ≡ start ++ (a ++ (b ++ (c ++ (d ++ (e ++ (f ++ g))))))
seven start mid late more much near last end a b c d e f g p q r s t u v =
    two start mid end a (b ++ (c ++ (d ++ (e ++ (f ++ g))))) p (six mid late more much near last end b c d e f g q r s t u v)

-- a member whose number is another name of the one that is written
pub number_is : (end start : List Token) (name : List ℕ) (n m : ℕ) → end ≡ start ++ number_tokens name n → n ≡ m → end ≡ start ++ number_tokens name m
number_is end start name n m p q = p ∙ ap (λ (k : ℕ). start ++ number_tokens name k) q

-- a text that is another name of the one that is written
pub string_is : (end start : List Token) (s t : List ℕ) → end ≡ start ++ string s ∷ [] → s ≡ t → end ≡ start ++ string t ∷ []
string_is end start s t p q = p ∙ ap (λ (k : List ℕ). start ++ string k ∷ []) q

-- a truth that is another name of the one that is written
pub flag_is : (end start : List Token) (b c : Bool) → end ≡ start ++ boolean b ∷ [] → b ≡ c → end ≡ start ++ boolean c ∷ []
flag_is end start b c p q = p ∙ ap (λ (k : Bool). start ++ boolean k ∷ []) q
