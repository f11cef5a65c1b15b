-- What was handed out and has no answer yet.
use Rattle.std.proofs.Common.{◌≡◌, List, [], ◌∷◌, ◌++◌, map, drop, length, refl, ap, sym, ◌∙◌, append_assoc, arith}
use Rattle.std.proofs.lemmas.List.{append-nil, map-append}
use Rattle.als_writer.specs.declared.work.Work.{Work}
use Rattle.als_lead.specs.declared.answer.Answer.{Answer}
use Rattle.als_lead.specs.declared.asked.Asked.{Asked}
use Rattle.als_lead.specs.declared.told.Told.{Told}
use Rattle.als_lead.specs.Answers.{asked_of}
use Rattle.als_tickets.specs.declared.reply.Reply.{Reply}
use Rattle.als_primary.specs.Telling.{told_by}

cancel : {X : Type 0} (front xs ys : List X) → front ++ xs ≡ front ++ ys → xs ≡ ys
cancel [] xs ys e = e
cancel (x ∷ front) xs ys e = cancel front xs ys (cc e)

-- one more is handed out
pub hands_one : {B : Type 0} (f : B → Asked) (front : List Asked) (old new : List B) (b : B) (asked : Asked) → new ≡ old ++ b ∷ [] → asked ≡ f b → front ++ map f new ≡ (front ++ map f old) ++ asked ∷ []
hands_one {B} f front old new b asked joins is =
    ap (λ (bs : List B). front ++ map f bs) joins
    ∙ ap (λ (later : List Asked). front ++ later) (map-append f old (b ∷ []))
    ∙ sym (append_assoc front (map f old) (f b ∷ []))
    ∙ ap (λ (a : Asked). (front ++ map f old) ++ a ∷ []) (sym is)

-- nothing waits
pub none_wait : {B : Type 0} (f : B → Asked) (front : List Asked) (waiting : List B) → waiting ≡ [] → front ++ map f waiting ≡ front
none_wait {B} f front waiting none = ap (λ (bs : List B). front ++ map f bs) none ∙ append-nil front

-- the first that waits is the one that is answered
pub first_waits : {B : Type 0} (f : B → Asked) (front : List Asked) (waiting later : List B) (b : B) (asked : Asked) (rest : List Asked) → front ++ map f waiting ≡ front ++ asked ∷ rest → waiting ≡ b ∷ later
    → f b ≡ asked
first_waits f front waiting later b asked rest e pops =
    let heads : map f (b ∷ later) ≡ asked ∷ rest = ap (map f) (sym pops) ∙ cancel front (map f waiting) (asked ∷ rest) e in
    cc heads

-- of nothing nothing leaves
pub none_leaves : {B : Type 0} (waiting later : List B) → waiting ≡ later → later ≡ drop 1 waiting → waiting ≡ []
none_leaves [] later same is = refl
none_leaves {B} (b ∷ waiting) later same is =
    let shorter : b ∷ waiting ≡ waiting = same ∙ is in
    absurd (omega (arith, ap length shorter))

-- there is one
pub some_waits : {B : Type 0} (f : B → Asked) (front : List Asked) (waiting : List B) (asked : Asked) (rest : List Asked) → front ++ map f waiting ≡ front ++ asked ∷ rest → waiting ≡ [] → ⊥
some_waits f front waiting asked rest e none =
    let heads : map f [] ≡ asked ∷ rest = ap (map f) (sym none) ∙ cancel front (map f waiting) (asked ∷ rest) e in
    cc heads

-- one more was put into a slot
pub told_one : (old new : List (Reply Work Answer)) (r : Reply Work Answer) (x : Told) → new ≡ old ++ r ∷ [] → told_by r ≡ x → map told_by new ≡ map told_by old ++ x ∷ []
told_one old new r x is same = ap (map told_by) is ∙ map-append told_by old (r ∷ []) ∙ ap (λ (t : Told). map told_by old ++ t ∷ []) same

-- and it waits no more
pub tells_one : {B : Type 0} (f : B → Asked) (old new : List Told) (x : Told) (waiting later : List B) (b : B) → new ≡ old ++ x ∷ [] → waiting ≡ b ∷ later → f b ≡ x.asked
    → asked_of new ++ map f later ≡ asked_of old ++ map f waiting
tells_one {B} f old new x waiting later b is pops same =
    ap (λ (ts : List Told). asked_of ts ++ map f later) is
    ∙ ap (λ (first : List Asked). first ++ map f later) (map-append (λ (t : Told). t.asked) old (x ∷ []))
    ∙ append_assoc (asked_of old) (x.asked ∷ []) (map f later)
    ∙ ap (λ (a : Asked). asked_of old ++ a ∷ map f later) (sym same)
    ∙ ap (λ (bs : List B). asked_of old ++ map f bs) (sym pops)

-- it was told of what was asked
pub tells_asked : (old new : List Told) (one asked : Asked) (answer : Answer) → new ≡ old ++ record { asked = one; answer = answer } ∷ [] → one ≡ asked
    → new ≡ old ++ record { asked = asked; answer = answer } ∷ []
tells_asked old new one asked answer joins same =
    joins ∙ ap (λ (a : Asked). old ++ record { asked = a; answer = answer } ∷ []) same
