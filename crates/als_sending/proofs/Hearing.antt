-- Answers that are acknowledged are among those that were told.
use Rattle.std.proofs.Common.{◌≡◌, ℕ, ◌<◌, ◌≤◌, ◌^◌, List, [], ◌∷◌, ◌++◌, length, drop, Option, Some, None, refl, sym, ap, ◌∙◌, append_assoc, append-nil, inl, inr, arith}
use Rattle.std.proofs.lemmas.List.{drop_at}
use Rattle.std.specs.List.{AllByRecursion}
use Rattle.std.specs.Io.KnownBytes.{Consumes}
use Rattle.std.proofs.KnownBytes.{Consumes-trans}
use Rattle.als_record.specs.LogText.{header_bytes}
use Rattle.als_record.specs.declared.lsn.Lsn.{Lsn}
use Rattle.als_record.proofs.HeaderLaws.{one_header}
use Rattle.als_wire.specs.declared.frame.Frame.{Frame}
use Rattle.als_wire.specs.declared.frame.Frame.TheVariants.{Data, Acknowledged, Resume, Epochs}
use Rattle.als_wire.specs.Frames.{acknowledged_bytes, answers_bytes, frame_bytes, history_bytes, resume_head, resume_front, resume_bytes}
use Rattle.als_wire.proofs.OneFrame.{frame_again}
use Rattle.als_ship.specs.Follows.{IsFront}
use Rattle.als_ship.specs.Vouching.{AreVouched, IsAsking, TellsVouched}
use Rattle.als_ship.specs.Wire.{AreLsns}
use Rattle.als_sending.specs.Going.{numbers}
use Rattle.als_sending.specs.Session.{Hears}

abbrev answer_of : Frame → ℕ
answer_of (Data epoch offset bytes) = 0
answer_of (Acknowledged lsn) = lsn.0
answer_of (Resume from header history) = 0
answer_of (Epochs history) = 0

-- of answers that were told, any front of their bytes may have come
answers_heard : (floor : ℕ) (told heard : List Lsn) (rest : List ℕ) → floor < 2 ^ 64 → AreVouched floor told → AreLsns heard → answers_bytes told ≡ answers_bytes heard ++ rest → AreVouched floor heard
answers_heard floor told [] rest wide vouched fit e = tt
answers_heard floor [] (h ∷ heard) rest wide vouched fit e = absurd (omega (arith, ap (λ (xs : List ℕ). length xs) e))
answers_heard floor (t ∷ told) (h ∷ heard) rest wide vouched fit e =
    let heads : frame_bytes (Acknowledged t) ++ answers_bytes told ≡ frame_bytes (Acknowledged h) ++ (answers_bytes heard ++ rest) =
    e ∙ append_assoc (acknowledged_bytes h.0) (answers_bytes heard) rest in
    let both = frame_again (Acknowledged t) (Acknowledged h) (answers_bytes told) (answers_bytes heard ++ rest) (omega (arith, wide, vouched.0)) fit.0 heads in
    let same : t.0 ≡ h.0 = ap answer_of both.0 in
    (omega (arith, vouched.0, same), answers_heard floor told heard rest wide vouched.1 fit.1 both.1)

-- two Resume frames name one page count
same_pages : (m n p q : ℕ) (xs ys : List ℕ) → p < 2 ^ 32 → q < 2 ^ 32 → resume_front m p ++ xs ≡ resume_front n q ++ ys → p ≡ q
same_pages m n p q xs ys low high e =
    let regrouped : resume_head m ++ (header_bytes p ++ xs) ≡ resume_head n ++ (header_bytes q ++ ys) =
    sym (append_assoc (resume_head m) (header_bytes p) xs) ∙ e ∙ append_assoc (resume_head n) (header_bytes q) ys in
    let behind : header_bytes p ++ xs ≡ header_bytes q ++ ys =
    sym (drop_at (resume_head m) (header_bytes p ++ xs) 9 refl) ∙ ap (drop 9) regrouped ∙ drop_at (resume_head n) (header_bytes q ++ ys) 9 refl in
    (one_header p q xs ys low high behind).0

-- the bytes of a Resume frame and of answers
abbrev asked_bytes : ℕ → ℕ → List ℕ → List Lsn → List ℕ
asked_bytes from pages seals answers = resume_bytes from pages seals ++ answers_bytes answers

resumed_heard : (floor from pages then own : ℕ) (seals theirs : List ℕ) (told heard : List Lsn) (rest : List ℕ) → floor < 2 ^ 64 → IsAsking from pages seals → IsAsking then own theirs → 1 ≤ own → own ≤ 4096 → AreVouched floor told → AreLsns heard
    → asked_bytes from pages seals told ≡ asked_bytes then own theirs heard ++ rest → AreVouched floor heard
resumed_heard floor from pages then own seals theirs told heard rest wide asks are some few vouched fit e =
    let frames : resume_bytes from pages seals ++ answers_bytes told ≡ resume_bytes then own theirs ++ (answers_bytes heard ++ rest) =
    e ∙ append_assoc (resume_bytes then own theirs) (answers_bytes heard) rest in
    let fronts : resume_front from pages ++ (history_bytes seals ++ answers_bytes told) ≡ resume_front then own ++ (history_bytes theirs ++ (answers_bytes heard ++ rest)) =
    sym (append_assoc (resume_front from pages) (history_bytes seals) (answers_bytes told)) ∙ frames ∙ append_assoc (resume_front then own) (history_bytes theirs) (answers_bytes heard ++ rest) in
    let same : pages ≡ own = same_pages from then pages own (history_bytes seals ++ answers_bytes told) (history_bytes theirs ++ (answers_bytes heard ++ rest)) asks.1 are.1 fronts in
    let both = frame_again (Resume (record { 0 = from }) (record { pages = pages }) seals) (Resume (record { 0 = then }) (record { pages = own }) theirs) (answers_bytes told) (answers_bytes heard ++ rest) (asks.0, omega (arith, same, some), omega (arith, same, few), asks.2) (are.0, some, few, are.2) frames in
    answers_heard floor told heard rest wide vouched fit both.1

-- known bytes that were consumed
consumed : (came bytes : List ℕ) (behind : Option (List ℕ)) → Consumes (Some came) behind bytes → (rest : List ℕ) × (came ≡ bytes ++ rest)
consumed came bytes None c = absurd c
consumed came bytes (Some rest) c = (rest, c)

-- the same as numbers
vouched_numbers : (floor : ℕ) (answers : List Lsn) → AreVouched floor answers → AllByRecursion (λ lsn. lsn ≤ floor) (numbers answers)
vouched_numbers floor [] all = tt
vouched_numbers floor (a ∷ answers) all = (all.0, vouched_numbers floor answers all.1)

-- the follower was admitted, and these answers were read
pub acknowledged_told : (floor pages end : ℕ) (own told came heard heard_now : List ℕ) (old : Option (List ℕ)) → floor < 2 ^ 64 → TellsVouched floor (Some []) (Some told) → IsFront came told → Hears pages end own heard heard_now (Some came) old
    → (more : List ℕ) × (heard_now ≡ heard ++ more) × AllByRecursion (λ lsn. lsn ≤ floor) more
acknowledged_told floor pages end own told came heard heard_now old wide tells front (inl none) = ([], none ∙ sym (append-nil heard), tt)
acknowledged_told floor pages end own told came heard heard_now old wide (then_from, counted, seals, answers, asks, all, (front, rest, parts, puts)) (left, e) (inr h) =
    let met = h.admitted in
    let (gone, f) = consumed came (asked_bytes h.from pages met.theirs h.answers) h.behind (Consumes-trans (Some came) h.between h.behind (resume_bytes h.from pages met.theirs) (answers_bytes h.answers) met.heard h.read) in
    let spelled : asked_bytes then_from counted seals answers ≡ asked_bytes h.from pages met.theirs h.answers ++ (gone ++ (left ++ rest)) =
    parts ∙ ap (λ (xs : List ℕ). xs ++ rest) (sym puts ∙ e ∙ ap (λ (xs : List ℕ). xs ++ left) f)
    ∙ append_assoc (asked_bytes h.from pages met.theirs h.answers ++ gone) left rest
    ∙ append_assoc (asked_bytes h.from pages met.theirs h.answers) gone (left ++ rest) in
    (numbers h.answers, h.kept, vouched_numbers floor h.answers (resumed_heard floor then_from counted h.from pages seals met.theirs answers h.answers (gone ++ (left ++ rest)) wide asks (met.fits, omega (arith, met.range.1), met.history) met.range.0 met.range.1 all h.fit spelled))
