-- No frame's spelling begins another's, and none begins with what is refused.
use Rattle.std.proofs.Common.{◌≡◌, ℕ, ◌<◌, ◌≤◌, ◌^◌, List, [], ◌∷◌, ◌++◌, length, take, drop, get_or, refl, sym, ap, ◌∙◌, append_assoc, inl, inr, arith}
use Rattle.std.specs.Int.{w32, w64, to_be_bytes, from_be_bytes}
use Rattle.std.proofs.lemmas.Nat.{from_be_bytes-to_be_bytes_4, from_be_bytes-to_be_bytes_8}
use Rattle.std.proofs.lemmas.List.{take_at, drop_at}
use Rattle.als_record.specs.LogText.{header_bytes}
use Rattle.als_record.proofs.HeaderLaws.{one_header}
use Rattle.als_record.specs.declared.lsn.Lsn.{Lsn}
use Rattle.als_record.specs.declared.header.LogHeader.{LogHeader}
use Rattle.als_epochs.specs.Histories.{IsHistory, seals_bytes}
use Rattle.als_epochs.proofs.SealBytes.{seals-again}
use Rattle.als_wire.specs.declared.frame.Frame.{Frame}
use Rattle.als_wire.specs.declared.frame.Frame.TheVariants.{Data, Acknowledged, Resume, Epochs}
use Rattle.als_wire.specs.Frames.{byte_of, tag_of, head_bytes, data_bytes, history_bytes, resume_front, resume_bytes, frame_bytes, IsFrame, IsHead}
use Rattle.als_wire.specs.Reading.{IsNoFrame, IsNoPiece, IsNoEpochs}

-- two numbers of eight bytes, and what follows them
long_again : (m n : ℕ) (xs ys : List ℕ) → m < 2 ^ 64 → n < 2 ^ 64 → to_be_bytes w64 m ++ xs ≡ to_be_bytes w64 n ++ ys → (m ≡ n) × (xs ≡ ys)
long_again m n xs ys low high e =
    let bytes : to_be_bytes w64 m ≡ to_be_bytes w64 n = sym (take_at (to_be_bytes w64 m) xs 8 refl) ∙ ap (take 8) e ∙ take_at (to_be_bytes w64 n) ys 8 refl in (
      sym (from_be_bytes-to_be_bytes_8 m low) ∙ ap (from_be_bytes w64) bytes ∙ from_be_bytes-to_be_bytes_8 n high,
      sym (drop_at (to_be_bytes w64 m) xs 8 refl) ∙ ap (drop 8) e ∙ drop_at (to_be_bytes w64 n) ys 8 refl,
    )

pub word_again : (m n : ℕ) (xs ys : List ℕ) → m < 2 ^ 32 → n < 2 ^ 32 → to_be_bytes w32 m ++ xs ≡ to_be_bytes w32 n ++ ys → (m ≡ n) × (xs ≡ ys)
word_again m n xs ys low high e =
    let bytes : to_be_bytes w32 m ≡ to_be_bytes w32 n = sym (take_at (to_be_bytes w32 m) xs 4 refl) ∙ ap (take 4) e ∙ take_at (to_be_bytes w32 n) ys 4 refl in (
      sym (from_be_bytes-to_be_bytes_4 m low) ∙ ap (from_be_bytes w32) bytes ∙ from_be_bytes-to_be_bytes_4 n high,
      sym (drop_at (to_be_bytes w32 m) xs 4 refl) ∙ ap (drop 4) e ∙ drop_at (to_be_bytes w32 n) ys 4 refl,
    )

tail_of : (a b : ℕ) (xs ys : List ℕ) → a ∷ xs ≡ b ∷ ys → xs ≡ ys
tail_of a b xs ys e = ap (drop 1) e

first_of_both : (a b : ℕ) (xs ys : List ℕ) → a ∷ xs ≡ b ∷ ys → a ≡ b
first_of_both a b xs ys e = ap (λ (zs : List ℕ). get_or zs 0 0) e

-- the front of a Data frame
head_again : (e f o p m n : ℕ) (xs ys : List ℕ) → e < 2 ^ 32 → f < 2 ^ 32 → o < 2 ^ 64 → p < 2 ^ 64 → m < 2 ^ 32 → n < 2 ^ 32 → head_bytes e o m ++ xs ≡ head_bytes f p n ++ ys
    → (e ≡ f) × (o ≡ p) × (m ≡ n) × (xs ≡ ys)
unfolding head_bytes
head_again e f o p m n xs ys fe ff fo fp fm fn is =
    let epochs = word_again e f (to_be_bytes w64 o ++ (to_be_bytes w32 m ++ xs)) (to_be_bytes w64 p ++ (to_be_bytes w32 n ++ ys)) fe ff (tail_of 70 70 _ _ is) in
    let longs = long_again o p (to_be_bytes w32 m ++ xs) (to_be_bytes w32 n ++ ys) fo fp epochs.1 in
    let words = word_again m n xs ys fm fn longs.1 in
    (epochs.0, longs.0, words.0, words.1)

data_again : (e f o p : ℕ) (b c xs ys : List ℕ) → IsHead e o (length b) → IsHead f p (length c) → data_bytes e o b ++ xs ≡ data_bytes f p c ++ ys → (e ≡ f) × (o ≡ p) × (b ≡ c) × (xs ≡ ys)
data_again e f o p b c xs ys h k is =
    let regrouped : head_bytes e o (length b) ++ (b ++ xs) ≡ head_bytes f p (length c) ++ (c ++ ys) =
    sym (append_assoc (head_bytes e o (length b)) b xs) ∙ is ∙ append_assoc (head_bytes f p (length c)) c ys in
    let heads = head_again e f o p (length b) (length c) (b ++ xs) (c ++ ys) (omega (arith, h.0)) (omega (arith, k.0)) (omega (arith, h.1.1)) (omega (arith, k.1.1)) (omega (arith, h.1.0)) (omega (arith, k.1.0)) regrouped in
    let len : length c ≡ length b = sym heads.2 in (
      heads.0,
      heads.1,
      sym (take_at b xs (length b) refl) ∙ ap (take (length b)) heads.3 ∙ take_at c ys (length b) len,
      sym (drop_at b xs (length b) refl) ∙ ap (drop (length b)) heads.3 ∙ drop_at c ys (length b) len,
    )

-- a history
history_again : (xs ys a b : List ℕ) → IsHistory xs → IsHistory ys → history_bytes xs ++ a ≡ history_bytes ys ++ b → (xs ≡ ys) × (a ≡ b)
unfolding history_bytes
history_again xs ys a b hx hy is =
    let fx : length xs ≤ 32 = hx.few in
    let fy : length ys ≤ 32 = hy.few in
    let regrouped : to_be_bytes w32 (length xs) ++ (seals_bytes xs ++ a) ≡ to_be_bytes w32 (length ys) ++ (seals_bytes ys ++ b) =
    sym (append_assoc (to_be_bytes w32 (length xs)) (seals_bytes xs) a) ∙ is ∙ append_assoc (to_be_bytes w32 (length ys)) (seals_bytes ys) b in
    let words = word_again (length xs) (length ys) (seals_bytes xs ++ a) (seals_bytes ys ++ b) (omega (arith, fx)) (omega (arith, fy)) regrouped in
    seals-again 0 0 xs ys a b hx.rises hx.wide hy.rises hy.wide words.0 words.1

-- the front of a Resume frame
front_again : (m n p q : ℕ) (xs ys : List ℕ) → m < 2 ^ 64 → n < 2 ^ 64 → p < 2 ^ 32 → q < 2 ^ 32 → resume_front m p ++ xs ≡ resume_front n q ++ ys → (m ≡ n) × (p ≡ q) × (xs ≡ ys)
front_again m n p q xs ys fm fn fp fq e =
    let longs = long_again m n (header_bytes p ++ xs) (header_bytes q ++ ys) fm fn (tail_of 81 81 _ _ e) in
    let headers = one_header p q xs ys fp fq longs.1 in
    (longs.0, headers.0, headers.1)

resume_again : (m n p q : ℕ) (h k xs ys : List ℕ) → m < 2 ^ 64 → n < 2 ^ 64 → p < 2 ^ 32 → q < 2 ^ 32 → IsHistory h → IsHistory k → resume_bytes m p h ++ xs ≡ resume_bytes n q k ++ ys
    → (m ≡ n) × (p ≡ q) × (h ≡ k) × (xs ≡ ys)
resume_again m n p q h k xs ys fm fn fp fq hh hk e =
    let regrouped : resume_front m p ++ (history_bytes h ++ xs) ≡ resume_front n q ++ (history_bytes k ++ ys) =
    sym (append_assoc (resume_front m p) (history_bytes h) xs) ∙ e ∙ append_assoc (resume_front n q) (history_bytes k) ys in
    let fronts = front_again m n p q (history_bytes h ++ xs) (history_bytes k ++ ys) fm fn fp fq regrouped in
    let histories = history_again h k xs ys hh hk fronts.2 in
    (fronts.0, fronts.1, histories.0, histories.1)

-- the tag is the first byte
tag_first : (f : Frame) (xs : List ℕ) → get_or (frame_bytes f ++ xs) 0 0 ≡ byte_of (tag_of f)
unfolding head_bytes
tag_first (Data e o b) xs = refl
tag_first (Acknowledged l) xs = refl
tag_first (Resume l h k) xs = refl
tag_first (Epochs h) xs = refl

other_tag : {A : Type 0} (f g : Frame) (xs ys : List ℕ) → frame_bytes f ++ xs ≡ frame_bytes g ++ ys → (byte_of (tag_of f) ≡ byte_of (tag_of g) → ⊥) → A
other_tag f g xs ys e other = absurd (other (sym (tag_first f xs) ∙ ap (λ (zs : List ℕ). get_or zs 0 0) e ∙ tag_first g ys))

same_data : (e f o p : ℕ) (b c : List ℕ) → e ≡ f → o ≡ p → b ≡ c → ◌≡◌ {A = Frame} (Data e o b) (Data f p c)
same_data e f o p b c x y z = rw (x, y, z) refl

same_resume : (l m : Lsn) (h k : LogHeader) (a b : List ℕ) → l.0 ≡ m.0 → h.pages ≡ k.pages → a ≡ b → ◌≡◌ {A = Frame} (Resume l h a) (Resume m k b)
same_resume l m h k a b x y z =
    ap (λ (n : ℕ). Resume (record { 0 = n }) h a) x ∙ ap (λ (n : ℕ). Resume m (record { pages = n }) a) y ∙ ap (λ (s : List ℕ). Resume m k s) z

pub frame_again : (f g : Frame) (xs ys : List ℕ) → IsFrame f → IsFrame g → frame_bytes f ++ xs ≡ frame_bytes g ++ ys → (f ≡ g) × (xs ≡ ys)
frame_again (Data e o b) (Data f p c) xs ys h k is =
    let same = data_again e f o p b c xs ys h k is in
    (same_data e f o p b c same.0 same.1 same.2, same.3)
frame_again (Acknowledged l) (Acknowledged m) xs ys f g e =
    let same = long_again l.0 m.0 xs ys f g (tail_of 65 65 _ _ e) in
    (ap (λ (k : ℕ). Acknowledged (record { 0 = k })) same.0, same.1)
frame_again (Resume l h a) (Resume m k b) xs ys f g e =
    let same = resume_again l.0 m.0 h.pages k.pages a b xs ys f.0 g.0 (omega (arith, f.2)) (omega (arith, g.2)) f.3 g.3 e in
    (same_resume l m h k a b same.0 same.1 same.2, same.3)
frame_again (Epochs a) (Epochs b) xs ys f g e =
    let same = history_again a b xs ys f g (tail_of 69 69 _ _ e) in
    (ap (λ (s : List ℕ). Epochs s) same.0, same.1)
frame_again (Data e o b) (Acknowledged m) xs ys f g is = other_tag (Data e o b) (Acknowledged m) xs ys is (λ h. omega (arith, h))
frame_again (Data e o b) (Resume m k s) xs ys f g is = other_tag (Data e o b) (Resume m k s) xs ys is (λ h. omega (arith, h))
frame_again (Data e o b) (Epochs s) xs ys f g is = other_tag (Data e o b) (Epochs s) xs ys is (λ h. omega (arith, h))
frame_again (Acknowledged l) (Data e p c) xs ys f g is = other_tag (Acknowledged l) (Data e p c) xs ys is (λ h. omega (arith, h))
frame_again (Acknowledged l) (Resume m k s) xs ys f g is = other_tag (Acknowledged l) (Resume m k s) xs ys is (λ h. omega (arith, h))
frame_again (Acknowledged l) (Epochs s) xs ys f g is = other_tag (Acknowledged l) (Epochs s) xs ys is (λ h. omega (arith, h))
frame_again (Resume l h r) (Data e p c) xs ys f g is = other_tag (Resume l h r) (Data e p c) xs ys is (λ n. omega (arith, n))
frame_again (Resume l h r) (Acknowledged m) xs ys f g is = other_tag (Resume l h r) (Acknowledged m) xs ys is (λ n. omega (arith, n))
frame_again (Resume l h r) (Epochs s) xs ys f g is = other_tag (Resume l h r) (Epochs s) xs ys is (λ n. omega (arith, n))
frame_again (Epochs r) (Data e p c) xs ys f g is = other_tag (Epochs r) (Data e p c) xs ys is (λ n. omega (arith, n))
frame_again (Epochs r) (Acknowledged m) xs ys f g is = other_tag (Epochs r) (Acknowledged m) xs ys is (λ n. omega (arith, n))
frame_again (Epochs r) (Resume m k s) xs ys f g is = other_tag (Epochs r) (Resume m k s) xs ys is (λ n. omega (arith, n))

-- ---- what is refused

refused_piece : (f : Frame) (bytes xs ys : List ℕ) → IsFrame f → IsNoPiece (tag_of f) bytes → frame_bytes f ++ xs ≡ bytes ++ ys → ⊥
refused_piece (Data e o b) bytes xs ys f gone is =
    let regrouped : head_bytes e o (length b) ++ (b ++ xs) ≡ head_bytes gone.epoch gone.offset gone.len ++ ys =
    sym (append_assoc (head_bytes e o (length b)) b xs) ∙ is ∙ ap (λ (zs : List ℕ). zs ++ ys) gone.spelled in
    let heads = head_again e gone.epoch o gone.offset (length b) gone.len (b ++ xs) ys (omega (arith, f.0)) gone.epoch_fits (omega (arith, f.1.1)) gone.offset_fits (omega (arith, f.1.0)) gone.len_fits regrouped in
    gone.none (omega (arith, heads.0, f.0), (omega (arith, heads.2, f.1.0), omega (arith, heads.1, heads.2, f.1.1)))
refused_piece (Acknowledged l) bytes xs ys f gone e = cc gone.for_data
refused_piece (Resume l h r) bytes xs ys f gone e = cc gone.for_data
refused_piece (Epochs r) bytes xs ys f gone e = cc gone.for_data

refused_history : (f : Frame) (bytes xs ys : List ℕ) → IsFrame f → IsNoEpochs (tag_of f) bytes → frame_bytes f ++ xs ≡ bytes ++ ys → ⊥
refused_history (Data e o b) bytes xs ys f gone is = gone.stands
refused_history (Acknowledged l) bytes xs ys f gone is = gone.stands
refused_history (Resume l h r) bytes xs ys f gone is =
    let (from, pages, fits, few, stands) = gone.stands in
    let behind : bytes ++ ys ≡ resume_front from pages ++ (gone.part ++ ys) =
    ap (λ (zs : List ℕ). zs ++ ys) (gone.spelled ∙ ap (λ (zs : List ℕ). zs ++ gone.part) stands) ∙ append_assoc (resume_front from pages) gone.part ys in
    let regrouped : resume_front l.0 h.pages ++ (history_bytes r ++ xs) ≡ resume_front from pages ++ (gone.part ++ ys) =
    sym (append_assoc (resume_front l.0 h.pages) (history_bytes r) xs) ∙ is ∙ behind in
    let fronts = front_again l.0 from h.pages pages (history_bytes r ++ xs) (gone.part ++ ys) f.0 fits (omega (arith, f.2)) (omega (arith, few)) regrouped in
    gone.refused.none r ys xs f.3 (sym fronts.2)
refused_history (Epochs r) bytes xs ys f gone is =
    let spelled : bytes ≡ (69 ∷ []) ++ gone.part = gone.spelled ∙ ap (λ (zs : List ℕ). zs ++ gone.part) gone.stands in
    let parts : history_bytes r ++ xs ≡ gone.part ++ ys = tail_of 69 69 _ _ (is ∙ ap (λ (zs : List ℕ). zs ++ ys) spelled) in
    gone.refused.none r ys xs f (sym parts)

pub frame_refused : (f : Frame) (bytes xs ys : List ℕ) → IsFrame f → IsNoFrame (tag_of f) bytes → frame_bytes f ++ xs ≡ bytes ++ ys → ⊥
frame_refused f bytes xs ys frame (inl (byte, other, spelled)) e =
    other (ap (λ (zs : List ℕ). get_or (zs ++ ys) 0 0) (sym spelled) ∙ ap (λ (zs : List ℕ). get_or zs 0 0) (sym e) ∙ tag_first f xs)
frame_refused f bytes xs ys frame (inr (inl gone)) e = refused_piece f bytes xs ys frame gone e
frame_refused f bytes xs ys frame (inr (inr gone)) e = refused_history f bytes xs ys frame gone e
