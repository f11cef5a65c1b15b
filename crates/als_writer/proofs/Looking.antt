-- What an engine tells of a key, and what is known of all keys of a transaction.
use Rattle.std.proofs.Common.{◌≡◌, ℕ, ◌==◌, Bool, true, false, not, ◌&&◌, List, [], ◌∷◌, find, Option, None, Some, option_map, Result, Ok, Err, refl, sym, subst, ◌∙◌}
use Rattle.std.proofs.Common.{inl, inr}
use Rattle.std.specs.Prelude.{MatchOption}
use Rattle.std.specs.List.{list_any}
use Rattle.std.proofs.lemmas.Bool.{not_from_false}
use Rattle.als_record.specs.declared.key.Key.{Key}
use Rattle.als_record.specs.declared.trans_id.TransId.{TransId}
use Rattle.als_record.specs.declared.record.Body.TheVariants.{Update}
use Rattle.als_record.specs.declared.record.Record.{Record}
use Rattle.als_record.specs.Spelling.{Image, IsKey}
use Rattle.als_record.specs.Transactions.{has_begun, is_open, all_surviving}
use Rattle.als_record.specs.Images.{is_update_at}
use Rattle.als_record.specs.Validity.{held_by}
use Rattle.als_record.specs.Commits.{Write}
use Rattle.als_writing.specs.Writing.{is_free}
use Rattle.als_store.specs.WritingOwn.{KeyNow, TellsOfOwnKey}
use Rattle.als_engine.specs.declared.fault.Fault.{Fault}
use Rattle.als_engine.specs.Machine.{Machine}
use Rattle.als_engine.specs.Refusals.{feed_refusal}
use Rattle.als_engine.specs.WritingOwn.{AnswersKeyNow, TellsKeyNow}
use Rattle.als_writer.specs.declared.refusal.Refusal.{Refusal}
use Rattle.als_writer.specs.declared.refusal.Refusal.TheVariants.{Invalid, State, Untidy, Held, NotAsAsked, NumbersSpent, TooMany, LogFull, Memory, Unplanned}
use Rattle.als_writer.specs.declared.transaction.Transaction.{Transaction}
use Rattle.als_writer.specs.declared.ask.Ask.{Ask}
use Rattle.als_writer.specs.declared.unmet.Unmet.{Unmet}
use Rattle.als_writer.specs.Asking.{IsHeldBy, IsFreeNow}
use Rattle.als_writer.specs.Committing.{FeedRefused}
use Rattle.als_writer.specs.Refused.{KeyRefused, LookRefused, TidyRefused, StartRefused, PlanRefused, ShowsFailing, ShowsUnmet}

-- ---- a key that nobody holds is free

nobody_found : (p : Record → Bool) (us : List Record) → option_map (λ (u : Record). u.trans) (find p us) ≡ None → list_any p us ≡ false
nobody_found p [] e = refl
nobody_found p (u ∷ us) e = go (p u) refl (λ f. nobody_found p us f)
  where
    go : (b : Bool) → p u ≡ b → (option_map (λ (u : Record). u.trans) (find p us) ≡ None → list_any p us ≡ false) → list_any p (u ∷ us) ≡ false
    go true q more = absurd (cc (sym (rw q at e)))
    go false q more = rw q (more (rw q at e))

free_from_nobody : (log : List Record) (key : Key) (t : ℕ) (r : Record) (before after : Image) → r.body ≡ Update key before after → r.trans.0 ≡ t → held_by log r ≡ None → is_free log t key ≡ true
unfolding is_free held_by
free_from_nobody log key t r before after e q n =
    not_from_false (list_any (λ u. is_update_at key u.body && not (u.trans.0 == t) && is_open log u.trans.0) (all_surviving log))
    (nobody_found (λ u. is_update_at key u.body && not (u.trans.0 == t) && is_open log u.trans.0) (all_surviving log) (subst (λ (x : ℕ). option_map (λ (u : Record). u.trans) (find (λ u. is_update_at key u.body && not (u.trans.0 == x) && is_open log u.trans.0) (all_surviving log)) ≡ None) q (rw e at n)))

-- ---- what is told of one key

abbrev probe : ℕ → Key → Record
probe t key = record { lsn = record { 0 = 0 }; prev = record { 0 = 0 }; trans = record { 0 = t }; body = Update key None None }

free_of_told : (m : Machine) (key : Key) (told : KeyNow) → TellsOfOwnKey m.held key told → told.holder ≡ None → (t : ℕ) → has_begun m.held.log t ≡ false → is_free m.held.log t key ≡ true
free_of_told m key told tells none t b =
    free_from_nobody m.held.log key t (probe t key) None None refl refl
    (sym (tells.now.holder (probe t key) None None refl b) ∙ none)

look_by : (m : Machine) (key : Key) (told : KeyNow) (cause : Option Fault) → feed_refusal m ≡ cause → MatchOption cause (TellsOfOwnKey m.held key told) (λ f. Ok told ≡ Err f) → told.holder ≡ None → IsFreeNow m key told.image
look_by m key told None e tells none = record {
  takes = e;
  in_range = tells.in_range;
  now = tells.now.image;
  free = free_of_told m key told tells none;
}
look_by m key told (Some f) e tells none = cc tells

pub look_free : (m : Machine) (key : Key) (told : KeyNow) → TellsKeyNow m key (Ok told) → told.holder ≡ None → IsFreeNow m key told.image
look_free m key told tells none = look_by m key told (feed_refusal m) refl tells none

held_told : (m : Machine) (key : Key) (told : KeyNow) (cause : Option Fault) (by : TransId) → MatchOption cause (TellsOfOwnKey m.held key told) (λ f. Ok told ≡ Err f) → told.holder ≡ Some by → IsHeldBy m.held.log key by
held_told m key told None by tells e r before after body new = sym (tells.now.holder r before after body new) ∙ e
held_told m key told (Some f) by tells e r before after body new = cc tells

pub look_held : (m : Machine) (key : Key) (told : KeyNow) (by : TransId) → TellsKeyNow m key (Ok told) → told.holder ≡ Some by → KeyRefused m key (Held key by)
look_held m key told by tells e = (refl, held_told m key told (feed_refusal m) by tells e)

refused_by : (m : Machine) (key : Key) (f : Fault) (answer : Result KeyNow Fault) (cause : Option Fault) → answer ≡ Err f → MatchOption cause (AnswersKeyNow m key (Err f)) (λ g. answer ≡ Err g) → IsKey m.held.pages key → cause ≡ Some f
refused_by m key f answer None e tells is = absurd (tells.1 is)
refused_by m key f answer (Some g) e tells is = cc (sym e ∙ tells)

pub look_refused : (m : Machine) (key : Key) (f : Fault) → TellsKeyNow m key (Err f) → KeyRefused m key (State f)
look_refused m key f tells is = refused_by m key f (Err f) (feed_refusal m) refl tells is

-- of a key of the database
pub look_known : (m : Machine) (key : Key) (r : Refusal) → KeyRefused m key r → IsKey m.held.pages key → LookRefused m r
look_known m key (State f) k is = k is
look_known m key (Held other by) k is = k.1
look_known m key (Invalid flaw) k is = absurd k
look_known m key Untidy k is = absurd k
look_known m key (NotAsAsked failing) k is = absurd k
look_known m key NumbersSpent k is = absurd k
look_known m key TooMany k is = absurd k
look_known m key LogFull k is = absurd k
look_known m key (Memory owed) k is = absurd k
look_known m key (Unplanned f) k is = absurd k

pub look_planned : (m : Machine) (t : Transaction) (r : Refusal) → LookRefused m r → PlanRefused m t r
look_planned m t (State f) k = inl k
look_planned m t (Held key by) k = k
look_planned m t (Memory owed) k = k
look_planned m t (Invalid flaw) k = absurd k
look_planned m t Untidy k = absurd k
look_planned m t (NotAsAsked failing) k = absurd k
look_planned m t NumbersSpent k = absurd k
look_planned m t TooMany k = absurd k
look_planned m t LogFull k = absurd k
look_planned m t (Unplanned f) k = absurd k

pub tidy_planned : (m : Machine) (t : Transaction) (r : Refusal) → TidyRefused m r → PlanRefused m t r
tidy_planned m t (State f) k = inr k
tidy_planned m t Untidy k = k
tidy_planned m t (Held key by) k = absurd k
tidy_planned m t (Memory owed) k = absurd k
tidy_planned m t (Invalid flaw) k = absurd k
tidy_planned m t (NotAsAsked failing) k = absurd k
tidy_planned m t NumbersSpent k = absurd k
tidy_planned m t TooMany k = absurd k
tidy_planned m t LogFull k = absurd k
tidy_planned m t (Unplanned f) k = absurd k

-- ---- a refusal for another cause shows no ask

other_shown : (log : List Record) (asks : List Ask) (r : Refusal) → ((failing : List Unmet) → r ≡ NotAsAsked failing → ⊥) → ShowsFailing log asks r
other_shown log asks (NotAsAsked failing) other = absurd (other failing refl)
other_shown log asks (Invalid flaw) other = tt
other_shown log asks (State f) other = tt
other_shown log asks Untidy other = tt
other_shown log asks (Held key by) other = tt
other_shown log asks NumbersSpent other = tt
other_shown log asks TooMany other = tt
other_shown log asks LogFull other = tt
other_shown log asks (Memory owed) other = tt
other_shown log asks (Unplanned f) other = tt

pub look_shown : (m : Machine) (log : List Record) (asks : List Ask) (r : Refusal) → LookRefused m r → ShowsFailing log asks r
look_shown m log asks r k = other_shown log asks r (λ failing e. subst (LookRefused m) e k)

pub tidy_shown : (m : Machine) (log : List Record) (asks : List Ask) (r : Refusal) → TidyRefused m r → ShowsFailing log asks r
tidy_shown m log asks r k = other_shown log asks r (λ failing e. subst (TidyRefused m) e k)

pub start_shown : (extra : ℕ) (m : Machine) (ws : List Write) (log : List Record) (asks : List Ask) (r : Refusal) → StartRefused extra m ws r → ShowsFailing log asks r
start_shown extra m ws log asks r k = other_shown log asks r (λ failing e. subst (StartRefused extra m ws) e k)

pub fed_shown : (old : Machine) (t : Transaction) (new : Machine) (log : List Record) (asks : List Ask) (r : Refusal) → FeedRefused old t r new → ShowsFailing log asks r
fed_shown old t new log asks r k = other_shown log asks r (λ failing e. subst (λ (q : Refusal). FeedRefused old t q new) e k)

-- ---- nor one that bounds do not meet

other_unmet : (bounds : List ℕ) (log : List Record) (asks : List Ask) (r : Refusal) → ((failing : List Unmet) → r ≡ NotAsAsked failing → ⊥) → ShowsUnmet bounds log asks r
other_unmet bounds log asks (NotAsAsked failing) other = absurd (other failing refl)
other_unmet bounds log asks (Invalid flaw) other = tt
other_unmet bounds log asks (State f) other = tt
other_unmet bounds log asks Untidy other = tt
other_unmet bounds log asks (Held key by) other = tt
other_unmet bounds log asks NumbersSpent other = tt
other_unmet bounds log asks TooMany other = tt
other_unmet bounds log asks LogFull other = tt
other_unmet bounds log asks (Memory owed) other = tt
other_unmet bounds log asks (Unplanned f) other = tt

pub look_unmet : (m : Machine) (bounds : List ℕ) (log : List Record) (asks : List Ask) (r : Refusal) → LookRefused m r → ShowsUnmet bounds log asks r
look_unmet m bounds log asks r k = other_unmet bounds log asks r (λ failing e. subst (LookRefused m) e k)

pub tidy_unmet : (m : Machine) (bounds : List ℕ) (log : List Record) (asks : List Ask) (r : Refusal) → TidyRefused m r → ShowsUnmet bounds log asks r
tidy_unmet m bounds log asks r k = other_unmet bounds log asks r (λ failing e. subst (TidyRefused m) e k)

pub start_unmet : (extra : ℕ) (m : Machine) (ws : List Write) (bounds : List ℕ) (log : List Record) (asks : List Ask) (r : Refusal) → StartRefused extra m ws r → ShowsUnmet bounds log asks r
start_unmet extra m ws bounds log asks r k = other_unmet bounds log asks r (λ failing e. subst (StartRefused extra m ws) e k)

pub fed_unmet : (old : Machine) (t : Transaction) (new : Machine) (bounds : List ℕ) (log : List Record) (asks : List Ask) (r : Refusal) → FeedRefused old t r new → ShowsUnmet bounds log asks r
fed_unmet old t new bounds log asks r k = other_unmet bounds log asks r (λ failing e. subst (λ (q : Refusal). FeedRefused old t q new) e k)
