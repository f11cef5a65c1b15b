-- What a leader does, one group after another.
use Rattle.std.proofs.Common.{◌≡◌, List, [], ◌∷◌, ◌++◌, Option, Some, option_to_list, refl, sym, ap, subst, ◌∙◌, append-nil, append_assoc}
use Rattle.std.proofs.lemmas.List.{map-append}
use Rattle.std.specs.List.{AllByRecursion}
use Rattle.als_record.specs.declared.record.Record.{Record}
use Rattle.als_record.specs.Commits.{Commit, commits_of}
use Rattle.als_engine.specs.Machine.{Machine}
use Rattle.als_lead.specs.declared.answer.Answer.{Answer}
use Rattle.als_lead.specs.declared.asked.Asked.{Asked}
use Rattle.als_lead.specs.declared.forced.Forced.{Forced}
use Rattle.als_lead.specs.declared.told.Told.{Told}
use Rattle.als_lead.specs.Going.{Grows, Stays, Tidies}
use Rattle.als_lead.specs.Answers.{IsTrueOf, asked_of}
use Rattle.als_lead.specs.Groups.{Does, DoesAll, Fills, IsHeldOf, IsStableIn, answer_after, all_after}
use Rattle.als_lead.specs.Leading.{GoesOnBy, Leads}
use Rattle.als_lead.proofs.Going.{grows_refl, grows_trans, tidies_stays, tidies_trans}
use Rattle.als_lead.proofs.Doing.{all_append, does_none, does_more, does_then, all_held_on, adds_grown, adds_both}
use Rattle.als_lead.proofs.Truths.{all_true_after, all_after_adds, all_after_asked, all_true_on}

asked_more : (told : List Told) (x : Told) → asked_of (told ++ x ∷ []) ≡ asked_of told ++ x.asked ∷ []
asked_more told x = map-append (λ (y : Told). y.asked) told (x ∷ [])

asked_both : (xs ys : List Told) → asked_of (xs ++ ys) ≡ asked_of xs ++ asked_of ys
asked_both xs ys = map-append (λ (y : Told). y.asked) xs ys

-- one transaction was handed out
pub one_taken : (taken taken_now : List Asked) (found : Option Asked) (asked : Asked) → found ≡ Some asked → taken_now ≡ taken ++ option_to_list found → taken_now ≡ taken ++ asked ∷ []
one_taken taken taken_now found asked e t = t ∙ ap (λ (x : Option Asked). taken ++ option_to_list x) e

-- ---- a group is filled

pub fills_none : (alone : Type 0) (m : Machine) (taken : List Asked) (queued : List Told) → Fills alone m m taken taken queued queued
fills_none alone m taken queued = record { more = []; joined = sym (append-nil queued); once = sym (append-nil taken); does = λ a. does_none m }

pub fills_more : (alone : Type 0) (old mid new : Machine) (taken taken_mid taken_now : List Asked) (queued queued_mid queued_now : List Told) (x : Told) → Fills alone old mid taken taken_mid queued queued_mid
    → taken_now ≡ taken_mid ++ x.asked ∷ [] → queued_now ≡ queued_mid ++ x ∷ [] → (alone → Does mid x.asked.work x.answer new) → Fills alone old new taken taken_now queued queued_now
fills_more alone old mid new taken taken_mid taken_now queued queued_mid queued_now x f takes joins does = record {
  more = f.more ++ x ∷ [];
  joined = joins ∙ ap (λ (q : List Told). q ++ x ∷ []) f.joined ∙ append_assoc queued f.more (x ∷ []);
  once = takes ∙ ap (λ (q : List Asked). q ++ x.asked ∷ []) f.once ∙ append_assoc taken (asked_of f.more) (x.asked ∷ [])
      ∙ ap (λ (q : List Asked). taken ++ q) (sym (asked_more f.more x));
  does = λ a. does_more old mid new f.more x (f.does a) (does a);
}

pub fills_same : (alone : Type 0) (old new : Machine) (taken taken_mid taken_now : List Asked) (queued queued_now : List Told) → Fills alone old new taken taken_mid queued queued_now → taken_now ≡ taken_mid → Fills alone old new taken taken_now queued queued_now
fills_same alone old new taken taken_mid taken_now queued queued_now f e = subst (λ (q : List Asked). Fills alone old new taken q queued queued_now) (sym e) f

-- ---- a group is answered

-- one more of the queue is answered
pub tells_more : (forced : Forced) (told told_now : List Told) (x : Told) (answer : Answer) (rest queued : List Told) → answer ≡ answer_after forced x.asked.work x.answer → told_now ≡ told ++ record { asked = x.asked; answer = answer } ∷ [] → queued ≡ x ∷ rest
    → told_now ++ all_after forced rest ≡ told ++ all_after forced queued
tells_more forced told told_now x answer rest queued a t q =
    ap (λ (l : List Told). l ++ all_after forced rest) t
    ∙ append_assoc told (record { asked = x.asked; answer = answer } ∷ []) (all_after forced rest)
    ∙ ap (λ (b : Answer). told ++ record { asked = x.asked; answer = b } ∷ all_after forced rest) a
    ∙ ap (λ (l : List Told). told ++ all_after forced l) (sym q)

-- one less of what was taken waits
pub waits_less : (taken taken_now : List Asked) (told told_now : List Told) (x : Told) (answer : Answer) (rest queued : List Told) → taken_now ≡ taken → told_now ≡ told ++ record { asked = x.asked; answer = answer } ∷ [] → queued ≡ x ∷ rest
    → taken ≡ asked_of told ++ asked_of queued → taken_now ≡ asked_of told_now ++ asked_of rest
waits_less taken taken_now told told_now x answer rest queued takes tells q waits =
    takes ∙ waits
    ∙ ap (λ (l : List Told). asked_of told ++ asked_of l) q
    ∙ sym (append_assoc (asked_of told) (x.asked ∷ []) (asked_of rest))
    ∙ ap (λ (l : List Asked). l ++ asked_of rest) (sym (ap asked_of tells ∙ asked_both told (record { asked = x.asked; answer = answer } ∷ [])))

-- all that was taken is answered, or waits in the group
pub waits_in_group : (taken taken_now : List Asked) (told told_now : List Told) (queued : List Told) → taken ≡ asked_of told → taken_now ≡ taken ++ asked_of queued → told_now ≡ told → taken_now ≡ asked_of told_now ++ asked_of queued
waits_in_group taken taken_now told told_now queued fresh takes tells =
    takes ∙ ap (λ (l : List Asked). l ++ asked_of queued) fresh ∙ ap (λ (l : List Told). asked_of l ++ asked_of queued) (sym tells)

-- all that was taken is answered, also once more was
pub fresh_on : (alone : Type 0) (old new : Machine) (taken taken_now : List Asked) (told told_now : List Told) → taken ≡ asked_of told → Leads alone old new taken taken_now told told_now → taken_now ≡ asked_of told_now
fresh_on alone old new taken taken_now told told_now fresh l =
    l.once ∙ ap (λ (q : List Asked). q ++ asked_of l.more) fresh ∙ sym (ap asked_of l.answered ∙ asked_both told l.more)

-- ---- a group is served

-- what a group did once its log is forced
pub does_forced : (alone : Type 0) (old filled tidied forced : Machine) (taken taken_mid : List Asked) (queued : List Told)
    → Fills alone old filled taken taken_mid [] queued → (alone → Tidies filled tidied) → (alone → Stays tidied forced) → alone → DoesAll old queued forced
does_forced alone old filled tidied forced taken taken_mid queued f tidies stays a =
    let joined : queued ≡ f.more = f.joined in
    subst (λ (q : List Told). DoesAll old q forced) (sym joined)
    (does_then old filled forced f.more (f.does a) (tidies_trans filled tidied forced (tidies a) (tidies_stays tidied forced (stays a))))

-- and once it is shown
pub held_shown : (forced new : Machine) (queued : List Told) → Grows forced new → new.held.log ≡ forced.held.log → AllByRecursion (IsHeldOf forced) queued → AllByRecursion (IsHeldOf new) queued
held_shown forced new queued g same h =
    all_held_on forced new [] g (ap (λ (l : List Record). commits_of l) same ∙ sym (append-nil (commits_of forced.held.log))) queued h

pub leads_group : (alone : Type 0) (old forced new : Machine) (result : Forced) (taken taken_mid taken_now : List Asked) (told told_now : List Told) (queued : List Told)
    → taken_mid ≡ taken ++ asked_of queued → (alone → DoesAll old queued forced) → (alone → Grows forced new) → (alone → new.held.log ≡ forced.held.log) → (alone → IsStableIn result new)
    → taken_now ≡ taken_mid → told_now ≡ told ++ all_after result queued → Leads alone old new taken taken_now told told_now
leads_group alone old forced new result taken taken_mid taken_now told told_now queued once does grows same stable takes tells = record {
  more = all_after result queued;
  answered = tells;
  once = takes ∙ once ∙ ap (λ (q : List Asked). taken ++ q) (sym (all_after_asked result queued));
  commits = λ a. record {
    added = (does a).added;
    commits = ap (λ (l : List Record). commits_of l) (same a) ∙ (does a).commits;
    adds = all_after_adds new.held.log result queued (does a).added (adds_grown forced new queued (does a).added (grows a) (does a).adds);
  };
  answers = λ a. all_true_after new result (stable a) queued (held_shown forced new queued (grows a) (same a) (does a).held);
  grows = λ a. grows_trans old forced new (does a).grows (grows a);
}

-- what was handed out to a group
pub group_once : (alone : Type 0) (old filled : Machine) (taken taken_mid : List Asked) (queued : List Told) → Fills alone old filled taken taken_mid [] queued → taken_mid ≡ taken ++ asked_of queued
group_once alone old filled taken taken_mid queued f =
    let joined : queued ≡ f.more = f.joined in
    f.once ∙ ap (λ (q : List Told). taken ++ asked_of q) (sym joined)

-- while it is filled the engine goes on
pub group_grows : (alone : Type 0) (old filled : Machine) (taken taken_mid : List Asked) (queued : List Told) → Fills alone old filled taken taken_mid [] queued → alone → Grows old filled
group_grows alone old filled taken taken_mid queued f a = (f.does a).grows

-- ---- nothing was asked

goes_none : (old new : Machine) → new.held.log ≡ old.held.log → GoesOnBy old new []
goes_none old new same = record { added = []; commits = ap (λ (l : List Record). commits_of l) same ∙ sym (append-nil (commits_of old.held.log)); adds = refl }

pub leads_same : (alone : Type 0) (old new : Machine) (taken taken_now : List Asked) (told told_now : List Told) → (alone → Grows old new) → (alone → new.held.log ≡ old.held.log) → taken_now ≡ taken → told_now ≡ told → Leads alone old new taken taken_now told told_now
leads_same alone old new taken taken_now told told_now grows same takes tells = record {
  more = [];
  answered = tells ∙ sym (append-nil told);
  once = takes ∙ sym (append-nil taken);
  commits = λ a. goes_none old new (same a);
  answers = λ a. tt;
  grows = grows;
}

pub leads_stays : (alone : Type 0) (old new : Machine) (taken taken_now : List Asked) (told told_now : List Told) → (alone → Stays old new) → taken_now ≡ taken → told_now ≡ told → Leads alone old new taken taken_now told told_now
leads_stays alone old new taken taken_now told told_now stays takes tells = leads_same alone old new taken taken_now told told_now (λ a. (stays a).grows) (λ a. (stays a).same) takes tells

pub leads_none : (alone : Type 0) (m : Machine) (taken : List Asked) (told : List Told) → Leads alone m m taken taken told told
leads_none alone m taken told = record {
  more = [];
  answered = sym (append-nil told);
  once = sym (append-nil taken);
  commits = λ a. goes_none m m refl;
  answers = λ a. tt;
  grows = λ a. grows_refl m;
}

-- ---- one after another

goes_both : (a b c : Machine) (xs ys : List Told) → GoesOnBy a b xs → GoesOnBy b c ys → Grows b c → GoesOnBy a c (xs ++ ys)
goes_both a b c xs ys p q g = record {
  added = p.added ++ q.added;
  commits = q.commits ∙ ap (λ (x : List Commit). x ++ q.added) p.commits ∙ append_assoc (commits_of a.held.log) p.added q.added;
  adds = adds_both c.held.log xs ys p.added q.added (adds_grown b c xs p.added g p.adds) q.adds;
}

pub leads_both : (alone : Type 0) (a b c : Machine) (taken taken_mid taken_now : List Asked) (told told_mid told_now : List Told) → Leads alone a b taken taken_mid told told_mid → Leads alone b c taken_mid taken_now told_mid told_now
    → Leads alone a c taken taken_now told told_now
leads_both alone a b c taken taken_mid taken_now told told_mid told_now p q = record {
  more = p.more ++ q.more;
  answered = q.answered ∙ ap (λ (x : List Told). x ++ q.more) p.answered ∙ append_assoc told p.more q.more;
  once = q.once ∙ ap (λ (x : List Asked). x ++ asked_of q.more) p.once ∙ append_assoc taken (asked_of p.more) (asked_of q.more)
      ∙ ap (λ (x : List Asked). taken ++ x) (sym (asked_both p.more q.more));
  commits = λ m. goes_both a b c p.more q.more (p.commits m) (q.commits m) (q.grows m);
  answers = λ m. all_append (IsTrueOf c) p.more q.more (all_true_on b c (q.commits m).added (q.grows m) (q.commits m).commits p.more (p.answers m)) (q.answers m);
  grows = λ m. grows_trans a b c (p.grows m) (q.grows m);
}

-- nobody was served behind it
pub leads_rest : (alone : Type 0) (a b c : Machine) (taken taken_now : List Asked) (told told_now : List Told) → Leads alone a b taken taken_now told told_now → (alone → Stays b c) → Leads alone a c taken taken_now told told_now
leads_rest alone a b c taken taken_now told told_now p stays = leads_both alone a b c taken taken_now taken_now told told_now told_now p (leads_stays alone b c taken_now taken_now told_now told_now stays refl refl)

-- the clients were waited for first
pub leads_waited : (alone : Type 0) (a b : Machine) (taken taken_mid taken_now : List Asked) (told told_mid told_now : List Told) → taken_mid ≡ taken → told_mid ≡ told → Leads alone a b taken_mid taken_now told_mid told_now → Leads alone a b taken taken_now told told_now
leads_waited alone a b taken taken_mid taken_now told told_mid told_now e f p = subst (λ (x : List Asked). Leads alone a b x taken_now told told_now) e (subst (λ (x : List Told). Leads alone a b taken_mid taken_now x told_now) f p)
