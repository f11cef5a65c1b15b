-- Records that a loop has taken, and what became of their spellings.
use Rattle.std.proofs.Common.{◌≡◌, ℕ, List, [], ◌∷◌, ◌++◌, Option, sym, ap, subst, ◌∙◌, append_assoc, append-nil}
use Rattle.std.specs.Io.KnownBytes.{Appends}
use Rattle.std.proofs.KnownBytes.{Appends-nil, Appends-trans}
use Rattle.als_record.specs.declared.record.Record.{Record}
use Rattle.als_record.specs.Spelling.{spelling}
use Rattle.als_record.specs.LogText.{spellings}
use Rattle.als_record.proofs.LogLaws.{spellings-nil, spellings_push, spellings-append}

-- the log has grown by these records, and the bytes by their spellings
pub record Gathered (was now : List Record) (before bytes : List ℕ) : Type 0 where
  pub taken : List Record
  pub log : now ≡ was ++ taken
  pub spelled : bytes ≡ before ++ spellings taken

pub gathered_none : (was : List Record) (before : List ℕ) → Gathered was was before before
gathered_none was before = record { taken = []; log = sym (append-nil was); spelled = sym (ap (λ (xs : List ℕ). before ++ xs) spellings-nil ∙ append-nil before) }

pub gathered_one : (was mid now : List Record) (before between bytes : List ℕ) (r : Record) → Gathered was mid before between → now ≡ mid ++ r ∷ [] → bytes ≡ between ++ spelling r → Gathered was now before bytes
gathered_one was mid now before between bytes r g l b = record {
  taken = g.taken ++ r ∷ [];
  log = l ∙ ap (λ (xs : List Record). xs ++ r ∷ []) g.log ∙ append_assoc was g.taken (r ∷ []);
  spelled = b ∙ ap (λ (xs : List ℕ). xs ++ spelling r) g.spelled ∙ append_assoc before (spellings g.taken) (spelling r) ∙ ap (λ (xs : List ℕ). before ++ xs) (sym (spellings_push g.taken r));
}

-- the log has grown by these records, and the writer has their spellings
pub record Poured (was now : List Record) (before after : Option (List ℕ)) : Type 0 where
  pub taken : List Record
  pub log : now ≡ was ++ taken
  pub written : Appends before after (spellings taken)

pub poured_none : (was : List Record) (before : Option (List ℕ)) → Poured was was before before
poured_none was before = record { taken = []; log = sym (append-nil was); written = subst (Appends before before) (sym spellings-nil) (Appends-nil before) }

pub poured_step : (was mid now : List Record) (before between after : Option (List ℕ)) (taken : List Record) (old bytes : List ℕ) → Poured was mid before between → old ≡ [] → now ≡ mid ++ taken → bytes ≡ old ++ spellings taken
    → Appends between after bytes → Poured was now before after
poured_step was mid now before between after taken old bytes p none grown spelled a =
    let are : bytes ≡ spellings taken = spelled ∙ ap (λ (xs : List ℕ). xs ++ spellings taken) none in
    record {
      taken = p.taken ++ taken;
      log = grown ∙ ap (λ (xs : List Record). xs ++ taken) p.log ∙ append_assoc was p.taken taken;
      written = subst (Appends before after) (sym (spellings-append p.taken taken)) (Appends-trans before between after (spellings p.taken) (spellings taken) p.written (subst (Appends between after) are a));
    }
