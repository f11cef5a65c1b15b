-- Devices that hold a log hold each front of it.
use Rattle.std.proofs.Common.{◌≡◌, ℕ, ◌+◌, ◌*◌, ◌<◌, ◌≤◌, List, ◌++◌, refl, sym, ap, subst, ◌∙◌, arith, append_assoc, length, length-append}
use Rattle.std.specs.Prelude.{Contains, slice_index}
use Rattle.std.proofs.lemmas.List.{get_or_append_left}
use Rattle.std.proofs.lemmas.List.Sums.{sum_by-append}
use Rattle.als_record.specs.declared.record.Record.{Record}
use Rattle.als_record.specs.Spelling.{record_len}
use Rattle.als_record.specs.LogText.{header_bytes, spellings, log_text, end_of}
use Rattle.als_record.specs.Tail.{reserve_of}
use Rattle.als_record.specs.Validity.{IsValidLog}
use Rattle.als_record.proofs.HeaderLaws.{length-header_bytes}
use Rattle.als_record.proofs.LogLaws.{spellings-append, end_of_is}
use Rattle.als_record.proofs.TailFirst.{IsValidLog-front}
use Rattle.als_disk.specs.Slot.{Slot}
use Rattle.als_log.specs.Texts.{AllHaveText}
use Rattle.als_ckpt.specs.Holding.{HoldsControl}
use Rattle.als_reopen.specs.Node.{Node, HoldsLog}
use Rattle.als_rewind.specs.Fronts.{front_said, front_node}

-- a front of a log does not end behind it
end_front : (front rest : List Record) → end_of front ≤ end_of (front ++ rest)
unfolding end_of
end_front front rest = omega (arith, sum_by-append record_len front rest)

length-text : (pages : ℕ) (log : List Record) → length (log_text pages log) ≡ end_of log
length-text pages log = omega (arith, length-append (header_bytes pages) (spellings log), length-header_bytes pages, end_of_is log)

-- the text of a log begins with that of its front
same_text : (pages : ℕ) (front rest : List Record) (o : ℕ) → o < end_of front → slice_index (log_text pages (front ++ rest)) o ≡ slice_index (log_text pages front) o
same_text pages front rest o lt =
    ap (λ (xs : List ℕ). slice_index xs o)
    (ap (λ (xs : List ℕ). header_bytes pages ++ xs) (spellings-append front rest) ∙ sym (append_assoc (header_bytes pages) (spellings front) (spellings rest)))
    ∙ get_or_append_left (log_text pages front) (spellings rest) 0 o (omega (arith, lt, length-text pages front))

module _ (pages blocks : ℕ) (log old new : ℕ → Slot) (n : Node) (front rest : List Record) (history : List ℕ)
    (h : HoldsLog pages blocks log old n) (parts : n.log ≡ front ++ rest) where
  text_front : AllHaveText (λ b. (log b).candidates) (log_text pages front) (end_of front)
  text_front b x has o lt under =
      let below : end_of front ≤ end_of n.log = omega (arith, end_front front rest, ap end_of parts) in
      h.text b x has o lt (omega (arith, under, below))
      ∙ ap (λ (l : List Record). slice_index (log_text pages l) (512 * b + o)) parts
      ∙ same_text pages front rest (512 * b + o) under

  valid_front : IsValidLog pages front
  valid_front = IsValidLog-front pages front rest (subst (IsValidLog pages) parts h.valid)

  pub HoldsLog-front : end_of front + reserve_of front ≤ 512 * blocks → HoldsControl pages (512 * blocks) new (front_said history (end_of front)) → HoldsLog pages blocks log new (front_node blocks history front)
  HoldsLog-front fits says = record {
    count = refl;
    control = says;
    text = text_front;
    ends = refl;
    valid = valid_front;
    fits = fits;
    front = tt;
  }
