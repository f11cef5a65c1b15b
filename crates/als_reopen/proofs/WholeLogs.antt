-- A log that was read whole.
use Rattle.std.proofs.Common.{◌≡◌, ℕ, ◌+◌, ◌*◌, ◌<◌, ◌≤◌, List, Option, sym, ap, subst, ◌∙◌, arith}
use Rattle.std.specs.Prelude.{IfSome}
use Rattle.std.proofs.lemmas.List.{append_cancel_left}
use Rattle.als_record.specs.declared.record.Record.{Record}
use Rattle.als_record.specs.LogText.{header_bytes, spellings, log_text, end_of}
use Rattle.als_record.specs.Tail.{reserve_of}
use Rattle.als_record.specs.Validity.{IsValidLog}
use Rattle.als_record.proofs.LogLaws.{logs_once}
use Rattle.als_validator.specs.declared.validator.Validator.{Validator}
use Rattle.als_validator.specs.Validated.{IsValidatorOf, judges}
use Rattle.als_log.specs.Local.{Local}
use Rattle.als_scan.specs.Scanned.{Scanned, IsScanned, IsWhole, taken_up}
use Rattle.als_ckpt_codec.specs.declared.checkpoint.Checkpoint.{Checkpoint}
use Rattle.als_ckpt.specs.declared.control_state.ControlState.{ControlState}
use Rattle.als_tables.specs.declared.commit_count.CommitCount.{CommitCount}
use Rattle.als_tables.specs.Fronts.{IsOfFront}
use Rattle.als_pool.specs.Pooled.{Held}
use Rattle.als_reopen.specs.Outcomes.{IsReopened}
use Rattle.als_reopen.specs.Taken.{follows}
use Rattle.als_reopen.specs.Reading.{IsReading, ScansOn, IsLogOn}

-- a text is that of one valid log
pub one_log : (pages : ℕ) (a b : List Record) → IsValidLog pages a → IsValidLog pages b → log_text pages a ≡ log_text pages b → a ≡ b
one_log pages a b v w e =
    logs_once pages 16 a b v.text.laid_out w.text.laid_out v.text.records w.text.records (append_cancel_left (header_bytes pages) (spellings a) (spellings b) e)

-- what was read whole is the log whose text it is
whole_log : (old new : Scanned) (whole : List Record) → ScansOn old new → IsScanned new → IsWhole new → IsValidLog old.pages whole → old.text ≡ log_text old.pages whole → new.log ≡ whole
whole_log old new whole on facts is valid text =
    let pages : new.pages ≡ old.pages = ap (λ (s : Scanned). s.pages) on in
    let same : new.text ≡ old.text = ap (λ (s : Scanned). s.text) on in
    one_log old.pages new.log whole (subst (λ n. IsValidLog n new.log) pages facts.valid) valid (ap (λ n. log_text n new.log) (sym pages) ∙ sym is.text_is ∙ same ∙ text)

pub not_full : (blocks : ℕ) (old new : Scanned) (checkpoint : Option Checkpoint) → ScansOn old new → IsScanned new → IsWhole new → (whole : List Record) → IsLogOn old.pages blocks old.mark old.text checkpoint whole
    → 512 * blocks < end_of new.log + reserve_of new.log → ⊥
not_full blocks old new checkpoint on facts is whole h full =
    let same : new.log ≡ whole = whole_log old new whole on facts is h.valid h.text_is in
    omega (arith, full, h.fits, ap end_of same, ap reserve_of same)

pub reopened : (blocks : ℕ) (old new : Scanned) (state : ControlState) (checkpoint : Option Checkpoint) (pool : Held) (count : CommitCount) (log : Local) (validator : Validator) (counted : CommitCount) (pooled : Held)
    → ScansOn old new → IsReading checkpoint new pool.pool count → IsWhole new → IfSome checkpoint (IsOfFront new.log) → old.mark ≡ state.mark.0 → end_of new.log + reserve_of new.log ≤ 512 * blocks
    → log ≡ taken_up new log.room → IsValidatorOf new.pages validator new.log → judges validator ≡ follows state.phase → pooled ≡ pool → counted ≡ count
    → IsReopened old.pages blocks (record { state = state; checkpoint = checkpoint }) log.log validator counted pooled.pool
reopened blocks old new state checkpoint pool count log validator counted pooled on reading is front mark fits up judged judging same_pool same_count =
    let pages : new.pages ≡ old.pages = ap (λ (s : Scanned). s.pages) on in
    let same : log.log ≡ new.log = ap (λ (l : Local). l.log) up in
    let made : IsReopened old.pages blocks (record { state = state; checkpoint = checkpoint }) new.log validator count pool.pool
    = record {
      valid = subst (λ n. IsValidLog n new.log) pages reading.facts.valid;
      ends = is.end_is ∙ ap (λ (s : Scanned). s.mark) on ∙ mark;
      fits = fits;
      front = front;
      judged = subst (λ n. IsValidatorOf n validator new.log) pages judged;
      judging = judging;
      counted = reading.counted;
      pages_are = sym reading.rows.paged ∙ reading.paged ∙ pages;
      queues = reading.queues;
      rows = reading.rows;
      few = reading.few;
      numbered = reading.numbered;
    } in
    subst (λ (l : List Record). IsReopened old.pages blocks (record { state = state; checkpoint = checkpoint }) l validator counted pooled.pool) (sym same)
    (subst (λ (t : CommitCount). IsReopened old.pages blocks (record { state = state; checkpoint = checkpoint }) new.log validator t pooled.pool) (sym same_count)
    (subst (λ (p : Held). IsReopened old.pages blocks (record { state = state; checkpoint = checkpoint }) new.log validator count p.pool) (sym same_pool) made))
