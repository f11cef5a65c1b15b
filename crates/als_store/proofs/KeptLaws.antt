-- What the devices of a store hold, from what the log's and the control block's say.
use Rattle.std.proofs.Common.{ℕ, List, ◌∷◌, subst, ◌∙◌, arith}
use Rattle.std.specs.Prelude.{Bool, Contains}
use Rattle.als_record.specs.LogText.{log_text}
use Rattle.als_disk.specs.Slot.{Slot}
use Rattle.als_validator.specs.declared.validator.Validator.{Validator}
use Rattle.als_log.specs.Local.{Local, IsLocal}
use Rattle.als_log.specs.Texts.{AllHaveText}
use Rattle.als_ckpt.specs.Control.{Controlled, Spells, IsControlled, IsControlState}
use Rattle.als_ckpt.specs.Control.{IsBlockOf}
use Rattle.als_pool.specs.Pooled.{Pooled}
use Rattle.als_store.specs.Origin.{Origin}
use Rattle.als_store.specs.Parts.{IsStored, stored_of}
use Rattle.als_store.specs.Devices.{AreKept, IsControlOf}
use Rattle.als_tables.specs.declared.commit_count.CommitCount.{CommitCount}

module _ (pages : ℕ) (held : CommitCount) (l : Local) (c : Controlled) (pool : Pooled)
    (validator : Validator) (broken : Bool) (origin : Origin) (recovering : Bool)
    (h : IsStored pages l held c pool validator broken origin recovering) (local : IsLocal l)
    (controlled : IsControlled c) where
  control_of : (content : List ℕ) → IsBlockOf c.pages (c.synced ∷ c.since) content
      → IsControlOf (stored_of pages l c pool broken origin recovering) content
  control_of content is = record {
    state = is.state;
    one = is.among;
    spelled = subst (λ (p : ℕ). Spells p is.state content) (h.marks.pages ∙ h.log_pages) is.spelled;
    formed = subst (λ (n : ℕ). IsControlState n is.state) h.marks.bytes
        (controlled.fits is.state is.among);
    above = controlled.from_synced is.state is.among;
    below = omega (arith, controlled.to_newest is.state is.among, h.marks.newest_synced);
    front = h.marks.fronts is.state is.among;
  }

  pub kept : (log control : ℕ → Slot)
      → AllHaveText (λ b. (log b).candidates) (log_text l.pages l.log) l.synced
      → ((content : List ℕ) → Contains (control 0).candidates content
      → IsBlockOf c.pages (c.synced ∷ c.since) content)
      → AreKept (stored_of pages l c pool broken origin recovering) log control
  kept log control text blocks = record {
    text = subst (λ (p : ℕ). AllHaveText (λ b. (log b).candidates) (log_text p l.log) l.synced)
        h.log_pages text;
    marks = λ content has. control_of content (blocks content has);
    valid = h.is_log;
    room = local.fits;
    fit = h.fit;
  }
