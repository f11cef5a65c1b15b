-- What is true of a store that was just formatted.
use Rattle.std.proofs.Common.{◌≡◌, ℕ, [], sym, subst}
use Rattle.std.specs.Prelude.{◌*◌, true}
use Rattle.als_log.specs.Local.{Local}
use Rattle.als_ckpt.specs.Control.{Controlled, first_state, new_control}
use Rattle.als_frames.specs.Frames.{Paged}
use Rattle.als_pool.specs.Images.{IsPoolOf}
use Rattle.als_pool.specs.Pooled.{Pooled, new_pool}
use Rattle.als_store.specs.Origin.{origin_of}
use Rattle.als_store.specs.Warm.{IsWarm}
use Rattle.als_store.proofs.StoredParts.{warm-new}

pub warm-laid : (pages first blocks log_failures log_attempts control_blocks control_failures
    control_attempts : ℕ) (l : Local) (c : Controlled) (pool : Pooled) (frames : Paged)
    → l ≡ record {
      pages = pages;
      log = [];
      written = 16;
      synced = 16;
      blocks = blocks;
      failures =
          log_failures;
      attempts = log_attempts;
      room = l.room;
    }
    → c ≡ new_control pages (512 * blocks) first_state control_blocks control_failures
    control_attempts
    → pool ≡ new_pool frames pages first → ((below : ℕ) → IsPoolOf [] below pool)
    → IsWarm true (origin_of l c pool)
warm-laid pages first blocks log_failures log_attempts control_blocks control_failures control_attempts l
    c pool frames el ec ep is =
    let fresh_log : Local =
    record {
      pages = pages;
      log = [];
      written = 16;
      synced = 16;
      blocks = blocks;
      failures =
          log_failures;
      attempts = log_attempts;
      room = l.room;
    } in
    subst (λ (x : Local). IsWarm true (origin_of x c pool)) (sym el) (
    subst (λ (y : Controlled). IsWarm true (origin_of fresh_log y pool)) (sym ec)
    (warm-new true pages first pool frames ep is))
