-- Worked regions: where a checkpoint goes, how many blocks it takes, what stands in each, and when none can be begun.
use Rattle.std.proofs.Common.{◌≡◌, ℕ, List, [], ◌∷◌, ◌++◌, replicate, None, Some, refl, inl, inr}
use Rattle.als_ckpt.specs.declared.region.Region.TheVariants.{First, Second}
use Rattle.als_ckpt_codec.specs.declared.checkpoint.Checkpoint.{Checkpoint}
use Rattle.als_ckpt.specs.Control.{Controlled, first_state, new_control, newest, with_state, settled, IsBusy, with_begun, with_next, published}
use Rattle.als_ckpt.specs.Regions.{Begun, first_block, next_region, blocks_for, padded, part_of}

-- the first checkpoint goes to region 1, then they go to each region in turn
first_region : next_region None ≡ First
first_region = refl

second_region : next_region (Some First) ≡ Second
second_region = refl

third_region : next_region (Some Second) ≡ First
third_region = refl

-- blocks 1 to 160, and 161 to 320
first_begins : first_block First ≡ 1
first_begins = refl

second_begins : first_block Second ≡ 161
second_begins = refl

-- no checkpoint is shorter than 40 bytes, nor longer than 54,568
least_blocks : blocks_for 40 ≡ 1
unfolding blocks_for
least_blocks = refl

full_block : blocks_for 512 ≡ 1
unfolding blocks_for
full_block = refl

one_byte_more : blocks_for 513 ≡ 2
unfolding blocks_for
one_byte_more = refl

most_blocks : blocks_for 54568 ≡ 107
unfolding blocks_for
most_blocks = refl

-- 514 bytes: a whole block, then two bytes and zeros
abbrev long : List ℕ
long = replicate 512 7 ++ 8 ∷ 9 ∷ []

whole_part : part_of long 0 ≡ replicate 512 7
unfolding padded
whole_part = refl

last_part : part_of long 1 ≡ 8 ∷ 9 ∷ replicate 510 0
unfolding padded
last_part = refl

short_part : part_of (8 ∷ 9 ∷ []) 0 ≡ 8 ∷ 9 ∷ replicate 510 0
unfolding padded
short_part = refl

-- a checkpoint at 108
abbrev at_108 : Checkpoint
at_108 = record {
  numbers = record { position = record { 0 = 108 }; greatest = record { 0 = 0 }; open_checkpoint = record { 0 = 0 }; commits = 0; last_commit = record { 0 = 0 } };
  transactions = [];
  pages = [];
}

-- it is on its way to the first region, with no block written
abbrev going : Begun
going = record { region = First; checkpoint = at_108; written = 0; synced = 0 }

-- a new control block, and what becomes of it
abbrev fresh : Controlled
fresh = new_control 64 4096 first_state 321 0 2

abbrev begun : Controlled
begun = with_begun fresh at_108

abbrev marked : Controlled
marked = with_state fresh (record first_state { mark = record { 0 = 108 } })

abbrev unsynced : Controlled
unsynced = published begun going

begun_first : begun.begun ≡ Some going
begun_first = refl

-- a block is written, and then synced
one_written : (with_next begun).begun ≡ Some (record going { written = 1 })
one_written = refl

one_synced : (settled (with_next begun)).begun ≡ Some (record going { written = 1; synced = 1 })
one_synced = refl

-- nothing is begun and nothing is unsynced, or a mark alone is
free_new : IsBusy fresh → ⊥
free_new (inl is_begun) = is_begun refl
free_new (inr other) = other refl

free_marked : IsBusy marked → ⊥
free_marked (inl is_begun) = is_begun refl
free_marked (inr other) = other refl

-- one is begun, or the last publish is not synced
busy_begun : IsBusy begun
busy_begun = inl (λ none. absurd cc)

busy_unsynced : IsBusy unsynced
busy_unsynced = inr (λ same. absurd cc)

-- the sync of a publish frees it, and the next checkpoint goes to the second region
free_synced : IsBusy (settled unsynced) → ⊥
free_synced (inl is_begun) = is_begun refl
free_synced (inr other) = other refl

names_first : (newest unsynced).published ≡ Some First
names_first = refl

next_second : (with_begun (settled unsynced) at_108).begun ≡ Some (record going { region = Second })
next_second = refl
