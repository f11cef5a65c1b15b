-- Worked frames: what the definitions compute for them.
use Rattle.std.proofs.Common.{◌≡◌, [], ◌∷◌, length, refl}
use Rattle.als_record.specs.LogText.{header_bytes}
use Rattle.als_wire.specs.declared.frame.Frame.TheVariants.{Data, Acknowledged, Resume, Epochs}
use Rattle.als_wire.specs.Frames.{head_bytes, history_bytes, frame_bytes}

-- a follower of four pages that ends at 108 and was sealed there
resume : frame_bytes (Resume (record { 0 = 108 }) (record { pages = 4 }) (108 ∷ []))
    ≡ 81 ∷ 0 ∷ 0 ∷ 0 ∷ 0 ∷ 0 ∷ 0 ∷ 0 ∷ 108 ∷ 65 ∷ 76 ∷ 83 ∷ 76 ∷ 79 ∷ 71 ∷ 48 ∷ 49 ∷ 0 ∷ 0 ∷ 0 ∷ 4 ∷ 0 ∷ 0 ∷ 0 ∷ 0
    ∷ 0 ∷ 0 ∷ 0 ∷ 1 ∷ 0 ∷ 0 ∷ 0 ∷ 0 ∷ 0 ∷ 0 ∷ 0 ∷ 108 ∷ []
unfolding history_bytes header_bytes
resume = refl

-- a fresh follower: 29 bytes
fresh : length (frame_bytes (Resume (record { 0 = 16 }) (record { pages = 4 }) [])) ≡ 29
unfolding history_bytes header_bytes
fresh = refl

-- a source that never was sealed
epochs : frame_bytes (Epochs []) ≡ 69 ∷ 0 ∷ 0 ∷ 0 ∷ 0 ∷ []
unfolding history_bytes
epochs = refl

-- the front of 24 bytes from offset 16 on, in epoch 0
data_head : head_bytes 0 16 24 ≡ 70 ∷ 0 ∷ 0 ∷ 0 ∷ 0 ∷ 0 ∷ 0 ∷ 0 ∷ 0 ∷ 0 ∷ 0 ∷ 0 ∷ 16 ∷ 0 ∷ 0 ∷ 0 ∷ 24 ∷ []
unfolding head_bytes
data_head = refl

-- the last frame of a session, in epoch 2
last : frame_bytes (Data 2 108 []) ≡ 70 ∷ 0 ∷ 0 ∷ 0 ∷ 2 ∷ 0 ∷ 0 ∷ 0 ∷ 0 ∷ 0 ∷ 0 ∷ 0 ∷ 108 ∷ 0 ∷ 0 ∷ 0 ∷ 0 ∷ []
unfolding head_bytes
last = refl

acknowledged : frame_bytes (Acknowledged (record { 0 = 108 })) ≡ 65 ∷ 0 ∷ 0 ∷ 0 ∷ 0 ∷ 0 ∷ 0 ∷ 0 ∷ 108 ∷ []
acknowledged = refl
