use Rattle.std.proofs.Common.{◌≡◌, ℕ, ◌-◌, ◌++◌, length, drop, replicate}
use Rattle.std.proofs.lemmas.List.{drop-replicate}
use Rattle.als_record.proofs.kept_image.padded.Goals as goal

pub returns : goal.returns
returns c =
    let n = length c.args.bytes.now in
    let zeros : drop n (replicate {A = ℕ} 31 0) ≡ replicate (31 - n) 0 = drop-replicate n 31 0 in
    λ k. c.copy_from_slice.ensures.after k ++ zeros k
