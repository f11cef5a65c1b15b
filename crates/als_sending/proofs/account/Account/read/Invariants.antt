use Rattle.std.proofs.Common.{◌≡◌, ◌∷◌, ◌++◌, [], take}
use Rattle.als_sending.specs.Accounts.{reads_of}
use Rattle.als_sending.proofs.account.Account.read.Given as goal

abbrev pub invariant-loop-byte : goal.invariant-loop-byte
invariant-loop-byte l = reads_of l.self ≡ reads_of l.fn.self ++ record { at = l.fn.at; bytes = take l.byte-index l.bytes } ∷ []
