use Rattle.als_record.proofs.Held.{holds-one}
use Rattle.als_laws.proofs.valid_logs.one_transaction_holds_a_key.Goals as goal

pub returns : goal.returns
returns c log v k s t ls lt hs ht = holds-one log v k s t ls lt hs ht
