use Rattle.als_renew.proofs.Staying.{writes-stay}
use Rattle.als_renew.proofs.keeping.a_doubt_keeps_its_writes.Goals as goal

pub returns : goal.returns
returns c log more t v d still = writes-stay log more t v d still
