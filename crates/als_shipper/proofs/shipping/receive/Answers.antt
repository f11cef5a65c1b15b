use Rattle.als_shipper.proofs.Visiting.{tells_last}
use Rattle.als_shipper.proofs.shipping.receive.Goals as goal

pub returns-in-Ok-clause-sent : goal.returns-in-Ok-clause-sent
returns-in-Ok-clause-sent g c = λ header begins few asked.
    let start = g.V.Visitors.met c.args.visitors.now in
    let came = g.V.Visitors.met c.next.new.self in
    let gone = g.V.Visitors.met c.part.new.self in
    let wanted = g.T.Read.remaining c.in_ok-reader.reader in
    let behind = g.T.Read.remaining c.serve-served.new.reader in
    let told = g.T.Write.contents c.in_ok-reader.writer in
    let after = g.T.Write.contents c.serve-served.new.writer in
    let printed = g.O.Write.contents c.args.output.now in
    let line = g.O.Write.contents c.serve-served.new.output in
    tells_last (g.S.Source.text c.args.source.now) (g.S.Source.seals c.args.source.now) header wanted behind told after printed line start came gone c.in_ok-reader.ensures.comes c.part.ensures.goes (c.in-Ok.ensures.sent header begins few)
