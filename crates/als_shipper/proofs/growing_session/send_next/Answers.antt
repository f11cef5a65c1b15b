use Rattle.als_sending.specs.Accounts.{heard_of, begun_of}
use Rattle.als_shipper.proofs.Gets.{one_came, gets_true, gets_within, gets_nothing, if_all}
use Rattle.als_shipper.proofs.growing_session.send_next.Goals as goal

pub returns-clause-true_frames : goal.returns-clause-true_frames
returns-clause-true_frames g c = λ text are.
    let start = g.V.Visitors.met c.args.visitors.now in
    let came = g.V.Visitors.met c.next.new.self in
    let gone = g.V.Visitors.met c.part.new.self in
    let asked = g.T.Read.remaining c.in_ok-reader.reader in
    let behind = g.T.Read.remaining c.send_log-served.new.reader in
    let told = g.T.Write.contents c.in_ok-reader.writer in
    let after = g.T.Write.contents c.send_log-served.new.writer in
    let own = g.G.Growing.seals c.args.log.now in
    let one = one_came asked behind told after start came gone c.in_ok-reader.ensures.comes c.part.ensures.goes in
    gets_true text own asked behind told after start gone one (c.send_log-served.ensures.true_frames text are)

pub returns-clause-window : goal.returns-clause-window
returns-clause-window g c =
    let start = g.V.Visitors.met c.args.visitors.now in
    let came = g.V.Visitors.met c.next.new.self in
    let gone = g.V.Visitors.met c.part.new.self in
    let asked = g.T.Read.remaining c.in_ok-reader.reader in
    let behind = g.T.Read.remaining c.send_log-served.new.reader in
    let told = g.T.Write.contents c.in_ok-reader.writer in
    let after = g.T.Write.contents c.send_log-served.new.writer in
    let own = g.G.Growing.seals c.args.log.now in
    let one = one_came asked behind told after start came gone c.in_ok-reader.ensures.comes c.part.ensures.goes in
    let pages = g.G.Growing.pages c.args.log.now in
    let end = g.G.Growing.shown c.send_log-served.new.log in
    let none = heard_of c.new-sent.result.account in
    let heard = heard_of c.send_log-served.new.marks.account in
    gets_within c.args.window pages end own none heard asked behind told after start gone c.new-sent.ensures.heard one c.send_log-served.ensures.heard c.send_log-served.ensures.window

pub returns-clause-sent : goal.returns-clause-sent
returns-clause-sent g c =
    let start = g.V.Visitors.met c.args.visitors.now in
    let came = g.V.Visitors.met c.next.new.self in
    let gone = g.V.Visitors.met c.part.new.self in
    let asked = g.T.Read.remaining c.in_ok-reader.reader in
    let behind = g.T.Read.remaining c.send_log-served.new.reader in
    let told = g.T.Write.contents c.in_ok-reader.writer in
    let after = g.T.Write.contents c.send_log-served.new.writer in
    let own = g.G.Growing.seals c.args.log.now in
    let one = one_came asked behind told after start came gone c.in_ok-reader.ensures.comes c.part.ensures.goes in
    let pages = g.G.Growing.pages c.args.log.now in
    let end = g.G.Growing.shown c.send_log-served.new.log in
    let none = heard_of c.new-sent.result.account in
    let heard = heard_of c.send_log-served.new.marks.account in
    let reads = g.G.Growing.reads c.args.log.now in
    let reads_now = g.G.Growing.reads c.send_log-served.new.log in
    if_all pages end own reads reads_now none heard asked behind told after start gone c.send_log-served.result c.new-sent.ensures.heard one c.send_log-served.ensures.sent

pub returns-clause-nothing : goal.returns-clause-nothing
returns-clause-nothing g c = λ not.
    let start = g.V.Visitors.met c.args.visitors.now in
    let came = g.V.Visitors.met c.next.new.self in
    let gone = g.V.Visitors.met c.part.new.self in
    let asked = g.T.Read.remaining c.in_ok-reader.reader in
    let behind = g.T.Read.remaining c.send_log-served.new.reader in
    let told = g.T.Write.contents c.in_ok-reader.writer in
    let after = g.T.Write.contents c.send_log-served.new.writer in
    let own = g.G.Growing.seals c.args.log.now in
    let one = one_came asked behind told after start came gone c.in_ok-reader.ensures.comes c.part.ensures.goes in
    let pages = g.G.Growing.pages c.args.log.now in
    let end = g.G.Growing.shown c.send_log-served.new.log in
    let none = heard_of c.new-sent.result.account in
    let heard = heard_of c.send_log-served.new.marks.account in
    let before = begun_of c.new-sent.result.account in
    let begun = begun_of c.send_log-served.new.marks.account in
    gets_nothing pages end own before begun none heard asked behind told after start gone c.new-sent.ensures.begun (c.send_log-served.new.marks.unbegun not) one c.send_log-served.ensures.begun
