use Rattle.std.proofs.Common.{rules, arith, ◌≡◌, ◌≤◌, ◌<◌, ◌+◌, None, Some, length, refl, sym, ap, ◌∙◌}
use Rattle.als_record.specs.Spelling.{record_len}
use Rattle.als_log.specs.Reading.{record_at}
use Rattle.als_engine.specs.Machine.{Machine}
use Rattle.als_ship.proofs.NodeLogs.{spelled_none, spelled_more, spells_all, spells_to}
use Rattle.als_ship.proofs.node_log.spell_to.Goals as goal

pub loop-init : goal.loop-init
loop-init g c = λ a.
    let m = g.E.Events.machine c.args.events.now in
    (refl, spelled_none m.held.pages m.held.log c.args.limit.0 c.args.bytes.now.items (c.requires.header a))

pub returns-in_default-clause-all : goal.returns-in_default-clause-all
returns-in_default-clause-all g c = λ a.
    let m = g.E.Events.machine c.args.events.now in
    let bytes = c.loop.bytes.items in
    let inv = c.loop.invariant a in
    let reads = c.in_ok-record.ensures.reads a in
    let none : c.in_ok-record.field-0 ≡ None = c.in_default.is in
    let at : c.len-at.result ≡ length bytes = search rules in
    let found : record_at m.held.log (length bytes) ≡ None = ap (record_at m.held.log) (sym at) ∙ ap (λ (x : Machine). record_at x.held.log c.len-at.result) (sym inv.0) ∙ sym reads.0 ∙ none in
    spells_all m.held.pages m.held.log c.args.limit.0 bytes (c.requires.valid a) inv.1 found

pub returns-then-at-encoded_len-clause-all : goal.returns-then-at-encoded_len-clause-all
returns-then-at-encoded_len-clause-all g c = λ a.
    let m = g.E.Events.machine c.args.events.now in
    let bytes = c.loop.bytes.items in
    let inv = c.loop.invariant a in
    let reads = c.in_ok-record.ensures.reads a in
    let r = c.in-Some.record in
    let some : c.in_ok-record.field-0 ≡ Some r = c.in-Some.is in
    let at : c.len-at.result ≡ length bytes = search rules in
    let found : record_at m.held.log (length bytes) ≡ Some r = ap (record_at m.held.log) (sym at) ∙ ap (λ (x : Machine). record_at x.held.log c.len-at.result) (sym inv.0) ∙ sym reads.0 ∙ some in
    let past : c.args.limit.0 < length bytes + record_len r = omega (arith, c.if-at-encoded_len.true, c.encoded_len.ensures.len, at) in
    spells_to m.held.pages m.held.log c.args.limit.0 bytes r (c.requires.valid a) inv.1 found past

pub loop-preserved : goal.loop-preserved
loop-preserved g c = λ a.
    let m = g.E.Events.machine c.args.events.now in
    let bytes = c.loop.bytes.items in
    let inv = c.loop.invariant a in
    let reads = c.in_ok-record.ensures.reads a in
    let r = c.in-Some.record in
    let some : c.in_ok-record.field-0 ≡ Some r = c.in-Some.is in
    let at : c.len-at.result ≡ length bytes = search rules in
    let found : record_at m.held.log (length bytes) ≡ Some r = ap (record_at m.held.log) (sym at) ∙ ap (λ (x : Machine). record_at x.held.log c.len-at.result) (sym inv.0) ∙ sym reads.0 ∙ some in
    let within : length bytes + record_len r ≤ c.args.limit.0 = omega (arith, c.if-at-encoded_len.false, c.encoded_len.ensures.len, at) in
    (reads.1 ∙ inv.0, spelled_more m.held.pages m.held.log c.args.limit.0 bytes c.encode.new.out.items r (c.requires.valid a) inv.1 found within c.in-Ok.ensures.ok)
