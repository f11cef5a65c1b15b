use Rattle.std.proofs.Common.{ap}
use Rattle.als_quorum.specs.declared.roll.Roll.{Roll}
use Rattle.als_quorum.proofs.Tallies.{tally_of}
use Rattle.als_quorum.proofs.tally.Tally.of.Goals as goal

pub returns-clause-enough : goal.returns-clause-enough
returns-clause-enough c =
    tally_of c.args.allowed.now.blocks.items (record { is_enough = c.has_enough.result; round = c.args.wanted.round; roll = c.of.result }) c.args.roll.now.rows.items c.args.count c.args.wanted.lsn.0
    (ap (λ (r : Roll). r.rows.items) c.of.ensures) c.has_enough.ensures
