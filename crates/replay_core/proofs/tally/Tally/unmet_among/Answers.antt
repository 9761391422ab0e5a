use Rattle.std.proofs.Common.{◌+◌, sym, ap, arith, length}
use Rattle.replay_core.specs.Tallies.{Tallied, count_of}
use Rattle.replay_core.proofs.LowCounts.{sourced_in}
use Rattle.replay_core.proofs.tally.Tally.unmet_among.Goals as goal

pub returns : goal.returns
returns c =
    let u = c.args.self.now in
    let all = ap (λ (t : Tallied). length t.plan.totals) c.self.view_is in
    sourced_in c.self.inside.which c.self.inside.recording.now u.plan (count_of u.counts) c.args.core
    (count_of u.counts c.args.core + 1) c.args.wanted.now c.self.invariant.valid
    (ap (λ (t : Tallied). t.plan) (sym c.self.view_is)) c.requires.sources
    (λ i lt. c.loop-of.invariant i (omega (arith, all, c.self.invariant.valid.each_core, c.loop-of-test.false)))
