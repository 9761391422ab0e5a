use Rattle.std.proofs.Common.{◌∙◌, sym, arith}
use Rattle.cut_replay.specs.ClosedCuts.{count_in}
use Rattle.cut_moves.proofs.WayPlaces.{counts_before}
use Rattle.cut_moves.proofs.seats.Timeline.cut_before.Goals as goal

pub returns-clause-counts : goal.returns-clause-counts
returns-clause-counts c core few =
    let all = c.loop-core-test.false in
    c.loop-core.invariant.each core (omega arith)
    ∙ sym (counts_before (count_in c.args.low.now) (count_in c.args.high.now) c.args.self.now c.requires.within
    c.args.number core)
