use Rattle.std.proofs.Common.{◌≤◌, List, ℕ, refl, subst, sym, arith}
use Rattle.replay_core.specs.Orders.{counts, nought}
use Rattle.cut_replay.specs.ClosedCuts.{count_in}
use Rattle.cut_moves.specs.Rounds.{rounds_of}
use Rattle.cut_moves.specs.Ways.{way_of}
use Rattle.cut_moves.proofs.TakenWay.{in_totals}
use Rattle.debug_place.proofs.looks.counts_within.Goals as goal
use Rattle.debug_place.proofs.looks.counts_within.Goals.{After-recording}

-- the timeline has as many of the core's instructions as the higher cut
has_most : (c : After-recording) → count_in c.args.high.now c.args.core ≤ counts nought c.args.timeline.now c.args.core
has_most c =
    let a = c.args.index.now in
    subst (λ (l : List ℕ). count_in c.args.high.now c.args.core ≤ counts nought l c.args.core) (sym c.requires.timeline)
    (in_totals a.which a.recording c.audited-audited.ensures.passed.valid
    c.audited-audited.ensures.passed.passed.determinate c.args.low.now c.args.high.now
    c.requires.within c.requires.high (way_of (count_in c.args.low.now) (count_in c.args.high.now)
    (rounds_of a.which a.recording)) refl c.args.core)

pub count_before-requires-clause-most : goal.count_before-requires-clause-most
count_before-requires-clause-most c = has_most (goal.at.count_before-requires-clause-most c).After-recording

pub count_before-requires-2-clause-most : goal.count_before-requires-2-clause-most
count_before-requires-2-clause-most c = has_most (goal.at.count_before-requires-2-clause-most c).After-recording

pub returns : goal.returns
returns c =
    let here = (goal.at.returns c).After-recording in
    let most = c.requires.high.is_cut.most c.args.core c.requires.core in
    let within = c.requires.within c.args.core in
    record {
      least_is = c.count_before.ensures;
      most_is = c.count_before-2.ensures;
      within = let is = c.count_before-2.ensures in omega arith;
      whole = has_most here;
    }
