use Rattle.std.proofs.Common.{◌≤◌, List, ℕ, subst, sym}
use Rattle.replay_core.specs.Orders.{counts, nought}
use Rattle.cut_replay.specs.ClosedCuts.{count_in}
use Rattle.debug_place.proofs.StopPlaces.{in_line}
use Rattle.debug_place.proofs.looks.last_stop.Goals as goal

pub end-end-requires : goal.end-end-requires
end-end-requires g c =
    let a = c.args.index.now in
    let passed = c.audited-audited.ensures.passed in
    λ core few. subst (λ (l : List ℕ). count_in c.args.high.now core ≤ counts nought l core) (sym c.requires.timeline)
    (in_line a.which a.recording passed.valid passed.passed.determinate c.args.low.now c.args.high.now
    c.requires.within c.requires.high core)
