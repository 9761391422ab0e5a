use Rattle.std.proofs.Common.{◌≡◌, ◌-◌, ◌++◌, max}
use Rattle.turn_policies.specs.Ranked.{drawn_points}
use Rattle.turn_policies.proofs.ranked.drawn_points.Given as goal

abbrev pub invariant-loop-drawn : goal.invariant-loop-drawn
invariant-loop-drawn l =
    l.points.items ++ drawn_points (l.depth - l._drawn) (max l.picks 1) l.words
    ≡ drawn_points (l.depth - 1) (max l.picks 1) l.fn.words
