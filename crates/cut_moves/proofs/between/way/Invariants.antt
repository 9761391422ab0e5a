use Rattle.std.proofs.Common.{◌≡◌, ◌++◌, drop}
use Rattle.cut_replay.specs.ClosedCuts.{count_in}
use Rattle.cut_moves.specs.Ways.{way_of}
use Rattle.cut_moves.proofs.WindowWay.{seen_from}
use Rattle.cut_moves.proofs.between.way.Given as goal

-- what the places so far have of the way was taken
abbrev pub invariant-loop-number : goal.invariant-loop-number
invariant-loop-number l =
    l.list.items ++ seen_from l.windows l.number (drop l.number l.places)
    ≡ way_of (count_in l.low) (count_in l.high) l.places
