use Rattle.std.proofs.Common.{◌≡◌, ◌≤◌, ◌^◌, drop}
use Rattle.turn_lists.specs.Counts.{counted_on}
use Rattle.turn_lists.proofs.few.counted.Given as goal

-- the rest is counted on
abbrev pub invariant-loop-place : goal.invariant-loop-place
invariant-loop-place l =
    (counted_on l.count (drop l.place l.greatest) (drop l.place l.row) l.last ≡ counted_on 0 l.greatest l.row l.last)
    × (l.count ≤ 2 ^ 64)
