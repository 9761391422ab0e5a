use Rattle.std.proofs.Common.{◌≡◌, replicate}
use Rattle.what_if.proofs.free.limits.Given as goal

-- there are as many as turns were taken
abbrev pub invariant-loop : goal.invariant-loop
invariant-loop l = l.list ≡ replicate l.counter l.limit
