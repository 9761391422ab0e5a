use Rattle.std.proofs.Common.{◌≡◌, List, [], replicate}
use Rattle.what_if.proofs.free.empty_lists.Given as goal

-- there are as many empty lists as turns were taken
abbrev pub invariant-loop : goal.invariant-loop
invariant-loop g l = l.lists ≡ replicate l.counter []
