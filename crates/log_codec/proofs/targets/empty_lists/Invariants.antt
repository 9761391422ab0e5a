use Rattle.std.proofs.Common.{◌≡◌, ℕ, List, [], replicate}
use Rattle.log_codec.proofs.targets.empty_lists.Given as goal

-- there are as many empty lists as turns were taken
abbrev pub invariant-loop : goal.invariant-loop
invariant-loop l = l.lists.items ≡ replicate {A = List (ℕ × ℕ)} l.counter []
