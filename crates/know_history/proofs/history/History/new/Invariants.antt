use Rattle.std.proofs.Common.{◌≡◌}
use Rattle.std.specs.Prelude.{replicate}
use Rattle.know_history.specs.Changes.{no_newest}
use Rattle.know_history.proofs.history.History.new.Given as goal

-- there is none for as many cores as turns were taken
abbrev pub invariant-loop-core : goal.invariant-loop-core
invariant-loop-core l = l.newest.items ≡ replicate l.core no_newest
