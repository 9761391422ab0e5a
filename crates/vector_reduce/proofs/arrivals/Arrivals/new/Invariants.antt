use Rattle.std.proofs.Common.{◌≡◌, ℕ, ◌<◌, length}
use Rattle.vector_reduce.specs.Arrivals.{AreInto, list_at}
use Rattle.vector_reduce.proofs.arrivals.Arrivals.new.Given as goal

abbrev pub invariant-loop-core : goal.invariant-loop-core
invariant-loop-core l = record {
  number : length l.lists.items ≡ l.core;
  each : (core : ℕ) → core < l.core → AreInto l.fn.vectors core (list_at l.lists.items core);
}
