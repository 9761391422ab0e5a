use Rattle.std.proofs.Common.{ℕ, ◌<◌, None}
use Rattle.vector_reduce.specs.Arrivals.{NextDue, list_at}
use Rattle.vector_reduce.proofs.arrivals.Arrivals.due.Given as goal

abbrev pub invariant-loop-core : goal.invariant-loop-core
invariant-loop-core l = (core : ℕ) → core < l.core → NextDue (list_at l.self.lists core) l.closing core None
