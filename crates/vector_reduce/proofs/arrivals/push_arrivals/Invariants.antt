use Rattle.std.proofs.Common.{◌≡◌, ◌++◌}
use Rattle.std.specs.Prelude.{map}
use Rattle.std.specs.List.{range_with_len}
use Rattle.vector_reduce.specs.Arrivals.{arrival_of}
use Rattle.vector_reduce.proofs.arrivals.push_arrivals.Given as goal

abbrev pub invariant-loop-position : goal.invariant-loop-position
invariant-loop-position l =
    l.list.items ≡ l.initial.list.items ++ map (arrival_of l.number l.vector) (range_with_len 0 l.position)
