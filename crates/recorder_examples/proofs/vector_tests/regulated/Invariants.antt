use Rattle.std.proofs.Common.{◌≡◌, ◌≤◌, []}
use Rattle.std.specs.Prelude.{slice_index_or}
use Rattle.edge_regulate.specs.Regulated.{end_target}
use Rattle.recorder_examples.proofs.vector_tests.regulated.Given as goal

-- the pair's vectors end by the last retirement
abbrev pub invariant-loop-known : goal.invariant-loop-known
invariant-loop-known l = record {
  cores : l.regulator.regulation.cores ≡ 2;
  core : l.at.core ≡ 1;
  count : l.at.count ≡ l.known-index;
  ends : end_target (slice_index_or l.regulator.regulation.vectors 0 []) ≤ l.known-index;
}
