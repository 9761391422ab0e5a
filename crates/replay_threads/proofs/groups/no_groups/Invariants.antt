use Rattle.std.proofs.Common.{◌≡◌, ℕ, [], length}
use Rattle.replay_threads.specs.Groups.{workers_at}
use Rattle.replay_threads.proofs.groups.no_groups.Given as goal

abbrev pub invariant-loop-made : goal.invariant-loop-made
invariant-loop-made g l = record {
  all : length l.groups.items ≡ l.made;
  none : (k : ℕ) → workers_at l.groups.items k ≡ [];
}
