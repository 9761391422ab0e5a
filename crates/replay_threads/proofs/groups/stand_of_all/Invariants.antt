use Rattle.std.proofs.Common.{◌≡◌, ◌<◌, ℕ}
use Rattle.std.specs.Prelude.{slice_index_or}
use Rattle.replay_threads.specs.declared.groups.Stand.TheVariants.{Ended}
use Rattle.replay_threads.specs.Groups.{IsOpenAt}
use Rattle.replay_threads.proofs.groups.stand_of_all.Given as goal

abbrev pub invariant-loop-group : goal.invariant-loop-group
invariant-loop-group g l = record {
  ended : l.stand ≡ Ended → (k : ℕ) (d : _) → k < l.group-index → (slice_index_or l.groups k d).stand ≡ Ended;
  unsure : IsOpenAt g.J.Job.which g.J.Job.recording l.stand;
}
