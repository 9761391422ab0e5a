use Rattle.std.proofs.Common.{◌≡◌, ◌<◌, ℕ, length}
use Rattle.std.specs.Prelude.{slice_index_or}
use Rattle.replay_threads.specs.declared.groups.Stand.TheVariants.{Ended}
use Rattle.replay_threads.specs.Groups.{AllAt, IsDone, IsOpenAt}
use Rattle.replay_threads.proofs.groups.turns_of.Given as goal

abbrev pub invariant-loop-worker : goal.invariant-loop-worker
invariant-loop-worker g l = record {
  all : length l.workers ≡ length l.fn.workers;
  ids : (k : ℕ) (d : _) → k < length l.workers → (slice_index_or l.workers k d).core.id ≡
      (slice_index_or l.fn.workers k d).core.id;
  tables : AllAt l.table l.workers;
  ended : l.stand ≡ Ended → (k : ℕ) (d : _) → k < l.worker-index → IsDone g.J.Job.recording
      (slice_index_or l.workers k d);
  unsure : IsOpenAt g.J.Job.which g.J.Job.recording l.stand;
}
