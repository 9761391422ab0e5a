use Rattle.std.proofs.Common.{◌≡◌, length}
use Rattle.know_history.specs.Notes.{noted_count}
use Rattle.recorder_examples.proofs.known_tests.history_of.Given as goal

-- the retirements of core 1 so far are noted
abbrev pub invariant-loop-known : goal.invariant-loop-known
invariant-loop-known l = record {
  cores : length l.history.notes ≡ 2;
  noted : noted_count l.history.notes 1 ≡ l.known-index;
  core : l.next.core ≡ 1;
  next : l.next.count ≡ l.known-index;
}
