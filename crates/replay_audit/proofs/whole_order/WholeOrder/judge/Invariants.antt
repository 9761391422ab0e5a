-- the accesses so far were laid along a front of the order
use Rattle.std.proofs.Common.{◌≡◌, ◌+◌, ℕ, take, length}
use Rattle.std.specs.Prelude.{slice_index}
use Rattle.rtr_types.specs.declared.TheConstants.{CORES_MAX}
use Rattle.replay_core.specs.Orders.{counts, nought}
use Rattle.replay_audit.specs.Touches.{IsPlaceOf, touches_of}
use Rattle.replay_audit.proofs.LowJudgement.{Judged}
use Rattle.replay_audit.proofs.whole_order.WholeOrder.judge.Given as goal

abbrev pub invariant-loop-core : goal.invariant-loop-core
invariant-loop-core l = record {
  judged : Judged l.fn.self.which l.fn.self.recording l.touched l.core-items
      (take l.core-index l.core-items) l.trail;
  counted : (i : ℕ) → slice_index l.counts i ≡ counts nought (take l.core-index l.core-items) i;
  placed : (c : ℕ) → IsPlaceOf (touches_of l.touched c) (counts nought (take l.core-index l.core-items) c + 1)
      (slice_index l.places c);
  all_counts : length l.counts ≡ CORES_MAX;
  all_places : length l.places ≡ CORES_MAX;
  all_guesses : length l.guesses ≡ CORES_MAX;
}
