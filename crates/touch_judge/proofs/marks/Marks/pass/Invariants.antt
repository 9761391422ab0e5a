-- the touches up to the place are past
use Rattle.std.proofs.Common.{◌≡◌, ◌-◌, ◌≤◌, length}
use Rattle.std.specs.Prelude.{slice_index, slice_index_or, slice_set}
use Rattle.replay_audit.specs.declared.touch.Touch.{Touch}
use Rattle.touch_judge.specs.Marks.{AreCovered, AreMarked}
use Rattle.touch_judge.proofs.marks.Marks.pass.Given as goal

abbrev pub invariant-loop-touch : goal.invariant-loop-touch
invariant-loop-touch l = record {
  marked : AreMarked l.touched (slice_set l.places l.core l.place) l.self;
  all : length l.self ≡ length l.fn.self;
  covered : AreCovered l.touched l.places (slice_set l.places l.core l.place) l.core l.clock;
  more : slice_index l.places l.core ≤ l.place;
  within : l.place ≤ length l.list;
  before : (d : Touch) → 1 ≤ l.place → (slice_index_or l.list (l.place - 1) d).at.count ≤ l.until;
}

abbrev pub decreases-loop-touch : goal.decreases-loop-touch
decreases-loop-touch l = length l.list - l.place
