use Rattle.std.proofs.Common.{◌≤◌, ◌-◌, slice_index}
use Rattle.cut_replay.specs.Frees.{AreBetween}
use Rattle.cut_replay.proofs.closed_cuts.free_of.Given as goal

-- the first instructions so far are free of it, and those above the least that isn't known are not
abbrev pub invariant-loop-free : goal.invariant-loop-free
invariant-loop-free l = record {
  between : AreBetween l.audited.which l.audited.recording l.fn.at l.fn.core l.free l.least;
  within : l.least ≤ slice_index l.audited.recording.totals l.fn.core;
}

abbrev pub decreases-loop-free : goal.decreases-loop-free
decreases-loop-free l = l.least - l.free
