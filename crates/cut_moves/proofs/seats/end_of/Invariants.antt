use Rattle.std.proofs.Common.{◌<◌, ◌≤◌, ℕ}
use Rattle.cut_moves.specs.Seats.{window_at}
use Rattle.cut_moves.proofs.seats.end_of.Given as goal

abbrev pub invariant-loop-window : goal.invariant-loop-window
invariant-loop-window l = (core : ℕ) → core < l.window-index → (window_at l.windows core).past ≤ l.end
