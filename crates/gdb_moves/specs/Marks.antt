-- Marks that tell quickly where no breakpoint is.
use Rattle.std.specs.Prelude.{◌≡◌, ℕ, true, List, length, slice_index}
use Rattle.gdb_moves.specs.declared.points.Point.{Point}
use Rattle.gdb_moves.specs.Points.{breaks_at, mark_of}

-- where a breakpoint is, its address has its mark
pub record AreMarks (points : List Point) (marks : List ℕ) : Type 0 where
  pub wide : length marks ≡ 64
  pub each : (pc : ℕ) → breaks_at points pc ≡ true → slice_index marks (mark_of pc) ≡ 1
