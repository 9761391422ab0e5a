use Rattle.std.proofs.Common.{◌≡◌}
use lib.Lanes.{mask_l}
use Rattle.move_marks.proofs.Bits.{flags, later}
use Rattle.move_marks.proofs.sets.nth.Given as goal

abbrev pub invariant-loop-passed : goal.invariant-loop-passed
invariant-loop-passed l = l.rest ≡ mask_l (later (flags l.fn.set) l._passed)
