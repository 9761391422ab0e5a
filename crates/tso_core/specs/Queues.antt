-- The oldest of a core's pending accesses.
use Rattle.std.specs.Prelude.{Option, Some, None, List, [], ◌∷◌}
use Rattle.tso_state.specs.declared.pending.Pending.{Pending}

abbrev pub oldest : List Pending → Option Pending
oldest [] = None
oldest (p ∷ later) = Some p
