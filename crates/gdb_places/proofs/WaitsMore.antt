-- The waits of one core more.
use Rattle.std.proofs.Common.{◌≡◌, ℕ, ◌+◌, [], ap, add-one, refl}
use Rattle.rtr_types.specs.declared.cut.Cut.{Cut}
use Rattle.rtr_types.specs.declared.instr.Instr.{Instr}
use Rattle.rtr_types.specs.declared.pairs.Which.{Which}
use Rattle.race_log.specs.declared.recording.Recording.{Recording}
use Rattle.gdb_places.specs.Waits.{wait_of, waits_below, with_wait}

pub waits_none : (which : Which) (r : Recording) (cut : Cut) (at : Instr) → [] ≡ waits_below which r cut at 0
unfolding waits_below
waits_none which r cut at = refl

pub waits_more : (which : Which) (r : Recording) (cut : Cut) (at : Instr) (core : ℕ) →
    waits_below which r cut at (core + 1)
    ≡ with_wait (waits_below which r cut at core) core (wait_of which r cut core at)
unfolding waits_below
waits_more which r cut at core = ap (waits_below which r cut at) (add-one core)
