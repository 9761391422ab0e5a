-- How the programs of the cores end.
use Rattle.std.specs.Prelude.{ℕ, Option, Some, None}
use Rattle.gdb_packets.specs.declared.replies.Signal.{Signal}
use Rattle.gdb_packets.specs.declared.replies.Signal.TheVariants as signals
use Rattle.image_mem.specs.Contents.{Contents}
use Rattle.replay_core.specs.Plans.{recorded_image}
use Rattle.replay_core.specs.Play.{core_at}
use Rattle.replay_audit.specs.Determinate.{low_outcome}
use Rattle.rv_core.specs.declared.core_state.Stop.{Stop}
use Rattle.rv_core.specs.declared.core_state.Stop.TheVariants.{Exit, Break, Limit, Fetch, Illegal, Jump, Align, Address}
use Rattle.rv_core.specs.declared.core_state.Stop.TheVariants.{Total}
use Rattle.rv_core.specs.declared.outcome.Outcome.{Outcome}
use Rattle.rv_core.specs.Steps.{need, stop_of}
use Rattle.debug_place.specs.Places.{Placed}

-- how a core's program ends, by an outcome
abbrev pub end_in : Contents → Outcome → (core : ℕ) → Stop
end_in image outcome core = stop_of (need image (core_at outcome core))

-- and by what the recorded run comes to, in which every whole order agrees
abbrev pub end_of : Placed → (core : ℕ) → Stop
end_of place core = end_in (recorded_image place.recording) (low_outcome place.which place.recording) core

-- the signal of a program that ends so; none where it ends well, or goes on no further
abbrev pub signal_of : Stop → Option Signal
signal_of Exit = None
signal_of Break = Some signals.Trap
signal_of Limit = None
signal_of Fetch = Some signals.Segment
signal_of Illegal = Some signals.Illegal
signal_of Jump = Some signals.Misaligned
signal_of Align = Some signals.Misaligned
signal_of Address = Some signals.Segment
signal_of Total = None
