-- Rule: what lies ahead forwards or backwards, a step and a way there: ahead_in, LiesAhead, IsStepIn, GoesTo
-- The directions along a recording: to later instructions, and back to earlier ones.
use Rattle.std.specs.Prelude.{◌≡◌, ℕ, Bool, Option}
use Rattle.rtr_types.specs.CoreSets.{no_cores, without_core}
use Rattle.rtr_types.specs.declared.core_set.CoreSet.{CoreSet}
use Rattle.rtr_types.specs.declared.cut.Cut.{Cut}
use Rattle.rtr_types.specs.declared.instr.Instr.{Instr}
use Rattle.rtr_types.specs.declared.pairs.Which.{Which}
use Rattle.rv_core.specs.declared.outcome.Outcome.{Outcome}
use Rattle.race_log.specs.declared.recording.Recording.{Recording}
use Rattle.gdb_packets.specs.declared.replies.Why.{Why}
use Rattle.gdb_packets.specs.declared.replies.Why.TheVariants.{End, Begin}
use Rattle.replay_core.specs.Plans.{Plan}
use Rattle.cut_replay.specs.ClosedCuts.{count_in, IsContained}
use Rattle.cut_moves.specs.Steps.{IsStep, IsStepBack, IsWholeCut, last_in, next_in}
use Rattle.debug_place.specs.Backs.{GoesBack}
use Rattle.debug_place.specs.Places.{Placed}
use Rattle.debug_place.specs.Stops.{GoesOn}
use Rattle.gdb_moves.specs.declared.direction.Direction.{Direction}
use Rattle.gdb_moves.specs.declared.direction.Direction.TheVariants.{Forward, Back}

-- ---- what lies ahead

-- the core's instruction that does: its next one, or back its last
abbrev pub ahead_in : Direction → Cut → (core : ℕ) → Instr
ahead_in Forward cut core = next_in cut core
ahead_in Back cut core = last_in cut core

-- a cut does
abbrev pub LiesAhead : Direction → (cut to : Cut) → Type 0
LiesAhead Forward cut to = IsContained cut to
LiesAhead Back cut to = IsContained to cut

-- nothing does: it's the cut with all instructions, or with none
abbrev pub IsLimit : Direction → Recording → Cut → Type 0
IsLimit Forward r cut = IsWholeCut r cut
IsLimit Back r cut = (core : ℕ) → count_in cut core ≡ 0

-- and this is told there
abbrev pub limit_why : Direction → Why
limit_why Forward = End
limit_why Back = Begin

-- ---- moves

-- a core's step: to the least closed cut that contains this one and has its next instruction, or back to the greatest
-- within it that lacks its last
abbrev pub IsStepIn : Direction → Which → Recording → Cut → (core : ℕ) → (to : Cut) → Type 0
IsStepIn Forward which r cut core to = IsStep which r cut (next_in cut core) to
IsStepIn Back which r cut core to = IsStepBack which r cut (last_in cut core) to

-- going to a cut, it came to the stop of the way that comes first, or to the cut where the way has none
abbrev pub GoesTo : Direction → (test : Plan → Outcome → ℕ → Bool) → (old : Placed) → (to : Cut) → (new : Placed) →
    Option ℕ → Type 0
GoesTo Forward test old to new stopped = GoesOn test old to new stopped
GoesTo Back test old to new stopped = GoesBack test old to new stopped

-- ---- what stops a move

-- the cores whose faults do, of those that are heard: backwards no fault is told
abbrev pub faulting : Direction → (heard : CoreSet) → CoreSet
faulting Forward heard = heard
faulting Back heard = no_cores

-- the cores whose breakpoints do where one steps: forwards it isn't stopped at its own instruction
abbrev pub pausing : Direction → (core : ℕ) → (heard : CoreSet) → CoreSet
pausing Forward core heard = without_core heard core
pausing Back core heard = heard
