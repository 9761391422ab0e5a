-- Rule: the pc of an instruction: IsPcOf
-- Where a core stands before an instruction.
use Rattle.std.specs.Prelude.{◌≡◌, ℕ, ◌+◌, ◌-◌, ◌<◌, List, [], length, slice_index, slice_index_or}
use Rattle.rtr_types.specs.declared.cut.Cut.{Cut}
use Rattle.rtr_types.specs.declared.instr.Instr.{Instr}
use Rattle.rtr_types.specs.declared.pairs.Which.{Which}
use Rattle.rv_core.specs.declared.outcome.Outcome.{Outcome}
use Rattle.race_log.specs.declared.recording.Recording.{Recording}
use Rattle.race_log.specs.Validity.{Valid}
use Rattle.replay_core.specs.Answers.{UnderWay}
use Rattle.replay_core.specs.Orders.{counts_in}
use Rattle.replay_core.specs.Play.{core_at, instr}
use Rattle.replay_audit.specs.Audits.{IsInstrOf}
use Rattle.replay_audit.specs.Determinate.{IsDeterminate}
use Rattle.cut_replay.specs.ClosedCuts.{IsClosed, count_in}
use Rattle.cut_replay.specs.CutStates.{IsStateAt}
use Rattle.debug_place.specs.Walks.{IsWalking}

-- the pc of an instruction: a closed cut has all of the core's instructions before it, and not it, and in the cut's
-- state the core is there
pub record IsPcOf (which : Which) (r : Recording) (at : Instr) (pc : ℕ) : Type 0 where
  pub cut : Cut
  pub closed : IsClosed which r cut
  pub before : count_in cut at.core + 1 ≡ at.count
  pub state : Outcome
  pub state_is : IsStateAt which r cut state
  pub pc_is : pc ≡ (core_at state at.core).pc

-- the pc of an instruction, by lists of them: for each core of its first instruction, its second, and so on
abbrev pub pc_in : List (List ℕ) → Instr → ℕ
pc_in pcs at = slice_index (slice_index_or pcs at.core []) (at.count - 1)

-- the lists have the pc of each instruction of the recording
pub record ArePcs (which : Which) (r : Recording) (pcs : List (List ℕ)) : Type 0 where
  pub each : (at : Instr) → IsInstrOf r at → IsPcOf which r at (pc_in pcs at)

-- ---- on the way

-- so far they have those of each core's first instructions
pub record AreNoted (which : Which) (r : Recording) (f : ℕ → ℕ) (pcs : List (List ℕ)) : Type 0 where
  pub all : length pcs ≡ r.params.cores
  pub long : (core : ℕ) → core < r.params.cores → length (slice_index_or pcs core []) ≡ f core
  pub noted : (core k : ℕ) → core < r.params.cores → k < f core →
      IsPcOf which r (instr core (k + 1)) (slice_index (slice_index_or pcs core []) k)

-- the places to come lead to the end of the run, and the pcs of those behind are noted
pub record IsNoting (which : Which) (r : Recording) (replay : UnderWay) (places : List ℕ) (pcs : List (List ℕ))
    : Type 0 where
  pub to : Cut
  pub walking : IsWalking which r to replay places
  pub ends : (core : ℕ) → core < r.params.cores → count_in to core ≡ slice_index r.totals core
  pub so_far : AreNoted which r (counts_in replay.state) pcs

-- ---- law

-- an instruction has one pc, whichever closed cut is looked at
abbrev pub OnePcLaw : Type 0
OnePcLaw = (which : Which) (r : Recording) (at : Instr) (pc other : ℕ) → Valid r → IsDeterminate which r →
    IsPcOf which r at pc → IsPcOf which r at other → pc ≡ other
