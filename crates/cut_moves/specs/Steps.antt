-- Rule: a step and a step back: IsStep, IsStepBack, IsHull
-- Moves from a closed cut to another: forward by one instruction of a core, and back.
use Rattle.std.specs.Prelude.{◌≡◌, ℕ, ◌+◌, ◌<◌, ◌≤◌, List, length, slice_index}
use Rattle.rtr_types.specs.declared.TheConstants.{CORES_MAX}
use Rattle.rtr_types.specs.declared.cut.Cut.{Cut}
use Rattle.rtr_types.specs.declared.instr.Instr.{Instr}
use Rattle.rtr_types.specs.declared.pairs.Which.{Which}
use Rattle.race_log.specs.declared.recording.Recording.{Recording}
use Rattle.race_log.specs.Validity.{Valid}
use Rattle.replay_core.specs.Answers.{cut_of}
use Rattle.replay_core.specs.Orders.{counts, nought, IsReplayOrder}
use Rattle.replay_core.specs.Plans.{plan_of}
use Rattle.replay_core.specs.Play.{instr}
use Rattle.replay_audit.specs.Audits.{IsInstrOf}
use Rattle.replay_audit.specs.Determinate.{IsDeterminate}
use Rattle.cut_replay.specs.ClosedCuts.{count_in, Holds, IsClosed, IsContained, IsCutOf}
use Rattle.cut_replay.specs.ClosedCuts.{IsGreatestWithout, IsLeastWith}
use Rattle.cut_replay.specs.Frees.{IsNeededBy}
use Rattle.cut_moves.specs.Unions.{intersection_of, union_of}

-- ---- one step

-- the core's next instruction, and its last; without a next one, or a last one, they aren't the recording's
abbrev pub next_in : Cut → (core : ℕ) → Instr
next_in cut core = instr core (count_in cut core + 1)

abbrev pub last_in : Cut → (core : ℕ) → Instr
last_in cut core = instr core (count_in cut core)

-- the closed cut that contains this one, holds the instruction, and is contained in every closed cut that does both
pub record IsStep (which : Which) (r : Recording) (cut : Cut) (at : Instr) (to : Cut) : Type 0 where
  pub closed : IsClosed which r to
  pub contains : IsContained cut to
  pub holds : Holds to at
  pub least : (other : Cut) → IsClosed which r other → IsContained cut other → Holds other at → IsContained to other

-- the closed cut that is contained in this one, doesn't hold the instruction, and contains every closed cut of which
-- both are true
pub record IsStepBack (which : Which) (r : Recording) (cut : Cut) (at : Instr) (to : Cut) : Type 0 where
  pub closed : IsClosed which r to
  pub contained : IsContained to cut
  pub without : Holds to at → ⊥
  pub greatest : (other : Cut) → IsClosed which r other → IsContained other cut → (Holds other at → ⊥) →
      IsContained other to

-- of the core's first instructions, up to so many, just the first n neither are the instruction nor need it
pub record AreFreeOf (which : Which) (r : Recording) (at : Instr) (core most n : ℕ) : Type 0 where
  pub within : n ≤ most
  pub free : (count : ℕ) → 1 ≤ count → count ≤ n → IsNeededBy which r at core count → ⊥
  pub need : (count : ℕ) → n < count → count ≤ most → IsNeededBy which r at core count

-- the cut has just these of the other's
pub record AreWithout (which : Which) (r : Recording) (cut : Cut) (at : Instr) (to : Cut) : Type 0 where
  pub cores : to.cores ≡ r.params.cores
  pub places : length to.counts ≡ CORES_MAX
  pub each : (core : ℕ) → core < r.params.cores → AreFreeOf which r at core (count_in cut core) (count_in to core)
  pub rest : (core : ℕ) → r.params.cores ≤ core → count_in to core ≡ 0

-- ---- the cut around given counts

-- the closed cut that contains the counts, and is contained in every closed cut that does
pub record IsHull (which : Which) (r : Recording) (counts : Cut) (to : Cut) : Type 0 where
  pub closed : IsClosed which r to
  pub contains : IsContained counts to
  pub least : (other : Cut) → IsClosed which r other → IsContained counts other → IsContained to other

-- the cut with all instructions of each core
pub record IsWholeCut (r : Recording) (cut : Cut) : Type 0 where
  pub is_cut : IsCutOf r cut
  pub all : (core : ℕ) → core < r.params.cores → count_in cut core ≡ slice_index r.totals core

-- ---- laws

-- what a replay order has done is a closed cut
abbrev pub OrderCutLaw : Type 0
OrderCutLaw = (which : Which) (r : Recording) (order : List ℕ) → Valid r → IsReplayOrder (plan_of which r) order →
    IsClosed which r (cut_of (plan_of which r) (counts nought order))

-- united with the least cut that holds an instruction, a closed cut is a step
abbrev pub StepByUnionLaw : Type 0
StepByUnionLaw = (which : Which) (r : Recording) (cut least : Cut) (at : Instr) → IsClosed which r cut →
    IsLeastWith which r at least → IsStep which r cut at (union_of cut least)

-- what it has in common with the greatest cut that lacks one is a step back
abbrev pub BackByIntersectionLaw : Type 0
BackByIntersectionLaw = (which : Which) (r : Recording) (cut greatest : Cut) (at : Instr) → IsClosed which r cut →
    IsGreatestWithout which r at greatest → IsStepBack which r cut at (intersection_of cut greatest)

-- there is one step, and one step back
abbrev pub OneStepLaw : Type 0
OneStepLaw = (which : Which) (r : Recording) (cut to other : Cut) (at : Instr) → IsStep which r cut at to →
    IsStep which r cut at other → to ≡ other

abbrev pub OneStepBackLaw : Type 0
OneStepBackLaw = (which : Which) (r : Recording) (cut to other : Cut) (at : Instr) → IsStepBack which r cut at to →
    IsStepBack which r cut at other → to ≡ other

-- a step to an instruction that the cut lacks has no later one of its core
abbrev pub StepCountLaw : Type 0
StepCountLaw = (which : Which) (r : Recording) (cut to : Cut) (at : Instr) → Valid r → IsDeterminate which r →
    IsInstrOf r at → IsClosed which r cut → (Holds cut at → ⊥) → IsStep which r cut at to →
    count_in to at.core ≡ at.count

-- a step back from an instruction that the cut has keeps each earlier one of its core
abbrev pub BackCountLaw : Type 0
BackCountLaw = (which : Which) (r : Recording) (cut to : Cut) (at : Instr) → Valid r → IsDeterminate which r →
    IsInstrOf r at → IsClosed which r cut → Holds cut at → IsStepBack which r cut at to →
    count_in to at.core + 1 ≡ at.count

-- a step back after a step comes to a cut that contains the first one
abbrev pub BackContainsLaw : Type 0
BackContainsLaw = (which : Which) (r : Recording) (cut up down : Cut) (at : Instr) → IsClosed which r cut →
    (Holds cut at → ⊥) → IsStep which r cut at up → IsStepBack which r up at down → IsContained cut down

-- a step after a step back comes to a cut that the first one contains
abbrev pub StepContainedLaw : Type 0
StepContainedLaw = (which : Which) (r : Recording) (cut down up : Cut) (at : Instr) → IsClosed which r cut →
    Holds cut at → IsStepBack which r cut at down → IsStep which r down at up → IsContained up cut

-- step, back and step again is step
abbrev pub StepAgainLaw : Type 0
StepAgainLaw = (which : Which) (r : Recording) (cut up down again : Cut) (at : Instr) → IsClosed which r cut →
    (Holds cut at → ⊥) → IsStep which r cut at up → IsStepBack which r up at down → IsStep which r down at again →
    again ≡ up

-- back, step and back again is back
abbrev pub BackAgainLaw : Type 0
BackAgainLaw = (which : Which) (r : Recording) (cut down up again : Cut) (at : Instr) → IsClosed which r cut →
    Holds cut at → IsStepBack which r cut at down → IsStep which r down at up → IsStepBack which r up at again →
    again ≡ down
