-- Rule: closed cuts, an instruction's two: IsClosed, IsLeastWith, IsGreatestWithout
-- Cuts of a recording that are closed under one of its logs.
use Rattle.std.specs.Prelude.{◌≡◌, ℕ, ◌<◌, ◌≤◌, length, slice_index}
use Rattle.rtr_types.specs.declared.TheConstants.{CORES_MAX}
use Rattle.rtr_types.specs.declared.cut.Cut.{Cut}
use Rattle.rtr_types.specs.declared.instr.Instr.{Instr}
use Rattle.rtr_types.specs.declared.pairs.Which.{Which}
use Rattle.race_log.specs.declared.recording.Recording.{Recording}
use Rattle.race_log.specs.Sources.{HasEdge}

-- ---- cuts

-- how many of a core's first instructions the cut has
abbrev pub count_in : Cut → ℕ → ℕ
count_in cut core = slice_index cut.counts core

-- the cut holds the instruction
abbrev pub Holds : Cut → Instr → Type 0
Holds cut at = at.count ≤ count_in cut at.core

-- one count for each core of the recording, at most its total
pub record IsCutOf (r : Recording) (cut : Cut) : Type 0 where
  pub cores : cut.cores ≡ r.params.cores
  pub places : length cut.counts ≡ CORES_MAX
  pub most : (core : ℕ) → core < r.params.cores → count_in cut core ≤ slice_index r.totals core
  pub rest : (core : ℕ) → r.params.cores ≤ core → count_in cut core ≡ 0

-- the cut is contained in the other
abbrev pub IsContained : Cut → Cut → Type 0
IsContained cut other = (core : ℕ) → count_in cut core ≤ count_in other core

-- ---- closed cuts

-- the cut holds each logged source of each instruction that it holds
pub record IsClosed (which : Which) (r : Recording) (cut : Cut) : Type 0 where
  pub is_cut : IsCutOf r cut
  pub sources : (from to : Instr) → HasEdge which r from to → Holds cut to → Holds cut from

-- the closed cut that holds the instruction and is contained in every closed cut that holds it
pub record IsLeastWith (which : Which) (r : Recording) (at : Instr) (cut : Cut) : Type 0 where
  pub closed : IsClosed which r cut
  pub holds : Holds cut at
  pub least : (other : Cut) → IsClosed which r other → Holds other at → IsContained cut other

-- the closed cut that doesn't hold the instruction and contains every closed cut that doesn't
pub record IsGreatestWithout (which : Which) (r : Recording) (at : Instr) (cut : Cut) : Type 0 where
  pub closed : IsClosed which r cut
  pub without : Holds cut at → ⊥
  pub greatest : (other : Cut) → IsClosed which r other → (Holds other at → ⊥) → IsContained other cut

-- ---- there is one of each

abbrev pub OneLeastCutLaw : Type 0
OneLeastCutLaw = (which : Which) (r : Recording) (at : Instr) (cut other : Cut) →
    IsLeastWith which r at cut → IsLeastWith which r at other → cut ≡ other

abbrev pub OneGreatestCutLaw : Type 0
OneGreatestCutLaw = (which : Which) (r : Recording) (at : Instr) (cut other : Cut) →
    IsGreatestWithout which r at cut → IsGreatestWithout which r at other → cut ≡ other
