-- What retires in a run, when, and by which accesses.
use Rattle.std.specs.Prelude.{◌≡◌, ℕ, ◌+◌, ◌<◌, ◌≤◌, All, List, Some}
use Rattle.image_mem.specs.Contents.{Contents}
use Rattle.rtr_types.specs.Parameters.{Fits}
use Rattle.rtr_types.specs.declared.access.Access.{Access}
use Rattle.rtr_types.specs.declared.instr.Instr.{Instr}
use Rattle.rtr_types.specs.declared.params.Params.{Params}
use Rattle.conflict_edge.specs.Conflicts.{CountsRise, StandsIn}
use Rattle.machine_bound.specs.Ends.{end_of}
use Rattle.msi_state.specs.Events.{instr_of}
use Rattle.msi_state.specs.Runs.{accesses, event_at, run}
use Rattle.msi_state.specs.States.{core_at}

-- how many instructions a core has retired within the first t choices
abbrev pub retired_count : Contents → Params → (choices : ℕ → ℕ) → (t core : ℕ) → ℕ
retired_count image params choices t core = (core_at (run image params choices t).cores core).count

-- the choice numbered t retires the instruction
abbrev pub RetiresAt : Contents → Params → (choices : ℕ → ℕ) → (t : ℕ) → Instr → Type 0
RetiresAt image params choices t at = instr_of (event_at image params choices t) ≡ Some at

-- whenever y retires in the run, x has retired
abbrev pub RetiresBefore : Contents → Params → (choices : ℕ → ℕ) → Instr → Instr → Type 0
RetiresBefore image params choices x y =
    (t : ℕ) → t < end_of image params choices → RetiresAt image params choices t y
    → x.count ≤ retired_count image params choices t x.core

-- What retires is its core's next instruction,
abbrev pub NextRetiresLaw : Type 0
NextRetiresLaw =
    (image : Contents) (params : Params) (choices : ℕ → ℕ) (t : ℕ) (at : Instr) → Fits params
    → RetiresAt image params choices t at
    → (at.core < params.cores) × (at.count ≡ retired_count image params choices t at.core + 1)

-- has retired from then on,
abbrev pub StaysRetiredLaw : Type 0
StaysRetiredLaw =
    (image : Contents) (params : Params) (choices : ℕ → ℕ) (t u : ℕ) (at : Instr) → Fits params → t < u
    → RetiresAt image params choices t at → at.count ≤ retired_count image params choices u at.core

-- and retires once.
abbrev pub RetiresOnceLaw : Type 0
RetiresOnceLaw =
    (image : Contents) (params : Params) (choices : ℕ → ℕ) (t u : ℕ) (at : Instr) → Fits params
    → RetiresAt image params choices t at → RetiresAt image params choices u at → t ≡ u

-- What an earlier choice retired has retired whenever the later instruction retires.
abbrev pub EarlierLaw : Type 0
EarlierLaw =
    (image : Contents) (params : Params) (choices : ℕ → ℕ) (t u : ℕ) (x y : Instr) → Fits params → t < u
    → RetiresAt image params choices t x → RetiresAt image params choices u y → RetiresBefore image params choices x y

-- the accesses have rising counts for each core, are of so many cores and words, and have retired by these counts
pub record AccessesHold (cores words : ℕ) (retired : ℕ → ℕ) (list : List Access) : Type 0 where
  pub rise : CountsRise list
  pub cores_are : (a : Access) → StandsIn list a → a.at.core < cores
  pub words_are : All (λ a. a.word < words) list
  pub retired_are : (a : Access) → StandsIn list a → a.at.count ≤ retired a.at.core

abbrev pub AccessesLaw : Type 0
AccessesLaw =
    (image : Contents) (params : Params) (choices : ℕ → ℕ) (t : ℕ) → Fits params
    → AccessesHold params.cores image.words (retired_count image params choices t) (accesses image params choices t)
