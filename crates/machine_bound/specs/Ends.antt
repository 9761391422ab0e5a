-- Rule: where a run ends: end_of
-- The moment at which a run ends, and what is promised of it.
use Rattle.std.specs.Prelude.{◌≡◌, ◌<◌, ◌≤◌, ◌^◌, ℕ, ◌+◌, ◌*◌, Bool, zero, suc, if◌then◌else◌}
use Rattle.image_mem.specs.Contents.{Contents}
use Rattle.rtr_types.specs.Parameters.{Fits}
use Rattle.rtr_types.specs.declared.TheConstants.{CORES_MAX}
use Rattle.rtr_types.specs.declared.params.Params.{Params}
use Rattle.msi_state.specs.States.{all_done}
use Rattle.msi_state.specs.Runs.{run}

-- no run takes more steps: each core has at most `limit` instructions, and each pays for 2 P + 4 steps
abbrev pub most_steps : Params → ℕ
most_steps params = (2 * params.cores + 4) * (params.cores * params.limit)

-- the first of n numbers from t on that pass the test; where none does, the number after them
abbrev pub first_among : (n : ℕ) → (test : ℕ → Bool) → (t : ℕ) → ℕ
first_among zero test t = t
first_among (suc n) test t = if test t then t else first_among n test (t + 1)

-- the first moment at which a machine's run has ended, of those that it can have before most_steps
unfoldable pub first_end : {S : Type 0} → (run : Contents → Params → (choices : ℕ → ℕ) → (t : ℕ) → S)
    → (all_done : S → Bool) → (most_steps : Params → ℕ) → Contents → Params → (choices : ℕ → ℕ) → ℕ
first_end run all_done most_steps image params choices =
    first_among (most_steps params) (λ t. all_done (run image params choices t)) 0

-- the first moment at which each core's program is done
abbrev pub end_of : Contents → Params → (choices : ℕ → ℕ) → ℕ
end_of image params choices = first_end run all_done most_steps image params choices

-- What is promised of the ends of a machine's runs: by its state after so many choices, by when a run ends, and by how
-- many instructions a state has had, each of which pays for 2 P + `more` steps, P the number of cores.
pub record EndsInTime {S : Type 0} (run : Contents → Params → (choices : ℕ → ℕ) → (t : ℕ) → S)
    (IsEnd : Contents → Params → (choices : ℕ → ℕ) → (t : ℕ) → Type 0)
    (end_of : Contents → Params → (choices : ℕ → ℕ) → ℕ) (most_steps : Params → ℕ) (more : ℕ)
    (instructions left : S → ℕ) : Type 0 where
  -- each run ends, and has one end
  pub ends : (image : Contents) (params : Params) (choices : ℕ → ℕ)
      → params.cores ≤ CORES_MAX → params.limit < 2 ^ 32
      → IsEnd image params choices (end_of image params choices)
  pub alone : (image : Contents) (params : Params) (choices : ℕ → ℕ) (t : ℕ)
      → params.cores ≤ CORES_MAX → params.limit < 2 ^ 32
      → IsEnd image params choices t → t ≡ end_of image params choices
  -- its instructions pay for its steps, of which there are no more than all instructions can pay for
  pub in_time : (image : Contents) (params : Params) (choices : ℕ → ℕ)
      → params.cores ≤ CORES_MAX → params.limit < 2 ^ 32
      → end_of image params choices
      ≤ (2 * params.cores + more) * instructions (run image params choices (end_of image params choices))
  pub within : (image : Contents) (params : Params) (choices : ℕ → ℕ) → end_of image params choices ≤ most_steps params
  -- up to its end so many are still to come at most
  pub remaining : (image : Contents) (params : Params) (choices : ℕ → ℕ) (t : ℕ)
      → params.cores ≤ CORES_MAX → params.limit < 2 ^ 32
      → t ≤ end_of image params choices → t + left (run image params choices t) ≤ most_steps params
  -- and their number fits a word
  pub few : (params : Params) → Fits params → most_steps params < 2 ^ 32
