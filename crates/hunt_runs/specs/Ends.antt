-- How a machine ended, by what a run comes to.
use Rattle.std.specs.Prelude.{◌≡◌, ℕ, List, ◌++◌}
use Rattle.rv_core.specs.declared.core_state.Core.{Core}
use Rattle.rv_core.specs.declared.outcome.Outcome.{Outcome}
use Rattle.run_steps.specs.Ends.{words_in}
use Rattle.schedule_pick.specs.Choices.{Choices}

-- the cores and the so many words of a memory whose blocks are these are those that the run left
pub record EndsAs (cores : List Core) (blocks : ℕ → List ℕ) (words : ℕ) (outcome : Outcome) : Type 0 where
  pub cores_are : cores ≡ outcome.cores
  pub words_are : words_in blocks words ≡ outcome.words

-- these choices, and then those of a schedule
abbrev pub following : List ℕ → Choices → Choices
following choices rest = record { bytes = choices ++ rest.bytes; words = rest.words }
