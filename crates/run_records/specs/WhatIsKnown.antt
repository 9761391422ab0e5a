-- Rule: what counts what is known: CountsKnown
-- What a count of what is known in a run counts.
use Rattle.std.specs.Prelude.{◌≤◌, ◌↔◌}
use Rattle.image_mem.specs.Contents.{Contents}
use Rattle.rtr_types.specs.Pairs.{IsPair}
use Rattle.rtr_types.specs.Parameters.{Fits}
use Rattle.rtr_types.specs.declared.instr.Instr.{Instr}
use Rattle.rtr_types.specs.declared.params.Params.{Params}
use Rattle.schedule_pick.specs.Choices.{Choices, choice_at}
use Rattle.know_history.specs.Happenings.{IsKnownAt}
use Rattle.know_history.specs.Knowing.{retired_in}
use Rattle.edge_regulate.specs.Regulated.{Knowledge}
use Rattle.machine_bound.specs.Ends.{end_of}
use Rattle.machine_known.specs.Events.{happening_at}
use Rattle.run_records.specs.Recordings.{run_knowledge}

-- the instruction retires in the run, or is before the first of its core
abbrev pub HasRetired : Contents → Params → Choices → Instr → Type 0
HasRetired image params schedule y =
    y.count ≤
    retired_in (happening_at image params (choice_at schedule)) (end_of image params (choice_at schedule)) y.core

-- at each instruction y of the run it counts the instructions x of each other core that are known there: those whose
-- retirement leads to y's, by the order of each actor's events and by the messages between actors
pub record CountsKnown (image : Contents) (params : Params) (schedule : Choices) (known : Knowledge) : Type 0 where
  pub each : (x y : Instr) → IsPair params.cores x.core y.core → 1 ≤ x.count → HasRetired image params schedule y
      → (x.count ≤ known y.core y.count x.core) ↔ IsKnownAt (happening_at image params (choice_at schedule)) x y

-- The notes of the run count what is known.
abbrev pub KnownCountedLaw : Type 0
KnownCountedLaw =
    (image : Contents) (params : Params) (schedule : Choices) → Fits params
    → CountsKnown image params schedule (run_knowledge image params schedule)
