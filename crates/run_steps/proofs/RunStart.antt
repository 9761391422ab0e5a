-- What stands at the start of a run is on its way through it.
use Rattle.std.proofs.Common.{ℕ}
use Rattle.image_mem.specs.Contents.{Contents}
use Rattle.rtr_types.specs.Parameters.{Fits}
use Rattle.rtr_types.specs.declared.params.Params.{Params}
use Rattle.schedule_pick.specs.Choices.{Choices}
use Rattle.run_steps.specs.Ways.{IsUnderWay}

pub under_way : (stands : Contents → Params → Choices → ℕ → Type 0) (image : Contents) (params : Params)
    (schedule : Choices) → Fits params → stands image params schedule 0 → IsUnderWay stands
under_way stands image params schedule fits start =
    record { image = image; params = params; schedule = schedule; t = 0; fits = fits; stands_so = start }
