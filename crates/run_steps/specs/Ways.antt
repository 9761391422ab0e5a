-- Rule: what a run rests on: IsSetUp
-- What a run rests on, and what is on its way through one.
use Rattle.std.specs.Prelude.{◌≡◌, ℕ}
use Rattle.image_mem.specs.Contents.{Contents}
use Rattle.rtr_types.specs.Parameters.{Fits}
use Rattle.rtr_types.specs.declared.params.Params.{Params}
use Rattle.schedule_pick.specs.Choices.{Choices}
use Rattle.run_steps.specs.declared.running.Running.{Running}

-- the parameters lie in their ranges, and the image is of a memory of as many words as they give
pub record IsSetUp (image : Contents) (params : Params) : Type 0 where
  pub fits : Fits params
  pub words : image.words ≡ params.words

-- it stands at some moment of the run of some image
pub record IsUnderWay (stands : Contents → Params → Choices → ℕ → Type 0) : Type 0 where
  pub image : Contents
  pub params : Params
  pub schedule : Choices
  pub t : ℕ
  pub fits : Fits params
  pub stands_so : stands image params schedule t

-- a machine, the clerk that is told of its steps, and the choices that are left
abbrev pub running_with : {M C : Type 0} → M → C → Choices → Running M C
running_with machine clerk choices = record { machine = machine; clerk = clerk; choices = choices }
