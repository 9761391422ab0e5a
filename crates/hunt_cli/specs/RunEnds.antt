-- The end of a run that was made, and which run it is.
use Rattle.std.specs.Prelude.{◌≡◌, ℕ, List, length}
use Rattle.image_mem.specs.Contents.{Contents}
use Rattle.rv_core.specs.declared.outcome.Outcome.{Outcome}
use Rattle.schedule_pick.specs.Choices.{Choices, choices_of}
use Rattle.end_claims.specs.Ends.{End, end_of}
use Rattle.hunt_cli.specs.Kinds.{Setting, end_under}

-- what a run came to, under which choices it was made, and of which image
pub record RunEnd : Type 0 where
  pub choices : List ℕ
  pub seed : ℕ
  pub image : Contents
  pub outcome : Outcome

-- how it ended
abbrev pub end_in : RunEnd → End
end_in r = end_of r.image r.outcome

-- it is the run under these choices
pub record IsRunUnder (s : Setting) (choices : Choices) (r : RunEnd) : Type 0 where
  pub end_is : end_in r ≡ end_under s choices
  pub choices_are : choices_of r.choices r.seed ≡ choices
  pub image_is : r.image ≡ s.image
  pub many : length r.outcome.cores ≡ s.params.cores
