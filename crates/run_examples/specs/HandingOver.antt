-- The run in which a word is handed over, and the play of its order of retirement.
use Rattle.std.specs.Prelude.{◌≡◌, ℕ, List, [], ◌∷◌}
use Rattle.image_mem.specs.Contents.{opening_words}
use Rattle.rtr_types.specs.declared.access.Access.{Access}
use Rattle.rtr_types.specs.declared.access.Kind.TheVariants.{Load, Store}
use Rattle.rtr_types.specs.declared.params.Params.{Params}
use Rattle.schedule_pick.specs.Choices.{Choices, choices_of}
use Rattle.run_outcome.specs.Outcomes.{outcome_of}
use Rattle.msi_examples.specs.Examples.{instr, load, two_cores}
use Rattle.msi_examples.specs.Followed.{changed}
use Rattle.msi_examples.specs.Images.{handed_over}
use Rattle.replay_core.specs.Plans.{Plan}
use Rattle.replay_core.specs.Play.{accesses_of, played}
use Rattle.run_replays.specs.Orders.{order_of}

abbrev pub handing_params : Params
handing_params = two_cores 10000 handed_over

-- sixteen choices that were worked out by hand, and zeros to the run's end
abbrev pub handing_choices : List ℕ
handing_choices =
    0 ∷ 0 ∷ 0 ∷ 1 ∷ 1 ∷ 1 ∷ 1 ∷ 1 ∷ 1 ∷ 1 ∷ 1 ∷ 1 ∷ 1 ∷ 1 ∷ 1 ∷ 1 ∷ 0 ∷ 0 ∷ 0 ∷ 0 ∷ 0 ∷ 0 ∷ 0 ∷ []

abbrev pub handing_schedule : Choices
handing_schedule = choices_of handing_choices 0

-- core 0 stores; core 1 loads, stores and ends; core 0 loads what core 1 stored, and ends
abbrev pub handing_order : List ℕ
handing_order = 0 ∷ 0 ∷ 0 ∷ 1 ∷ 1 ∷ 1 ∷ 1 ∷ 0 ∷ 0 ∷ []

abbrev pub HandedOverInOrder : Type 0
HandedOverInOrder = order_of handed_over handing_params handing_schedule ≡ handing_order

-- the image with the run's totals; a play goes by no log
abbrev pub handing_plan : Plan
handing_plan = record { image = handed_over; limit = 10000; totals = 5 ∷ 4 ∷ []; edges = [] }

abbrev pub stores : (c count word before after : ℕ) → Access
stores c count word before after =
    record { at = instr c count; word = word; kind = Store; before = before; after = after }

abbrev pub loads : (c count word value : ℕ) → Access
loads c count word value = record { at = instr c count; word = word; kind = Load; before = value; after = value }

-- the play of the order, and what the run came to
pub record HandedOverByPlay : Type 0 where
  pub outcome : played handing_plan handing_order ≡ outcome_of handed_over handing_params handing_schedule
  pub accesses : accesses_of handing_plan handing_order
      ≡ stores 0 3 16 0 7 ∷ loads 1 2 16 7 ∷ stores 1 3 16 7 1 ∷ loads 0 4 16 1 ∷ []
  pub found : (played handing_plan handing_order).loads ≡ (load 4 16 1 ∷ []) ∷ (load 2 16 7 ∷ []) ∷ []
  pub memory : changed 0 (played handing_plan handing_order).words (opening_words handed_over) ≡ (16, 1) ∷ []
