-- What a clerk comes to that is told of a list of instructions of one core. Each is told with the core's carry once
-- that instruction was told. At most one of them is an access: the riders before and after are those of its copy.
use Rattle.std.specs.Prelude.{◌≡◌, ℕ, List, [], ◌∷◌}
use Rattle.access_times.specs.Riding.{Carrying}
use Rattle.rtr_types.specs.declared.access.Access.{Access}
use Rattle.rtr_types.specs.declared.instr.Instr.{Instr}
use Rattle.tso_state.specs.Events.{Told, Alone, Ordered, Logged, instr_told}

-- what the clerk's calls do to it
module _ {R K C : Type 0} (local : C → Instr → K → C → Type 0) (touch : C → R → Access → K → C → R → Type 0)
    (logged : C → Instr → ℕ → ℕ → K → C → Type 0) where
  -- once one instruction was told
  abbrev pub TellsOne : Told → K → C → R → C → R → Type 0
  TellsOne (Alone at) carry before found after left = local before at carry after
  TellsOne (Ordered a) carry before found after left = touch before found a carry after left
  TellsOne (Logged at word value) carry before found after left = logged before at word value carry after

  -- and once all of a list were, from this carry on
  abbrev pub TellsAll : Carrying K → List Told → K → C → R → C → R → Type 0
  TellsAll carrying [] carry before found after left = after ≡ before
  TellsAll carrying (e ∷ later) carry before found after left =
      let next = carrying.retired carry (instr_told e) in
      (between : C) × TellsOne e next before found between left × TellsAll carrying later next between found after left

-- what the clerk accepts to be told: an access or a logged load where it accepts the instruction, and an instruction
-- that touches no data where it accepts that one alone
abbrev pub AcceptsOne : {C : Type 0} → (C → Instr → Type 0) → (C → Instr → Type 0) → Told → C → Type 0
AcceptsOne accepts accepts_alone (Alone at) clerk = accepts_alone clerk at
AcceptsOne accepts accepts_alone (Ordered a) clerk = accepts clerk a.at
AcceptsOne accepts accepts_alone (Logged at word value) clerk = accepts clerk at

module _ {R K C : Type 0} (accepts : C → Instr → Type 0) (accepts_alone : C → Instr → Type 0)
    (local : C → Instr → K → C → Type 0) (touch : C → R → Access → K → C → R → Type 0)
    (logged : C → Instr → ℕ → ℕ → K → C → Type 0) where
  -- the clerk accepts the first of a list, and each of the others once those before were told
  abbrev pub AcceptsAll : Carrying K → List Told → K → C → R → Type 0
  AcceptsAll carrying [] carry clerk found = Unit {0}
  AcceptsAll carrying (e ∷ later) carry clerk found =
      let next = carrying.retired carry (instr_told e) in
      AcceptsOne accepts accepts_alone e clerk
      × ((after : C) (left : R) → TellsOne local touch logged e next clerk found after left
      → AcceptsAll carrying later next after found)
