-- A clerk that accepts each instruction accepts whatever a step tells.
use Rattle.std.proofs.Common.{ℕ, List, [], ◌∷◌}
use Rattle.access_times.specs.Riding.{Carrying}
use Rattle.rtr_types.specs.declared.access.Access.{Access}
use Rattle.rtr_types.specs.declared.instr.Instr.{Instr}
use Rattle.tso_clerk.specs.Telling.{AcceptsAll, AcceptsOne}
use Rattle.tso_state.specs.Events.{Told, Alone, Ordered, Logged, instr_told}

module _ {R K C : Type 0} (accepts alone : C → Instr → Type 0) (local : C → Instr → K → C → Type 0)
    (touch : C → R → Access → K → C → R → Type 0) (logged : C → Instr → ℕ → ℕ → K → C → Type 0)
    (each : (c : C) (at : Instr) → accepts c at) (each_alone : (c : C) (at : Instr) → alone c at) where
  one_accepted : (e : Told) (c : C) → AcceptsOne accepts alone e c
  one_accepted (Alone at) c = each_alone c at
  one_accepted (Ordered a) c = each c a.at
  one_accepted (Logged at word value) c = each c at

  pub all_accepted : (carrying : Carrying K) (list : List Told) (carry : K) (c : C) (found : R) →
      AcceptsAll accepts alone local touch logged carrying list carry c found
  all_accepted carrying [] carry c found = tt
  all_accepted carrying (e ∷ later) carry c found = (
    one_accepted e c,
    λ after left told. all_accepted carrying later (carrying.retired carry (instr_told e)) after
        found,
  )
