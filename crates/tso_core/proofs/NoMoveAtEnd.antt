-- A machine that holds has ended exactly where it has no move.
use Rattle.std.proofs.Common.{◌≡◌, ◌∙◌, refl, ap, subst, ℕ, ◌<◌, ◌==◌, Bool, true, false, List, length, arith}
use Rattle.std.proofs.lemmas.Bool.Decides.{nat_tests}
use Rattle.access_times.specs.Riding.{Riding, Carrying}
use Rattle.tso_state.specs.declared.moves.Move.{Move}
use Rattle.tso_state.specs.States.{State, all_done}
use Rattle.tso_state.specs.Steps.{moves}
use Rattle.tso_invariant.specs.Holds.{TsoHolds}
use Rattle.tso_invariant.proofs.DoneMachine.{moves_left}
use Rattle.tso_invariant.proofs.Stuck.{some_move}
use Rattle.tso_core.specs.Machineries.{Machinery}

some_not_zero : (n : ℕ) → 0 < n → (n == 0) ≡ false
some_not_zero n some = grind (arith, nat_tests)

module _ {R K : Type 0} where
  -- what holds of a machine's parts holds of the machine as contracts see it
  pub holds_seen : (riding : Riding R) (carrying : Carrying K) {parts seen : Machinery R K} → parts ≡ seen →
      TsoHolds riding carrying parts.state → TsoHolds riding carrying seen.state
  holds_seen riding carrying is holds = subst (λ (m : Machinery R K). TsoHolds riding carrying m.state) is holds

  pub ends_by : (riding : Riding R) (carrying : Carrying K) (s : State R K) (count : ℕ) → TsoHolds riding carrying s →
      count ≡ length (moves riding carrying s) → (count == 0) ≡ all_done s
  ends_by riding carrying s count holds is = ap (λ (n : ℕ). n == 0) is ∙ by (all_done s) refl
    where
      by : (b : Bool) → all_done s ≡ b → (length (moves riding carrying s) == 0) ≡ b
      by true done = ap (λ (ms : List Move). length ms == 0) (moves_left riding carrying s holds done)
      by false more = some_not_zero (length (moves riding carrying s)) (some_move riding carrying s holds more)
