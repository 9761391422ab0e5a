-- The move that a choice numbers can be made.
use Rattle.std.proofs.Common.{◌≡◌, sym, subst, ℕ, ◌*◌, true, false, List, length}
use Rattle.std.specs.Prelude.{◌%◌, slice_index_or}
use Rattle.access_times.specs.Riding.{Riding, Carrying}
use Rattle.msi_state.specs.declared.moves.Move.{Move}
use Rattle.msi_state.specs.Moves.{candidates}
use Rattle.msi_state.specs.States.{Machinery, State, all_done}
use Rattle.msi_state.specs.Steps.{enabled, moves}
use Rattle.machine_invariant.specs.Holds.{MachineHolds}
use Rattle.machine_invariant.proofs.Stuck.{some_move}
use Rattle.move_marks.proofs.NumberedMoves.{numbered, numbered_passes}
use Rattle.msi_machine.specs.Steppings.{IsTaken}

module _ {R K : Type 0} where
  -- what a step takes can be made
  pub taken_enabled : (riding : Riding R) (carrying : Carrying K) (s : State R K) (choice : ℕ) (m : Move) →
      IsTaken riding carrying s choice m → enabled riding carrying s m ≡ true
  taken_enabled riding carrying s choice m t =
      numbered_passes (enabled riding carrying s) (candidates (length s.cores) (4 * length s.cores)) choice m t.some
      t.numbered

  -- what is seen of a machine's parts has the invariant that they have
  pub seen_holds : (riding : Riding R) (carrying : Carrying K) {m seen : Machinery R K} → m ≡ seen →
      MachineHolds riding carrying m.state → MachineHolds riding carrying seen.state
  seen_holds riding carrying view holds =
      subst (λ (x : Machinery R K). MachineHolds riding carrying x.state) view holds

  -- what is found so in a machine that isn't done can be made
  pub found_enabled : (riding : Riding R) (carrying : Carrying K) (m seen : Machinery R K) (choice count : ℕ)
      (taken : Move) {found : List Move} →
      m ≡ seen → MachineHolds riding carrying m.state → all_done seen.state ≡ false →
      found ≡ moves riding carrying seen.state → count ≡ length found →
      ((d : Move) → taken ≡ slice_index_or found (choice % count) d) → enabled riding carrying m.state taken ≡ true
  found_enabled riding carrying m seen choice count taken view holds more all same is =
      subst (λ (x : Machinery R K). enabled riding carrying x.state taken ≡ true) (sym view)
      (numbered_passes (enabled riding carrying seen.state)
      (candidates (length seen.state.cores) (4 * length seen.state.cores)) choice taken
      (some_move riding carrying seen.state (seen_holds riding carrying view holds) more)
      (numbered choice count taken all same is))
