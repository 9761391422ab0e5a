-- The move that a choice numbers can be made, and is the one that it numbers where nothing rides.
use Rattle.std.proofs.Common.{◌≡◌, ◌∙◌, ap, refl, sym, subst, ℕ, ◌*◌, ◌<◌, true, false, List, length, Some}
use Rattle.std.specs.Prelude.{◌%◌, slice_index_or}
use Rattle.access_times.specs.Riding.{Riding, Carrying}
use Rattle.machine_ports.specs.Steppings.{IsNumbered}
use Rattle.move_marks.proofs.NumberedMoves.{numbered, numbered_chosen, numbered_passes}
use Rattle.tso_state.specs.declared.moves.Move.{Move}
use Rattle.tso_state.specs.Moves.{candidates}
use Rattle.tso_state.specs.Runs.{chosen, chosen_of}
use Rattle.tso_state.specs.States.{State, all_done}
use Rattle.tso_state.specs.Steps.{enabled, moves}
use Rattle.tso_invariant.proofs.MoveGrounds.{rooms_there, rows_there}
use Rattle.tso_invariant.proofs.Stuck.{some_move}
use Rattle.tso_invariant.specs.Holds.{TsoHolds}
use Rattle.tso_plain.proofs.Events.{plain_moves}
use Rattle.tso_plain.specs.Plain.{plain}
use Rattle.tso_core.specs.Machineries.{Machinery}
use Rattle.tso_core.specs.Numbers.{IsTaken}
use Rattle.tso_core.proofs.NoMoveAtEnd.{holds_seen}

module _ {R K : Type 0} where
  pub plainly_chosen : (riding : Riding R) (carrying : Carrying K) (s : State R K) (choice : ℕ) (m : Move) →
      0 < length (moves riding carrying s) →
      IsNumbered (moves riding carrying s) choice m → chosen (plain s) choice ≡ Some m
  plainly_chosen riding carrying s choice m some is =
      ap (λ (ms : List Move). chosen_of ms choice) (sym (plain_moves riding carrying s))
      ∙ numbered_chosen (λ (ms : List Move). chosen_of ms choice) (moves riding carrying s) choice m
      (λ first later. refl) some is

  -- a machine that hasn't ended has a move, so some are counted
  pub some_counted : (riding : Riding R) (carrying : Carrying K) {m seen : Machinery R K} → m ≡ seen →
      TsoHolds riding carrying m.state → all_done seen.state ≡ false →
      {found : List Move} → found ≡ moves riding carrying seen.state → {count : ℕ} → count ≡ length found → 0 < count
  some_counted riding carrying {m} {seen} view holds more all same =
      subst (λ (n : ℕ). 0 < n) (sym (same ∙ ap length all))
      (some_move riding carrying seen.state (holds_seen riding carrying view holds) more)

  -- what a step takes can be made
  pub taken_enabled : (riding : Riding R) (carrying : Carrying K) (s : State R K) (choice : ℕ) (m : Move) →
      IsTaken riding carrying s choice m → enabled riding carrying s m ≡ true
  taken_enabled riding carrying s choice m t =
      numbered_passes (enabled riding carrying s) (candidates (length s.cores) (5 * length s.cores)) choice m t.some
      t.numbered

  -- what is found so in a machine that isn't done can be made, and is what the choice takes where nothing rides
  module _ (riding : Riding R) (carrying : Carrying K) (m seen : Machinery R K) (choice count : ℕ) (taken : Move)
      {found : List Move} (view : m ≡ seen)
      (holds : TsoHolds riding carrying m.state) (more : all_done seen.state ≡ false)
      (all : found ≡ moves riding carrying seen.state)
      (same : count ≡ length found) (is : (d : Move) → taken ≡ slice_index_or found (choice % count) d) where
    seen_holds : TsoHolds riding carrying seen.state
    seen_holds = holds_seen riding carrying view holds

    some_there : 0 < length (moves riding carrying seen.state)
    some_there = some_move riding carrying seen.state seen_holds more

    here : IsNumbered (moves riding carrying seen.state) choice taken
    here = numbered choice count taken all same is

    seen_enabled : enabled riding carrying seen.state taken ≡ true
    seen_enabled =
        numbered_passes (enabled riding carrying seen.state)
        (candidates (length seen.state.cores) (5 * length seen.state.cores)) choice taken some_there here

    pub found_enabled : enabled riding carrying m.state taken ≡ true
    found_enabled = subst (λ (x : Machinery R K). enabled riding carrying x.state taken ≡ true) (sym view) seen_enabled

    pub found_chosen : chosen (plain seen.state) choice ≡ Some taken
    found_chosen = plainly_chosen riding carrying seen.state choice taken some_there here

    pub found_taken : IsTaken riding carrying seen.state choice taken
    found_taken =
        record {
          some = some_there;
          numbered = here;
          plainly = found_chosen;
          row = rows_there riding carrying seen.state taken seen_holds seen_enabled;
          room = rooms_there riding carrying seen.state taken seen_holds seen_enabled;
        }
