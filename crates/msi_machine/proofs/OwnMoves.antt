-- What is marked once a core moved by itself, where its own mark was set anew and no other was: every move that can be
-- made then, but for its request where it asked.
use Rattle.std.proofs.Common.{◌≡◌, ◌≢◌, ◌∙◌, ℕ, ◌<◌, length, true, Option}
use Rattle.std.specs.Prelude.{is_some}
use Rattle.access_times.specs.Riding.{Riding, Carrying}
use Rattle.rtr_types.specs.CoreSets.{has}
use Rattle.rtr_types.specs.declared.TheConstants.{CORES_MAX}
use Rattle.rtr_types.specs.declared.instr.Instr.{Instr}
use Rattle.move_marks.specs.declared.marks.MoveKind.{MoveKind}
use Rattle.move_marks.specs.declared.marks.MoveKind.TheVariants.{Own, Request}
use Rattle.move_marks.specs.declared.marks.MoveMarks.{MoveMarks}
use Rattle.move_marks.specs.Kinds.{set_of}
use Rattle.msi_state.specs.declared.moves.Move.TheVariants.{Core}
use Rattle.msi_state.specs.Events.{instr_of}
use Rattle.msi_state.specs.States.{State}
use Rattle.msi_state.specs.Steps.{StepsTo, enabled, event, rider_left}
use Rattle.machine_invariant.specs.Holds.{MachineHolds}
use Rattle.machine_invariant.proofs.Awaits.{core_port, enabled_core}
use Rattle.msi_machine.specs.declared.marks.Marks.{Marks}
use Rattle.msi_machine.specs.declared.standing.Standing.{Standing}
use Rattle.msi_machine.specs.Marks.{AllMarked}
use Rattle.msi_machine.specs.Standings.{AskerOpen, may_work, standing_at}
use Rattle.msi_machine.proofs.MarksAndEnd.{asks_first, no_asker}
use Rattle.msi_machine.proofs.MoveFrames.{core_marks, core_retired_marks}
use Rattle.msi_machine.proofs.MarksAfterMoves.{all_others}

module _ {R K : Type 0} (riding : Riding R) (carrying : Carrying K) (s t : State R K) (old : Marks) (new : MoveMarks)
    (c : ℕ) (kept : Standing) (holds : MachineHolds riding carrying s)
    (can_be : enabled riding carrying s (Core c) ≡ true) (all : AllMarked riding carrying s old)
    (is : StepsTo riding carrying s t (Core c)) (stands : kept ≡ standing_at carrying t c)
    (this : has (set_of Own new) c ≡ may_work kept)
    (others : (k : MoveKind) (d : ℕ) → (k ≡ Own → d ≢ c) → has (set_of k new) d ≡ has (set_of k old.moves) d) where
  here : c < length s.cores
  here = enabled_core riding carrying s (Core c) can_be holds

  port : c < length s.memory.ports
  port = core_port riding carrying s c holds here

  -- all but its request, which isn't marked: it had none before
  pub asked_open : AskerOpen riding carrying t (record old { moves = new }) c
  asked_open =
      record {
        others = core_marks riding carrying (rider_left riding carrying s t (Core c)) s t old new c kept all is here
            port stands this others;
        unmarked = others Request c (λ (e : Request ≡ Own). cc) ∙ all.ports.requests c
            ∙ asks_first riding carrying s c holds port can_be;
      }

  -- all, where an instruction retired
  pub retired_open : (retired : Option Instr) → retired ≡ instr_of (event riding carrying s (Core c)) →
      is_some retired ≡ true → AskerOpen riding carrying t (record old { moves = new }) CORES_MAX
  retired_open retired told some =
      let marks : Marks = record old { moves = new } in
      let rider : R = rider_left riding carrying s t (Core c) in
      let marked : AllMarked riding carrying t marks =
      core_retired_marks riding carrying rider s t old new c kept retired told some all is here port stands this others
      in
      record {
        others = all_others riding carrying t marks marked CORES_MAX;
        unmarked = no_asker riding carrying rider s t (Core c) marks holds is marked;
      }
