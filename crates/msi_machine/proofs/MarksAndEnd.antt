-- Where a move is marked some core isn't done: what is marked can be made, and at the end nothing can.
use Rattle.std.proofs.Common.{◌≡◌, ◌∙◌, refl, sym, subst, ap, ℕ, zero, suc, ◌<◌, ◌≤◌, Bool, true}
use Rattle.std.proofs.Common.{false, List, length, nat_lt, arith, ◌==◌}
use Rattle.std.specs.Prelude.{IsTrue, not}
use Rattle.std.proofs.lemmas.Bool.{not-true}
use Rattle.access_times.specs.Riding.{Riding, Carrying}
use Rattle.rtr_types.specs.declared.TheConstants.{CORES_MAX}
use Rattle.rtr_types.proofs.Truths.{true_is}
use Rattle.rv_core.specs.Steps.{need, is_done}
use Rattle.msi_cache.specs.Lines.{waits}
use Rattle.msi_memory.specs.Acts.{TakeRequest}
use Rattle.msi_memory.specs.Memories.{port_at}
use Rattle.msi_laws.proofs.TakenMessages.{none_taken}
use Rattle.msi_laws.proofs.Spaces.{no_requests}
use Rattle.msi_state.specs.declared.moves.Move.{Move}
use Rattle.msi_state.specs.declared.moves.Move.TheVariants.{Core as CoreMove, Request as RequestMove}
use Rattle.msi_state.specs.States.{Machinery, State, all_done, core_at}
use Rattle.msi_state.specs.Steps.{enabled, step}
use Rattle.machine_invariant.specs.Holds.{MachineHolds}
use Rattle.machine_invariant.proofs.DoneCores.{links_left}
use Rattle.machine_invariant.proofs.StepFrame.{step_ports}
use Rattle.machine_invariant.proofs.DoneMachine.{moves_left}
use Rattle.msi_machine.specs.declared.marks.Marks.{Marks}
use Rattle.msi_machine.specs.declared.standing.Standing.{Standing}
use Rattle.msi_machine.specs.Marks.{AllMarked, marked}
use Rattle.msi_machine.specs.Standings.{NotesFit}
use Rattle.rtr_types.specs.CoreSets.{has}
use Rattle.move_marks.specs.declared.marks.MoveKind.TheVariants.{Request}
use Rattle.move_marks.specs.Kinds.{set_of}
use Rattle.move_marks.proofs.Acts.{can_past, requests_within}
use Rattle.move_marks.proofs.AnswerMarks.{false_true, right_of}
use Rattle.move_marks.proofs.Lateness.{late_marked}
use Rattle.move_marks.proofs.NextMoves.{none_left}
use Rattle.msi_machine.proofs.MarksAfterMoves.{all_moves}

pub some_there : (n : ℕ) → (n == 0) ≡ false → 0 < n
some_there zero none = false_true (sym none)
some_there (suc n) none = omega arith

module _ {R K : Type 0} where
  -- the port of a core that may move by itself doesn't wait, so there is no request that the home could take
  pub core_still : (riding : Riding R) (carrying : Carrying K) (s : State R K) (c : ℕ) →
      enabled riding carrying s (CoreMove c) ≡ true → waits (port_at carrying s.memory.ports c).cache ≡ false
  core_still riding carrying s c can_be =
      let waiting : Bool = waits (port_at carrying s.memory.ports c).cache in
      not-true waiting (right_of (not (is_done (need s.image (core_at s.cores c)))) (not waiting)
      (right_of (nat_lt c (length s.cores)) _ can_be))

  pub asks_first : (riding : Riding R) (carrying : Carrying K) (s : State R K) (c : ℕ) →
      MachineHolds riding carrying s → c < length s.memory.ports →
      enabled riding carrying s (CoreMove c) ≡ true → enabled riding carrying s (RequestMove c) ≡ false
  asks_first riding carrying s c holds within can_be =
      none_left riding carrying s.memory c
      (requests_within carrying s.memory.ports c within
      ∙ no_requests riding carrying s.memory c holds.memory within (core_still riding carrying s c can_be))

  -- a machine whose state is seen to be done is done inside
  pub ended : (inside seen : Machinery R K) (done : Bool) → inside ≡ seen → done ≡ all_done seen.state → IsTrue done →
      all_done inside.state ≡ true
  ended inside seen done view is told =
      ap (λ (m : Machinery R K). all_done m.state) view ∙ sym is ∙ true_is done told

  -- no request of a core is left open where no core asked
  pub no_asker : (riding : Riding R) (carrying : Carrying K) (rider : R) (s t : State R K) (m : Move) (marks : Marks) →
      MachineHolds riding carrying s → t ≡ step riding carrying rider s m → AllMarked riding carrying t marks →
      has (set_of Request marks.moves) CORES_MAX ≡ false
  no_asker riding carrying rider s t m marks holds is all =
      all.ports.requests CORES_MAX
      ∙ can_past riding carrying t.memory (TakeRequest CORES_MAX)
      (subst (λ (n : ℕ). n ≤ CORES_MAX)
      (sym (ap (λ (x : State R K). length x.memory.ports) is ∙ step_ports riding carrying rider s m))
      holds.memory.cores)

  -- at the end no request is open, so what is marked is what can be made, which is nothing
  pub marked_goes_on : (riding : Riding R) (carrying : Carrying K) (m : Machinery R K) (standings : List Standing)
      (marks : Marks) (asker : ℕ) → NotesFit riding carrying m standings marks asker → 0 < length (marked marks) →
      all_done m.state ≡ false
  marked_goes_on riding carrying m standings marks asker fit some = by (all_done m.state) refl
    where
      by : (done : Bool) → all_done m.state ≡ done → done ≡ false
      by false is = refl
      by true is =
          let all : AllMarked riding carrying m.state marks = record {
            cores = fit.ports.long ∙ fit.holds.ports_there;
            own = fit.own;
            ports = late_marked riding carrying m.state.memory marks.moves asker fit.ports.marked (fit.unmarked
                ∙ sym (none_taken riding carrying m.state.memory (TakeRequest asker) refl
                (links_left riding carrying m.state fit.holds is)));
          } in
          let long : length (marked marks) ≡ 0 =
          ap length (all_moves riding carrying m.state marks fit.holds all
          ∙ moves_left riding carrying m.state fit.holds is) in
          absurd (omega arith)
