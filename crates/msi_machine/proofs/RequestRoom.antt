-- The request of the core that asked: room is made for it, and what is noted fits still; or it is looked at, and then
-- all moves that can be made are marked.
use Rattle.std.proofs.Common.{◌≡◌, ◌∙◌, ap, sym, subst, ℕ, false}
use Rattle.std.proofs.Common.{Bool, List}
use Rattle.access_times.specs.Riding.{Riding, Carrying}
use Rattle.rtr_types.specs.CoreSets.{has}
use Rattle.msi_memory.specs.Memories.{Memory}
use Rattle.move_marks.specs.declared.marks.MoveKind.TheVariants.{Own, Request}
use Rattle.move_marks.specs.declared.marks.MoveMarks.{MoveMarks}
use Rattle.move_marks.specs.Kinds.{set_of}
use Rattle.move_marks.specs.Ports.{PortsMarked, PortsNoted}
use Rattle.machine_invariant.specs.Holds.{MachineHolds}
use Rattle.msi_state.specs.declared.moves.Move.TheVariants.{Core as CoreMove}
use Rattle.msi_state.specs.States.{Machinery, State}
use Rattle.msi_state.specs.Steps.{enabled}
use Rattle.msi_machine.specs.declared.marks.Marks.{Marks}
use Rattle.msi_machine.specs.declared.standing.Standing.{Standing}
use Rattle.msi_machine.specs.Marks.{AllMarked}
use Rattle.msi_machine.specs.Standings.{NotesFit, StandingsFit}

pub room_made : {R K : Type 0} (riding : Riding R) (carrying : Carrying K) {seen old : Machinery R K}
    {standings : List Standing} {before : Marks} {asker : ℕ} →
    NotesFit riding carrying old standings before asker → seen ≡ old → {n : Memory R K} → n ≡ seen.state.memory →
    {rooms : List Bool} {after : MoveMarks} {late : ℕ} → PortsNoted riding carrying n rooms before.cores after late →
    ((c : ℕ) → has (set_of Own after) c ≡ has (set_of Own before.moves) c) →
    (has (set_of Request before.moves) asker ≡ false → has (set_of Request after) late ≡ false) →
    NotesFit riding carrying (record { state = record seen.state { memory = n }; rooms = rooms }) standings
    (record before { moves = after }) late
room_made {R} {K} riding carrying {seen} {old} {standings} fit view {n} is ports own unmarked =
    let same : record seen.state { memory = n } ≡ old.state =
    (λ i. record seen.state { memory = is i }) ∙ ap (λ (m : Machinery R K). m.state) view in
    record {
      holds = subst (λ (s : State R K). MachineHolds riding carrying s) (sym same) fit.holds;
      stands = subst (λ (s : State R K). StandingsFit s standings) (sym same) fit.stands;
      own = λ c. own c ∙ fit.own c ∙ ap (λ (s : State R K). enabled riding carrying s (CoreMove c)) (sym same);
      ports = ports;
      unmarked = unmarked fit.unmarked;
    }

pub all_looked_at : {R K : Type 0} (riding : Riding R) (carrying : Carrying K) {seen old now : Machinery R K}
    {standings : List Standing} {before : Marks} {asker : ℕ} →
    NotesFit riding carrying old standings before asker → seen ≡ old → old ≡ now →
    {after : MoveMarks} → PortsMarked riding carrying seen.state.memory after →
    ((c : ℕ) → has (set_of Own after) c ≡ has (set_of Own before.moves) c) →
    AllMarked riding carrying now.state (record before { moves = after })
all_looked_at {R} {K} riding carrying {seen} {old} {now} {standings} {before} fit view shown {after} ports own =
    subst (λ (m : Machinery R K). AllMarked riding carrying m.state (record before { moves = after })) shown
    (record {
      cores = fit.ports.long ∙ fit.holds.ports_there;
      own = λ c. own c ∙ fit.own c;
      ports = subst (λ (m : Machinery R K). PortsMarked riding carrying m.state.memory after) view ports;
    })
