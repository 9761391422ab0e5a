-- The mover's oldest request: room is made for it, and what is noted fits still; or it is looked at, and then all moves
-- that can be made are marked.
use Rattle.std.proofs.Common.{◌≡◌, ◌∙◌, ap, sym, subst, ℕ, Bool, List, length}
use Rattle.access_times.specs.Riding.{Riding, Carrying}
use Rattle.rtr_types.specs.CoreSets.{has}
use Rattle.msi_memory.specs.Memories.{Memory}
use Rattle.move_marks.specs.declared.marks.MoveKind.TheVariants.{Own}
use Rattle.move_marks.specs.declared.marks.MoveMarks.{MoveMarks}
use Rattle.move_marks.specs.Kinds.{set_of}
use Rattle.move_marks.specs.Ports.{PortsMarked, PortsNoted}
use Rattle.tso_invariant.specs.Holds.{TsoHolds}
use Rattle.tso_state.specs.declared.moves.Move.TheVariants.{Core as CoreMove, Order as OrderMove}
use Rattle.tso_state.specs.States.{State}
use Rattle.tso_state.specs.Steps.{enabled}
use Rattle.tso_core.specs.declared.marks.Marks.{Marks}
use Rattle.tso_core.specs.declared.standing.Standing.{Standing}
use Rattle.tso_core.specs.Machineries.{Machinery}
use Rattle.tso_core.specs.Marks.{AllMarked}
use Rattle.tso_core.specs.Standings.{NotesFit, StandingsFit}

pub room_made : {R K : Type 0} (riding : Riding R) (carrying : Carrying K) {seen old : Machinery R K}
    {standings : List Standing} {before : Marks} {mover : ℕ} → seen ≡ old →
    NotesFit riding carrying old standings before mover → {n : Memory R K} {rooms : List Bool} {after : MoveMarks}
    {late : ℕ} → PortsNoted riding carrying n rooms before.cores after late → n ≡ seen.state.memory →
    ((c : ℕ) → has (set_of Own after) c ≡ has (set_of Own before.moves) c) →
    NotesFit riding carrying (record { state = record seen.state { memory = n }; rooms = rooms }) standings
    (record before { moves = after }) late
room_made {R} {K} riding carrying {seen} {old} {standings} view fit {n} ports is own =
    record {
      holds = subst (λ (s : State R K). TsoHolds riding carrying s) (sym same) fit.holds;
      stands = subst (λ (s : State R K). StandingsFit s standings) (sym same) fit.stands;
      cores = record {
        cores = fit.cores.cores ∙ ap (λ (s : State R K). length s.cores) (sym same);
        own = λ c. own c ∙ fit.cores.own c ∙ ap (λ (s : State R K). enabled riding carrying s (CoreMove c)) (sym same);
        orders = λ c. fit.cores.orders c ∙ ap (λ (s : State R K). enabled riding carrying s (OrderMove c)) (sym same);
      };
      ports = ports;
    }
  where
    same : record seen.state { memory = n } ≡ old.state
    same = (λ i. record seen.state { memory = is i }) ∙ ap (λ (m : Machinery R K). m.state) view

pub all_looked_at : {R K : Type 0} (riding : Riding R) (carrying : Carrying K) {seen old now : Machinery R K} →
    seen ≡ old → {standings : List Standing} {before : Marks} {mover : ℕ} →
    NotesFit riding carrying old standings before mover → {after : MoveMarks} →
    ((c : ℕ) → has (set_of Own after) c ≡ has (set_of Own before.moves) c) →
    PortsMarked riding carrying seen.state.memory after → old ≡ now →
    AllMarked riding carrying now.state (record before { moves = after })
all_looked_at {R} {K} riding carrying {seen} {old} {now} view {standings} {before} fit {after} own ports shown =
    subst (λ (m : Machinery R K). AllMarked riding carrying m.state (record before { moves = after })) shown
    (record {
      cores = record {
        cores = fit.cores.cores;
        own = λ c. own c ∙ fit.cores.own c;
        orders = fit.cores.orders;
      };
      ports = subst (λ (m : Machinery R K). PortsMarked riding carrying m.state.memory after) view ports;
    })
