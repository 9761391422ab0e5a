-- What a move of one core leaves of the others.
use Rattle.std.proofs.Common.{◌≡◌, ◌≢◌, ℕ, nat_lt}
use Rattle.std.proofs.Common.{◌&&◌}
use Rattle.std.specs.Prelude.{not}
use Rattle.access_times.specs.Riding.{Riding, Carrying}
use Rattle.rv_core.specs.States.{starting}
use Rattle.rv_core.specs.Steps.{need, is_done}
use Rattle.msi_cache.specs.Lines.{waits}
use Rattle.move_marks.proofs.OnePort.{one_other, port_other, same_long}
use Rattle.machine_ports.proofs.Elsewhere.{MovedAt}
use Rattle.msi_state.specs.declared.moves.Move.TheVariants.{Core as CoreMove}
use Rattle.msi_state.specs.States.{State}
use Rattle.msi_state.specs.Steps.{enabled}

-- another core moves by itself exactly where it did
pub elsewhere : {R K : Type 0} (riding : Riding R) (carrying : Carrying K) (s t : State R K) (c : ℕ) → MovedAt s t c →
    (d : ℕ) → d ≢ c → enabled riding carrying t (CoreMove d) ≡ enabled riding carrying s (CoreMove d)
elsewhere riding carrying s t c moved d other = λ i.
    nat_lt d (same_long s.cores t.cores c moved.cores i)
    && (not (is_done (need (moved.image i) (one_other s.cores t.cores c moved.cores (starting 0 0) d other i)))
    && not (waits (port_other carrying s.memory t.memory c moved.memory d other i).cache))
