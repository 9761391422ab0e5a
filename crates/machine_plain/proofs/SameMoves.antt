-- Forgetting riders and carries leaves the moves that can be made as they are.
use Rattle.std.proofs.Common.{◌≡◌, ◌∙◌, ap, sym, ◌*◌, length, Bool, nat_lt}
use Rattle.std.specs.Prelude.{not, ◌&&◌}
use Rattle.access_times.specs.Riding.{Riding, Carrying, none_riding, none_carrying}
use Rattle.rv_core.specs.Steps.{need, is_done}
use Rattle.msi_cache.proofs.Forgets.{plain_waits}
use Rattle.msi_cache.specs.Lines.{waits}
use Rattle.msi_memory.specs.declared.port.Port.{Port}
use Rattle.msi_memory.specs.Acts.{TakeRequest, TakeResponse, TakeMessage}
use Rattle.msi_memory.specs.Memories.{port_at}
use Rattle.msi_state.specs.declared.moves.Move.{Move}
use Rattle.msi_state.specs.declared.moves.Move.TheVariants.{Core as CoreMove, Request as RequestMove}
use Rattle.msi_state.specs.declared.moves.Move.TheVariants.{Response as ResponseMove, FromHome as MessageMove}
use Rattle.msi_state.specs.Moves.{candidates}
use Rattle.msi_state.specs.States.{State, core_at}
use Rattle.msi_state.specs.Steps.{enabled, moves}
use Rattle.machine_plain.specs.Plain.{plain}
use Rattle.machine_plain.proofs.Plains.{plain_port_at}
use Rattle.machine_plain.proofs.PlainActs.{plain_can}
use Rattle.rtr_types.proofs.Lists.{filter_same}

module _ {R K : Type 0} where
  pub plain_enabled : (riding : Riding R) (carrying : Carrying K) (s : State R K) (m : Move) →
      enabled riding carrying s m
      ≡ enabled none_riding none_carrying (plain s) m
  plain_enabled riding carrying s (RequestMove c) = plain_can riding carrying s.memory (TakeRequest c)
  plain_enabled riding carrying s (ResponseMove c) = plain_can riding carrying s.memory (TakeResponse c)
  plain_enabled riding carrying s (MessageMove c) = plain_can riding carrying s.memory (TakeMessage c)
  plain_enabled riding carrying s (CoreMove c) =
      ap (λ (w : Bool). nat_lt c (length s.cores) && (not (is_done (need s.image (core_at s.cores c))) && not w))
      (plain_waits (port_at carrying s.memory.ports c).cache
      ∙ ap (λ (p : Port (Unit {0}) (Unit {0})). waits p.cache) (sym (plain_port_at carrying s.memory.ports c)))

  pub plain_moves : (riding : Riding R) (carrying : Carrying K) (s : State R K) →
      moves riding carrying s ≡ moves none_riding none_carrying (plain s)
  plain_moves riding carrying s =
      filter_same (enabled riding carrying s) (enabled none_riding none_carrying (plain s))
      (plain_enabled riding carrying s) (candidates (length s.cores) (4 * length s.cores))
