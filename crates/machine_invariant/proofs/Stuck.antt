-- Until each core is done some move is enabled.
use Rattle.std.proofs.Common.{◌≡◌, refl, ℕ, ◌*◌, ◌<◌, Bool, true, false, length}
use Rattle.std.proofs.Common.{arith, IsTrue}
use Rattle.std.proofs.lemmas.Bool.Decides.{nat_tests}
use Rattle.access_times.specs.Riding.{Riding, Carrying}
use Rattle.rv_core.specs.declared.core_state.Core.{Core}
use Rattle.rv_core.specs.States.{starting}
use Rattle.rv_core.specs.Steps.{need, is_done}
use Rattle.msi_memory.specs.Acts.{waits}
use Rattle.msi_memory.specs.Acts.{Act, can}
use Rattle.msi_memory.specs.Memories.{port_at}
use Rattle.msi_laws.specs.Moving.{is_take}
use Rattle.msi_state.specs.declared.moves.Move.{Move}
use Rattle.msi_state.specs.declared.moves.Move.TheVariants.{Core as CoreMove, Request as RequestMove}
use Rattle.msi_state.specs.declared.moves.Move.TheVariants.{Response as ResponseMove, FromHome as MessageMove}
use Rattle.msi_state.specs.Moves.{candidate, core_of, number_of}
use Rattle.msi_state.specs.States.{State, core_at, all_done}
use Rattle.msi_state.specs.Steps.{enabled, moves}
use Rattle.machine_invariant.specs.Holds.{MachineHolds}
use Rattle.machine_invariant.proofs.Awaits.{enabled_core, core_port}
use Rattle.msi_laws.proofs.MoveNumbers.{among_some, not_all}
use Rattle.msi_laws.proofs.TakenMessages.{by_take, waiting_moves}

-- a move stands at its number among the candidates
number_within : (cores : ℕ) (m : Move) → core_of m < cores → number_of cores m < 4 * cores
number_within cores m lt = grind (arith, nat_tests)

numbered : (cores : ℕ) (m : Move) → core_of m < cores → candidate cores (number_of cores m) ≡ m
numbered cores m lt = grind (arith, nat_tests)

module _ {R K : Type 0} where
  -- an enabled move is among the moves
  pub move_some : (riding : Riding R) (carrying : Carrying K) (s : State R K) (m : Move) →
      MachineHolds riding carrying s →
      IsTrue (enabled riding carrying s m) → 0 < length (moves riding carrying s)
  move_some riding carrying s m h e =
      let lt : core_of m < length s.cores = enabled_core riding carrying s m e h in
      among_some (enabled riding carrying s) (candidate (length s.cores)) (4 * length s.cores)
      (number_of (length s.cores) m) m (number_within (length s.cores) m lt) (numbered (length s.cores) m lt) e

  -- what takes a message is a move
  take_some : (riding : Riding R) (carrying : Carrying K) (s : State R K) (act : Act R) →
      MachineHolds riding carrying s → is_take act ≡ true →
      can riding carrying s.memory act ≡ true → 0 < length (moves riding carrying s)
  take_some riding carrying s act h =
      by_take (λ (a : Act R). can riding carrying s.memory a ≡ true → 0 < length (moves riding carrying s))
      (λ c. move_some riding carrying s (RequestMove c) h) (λ c. move_some riding carrying s (ResponseMove c) h)
      (λ c. move_some riding carrying s (MessageMove c) h) act

  core_goes : (riding : Riding R) (carrying : Carrying K) (s : State R K) (c : ℕ) → c < length s.cores →
      is_done (need s.image (core_at s.cores c)) ≡ false →
      waits (port_at carrying s.memory.ports c).cache ≡ false → IsTrue (enabled riding carrying s (CoreMove c))
  core_goes riding carrying s c within more still = rw (more, still) (grind (arith, nat_tests))

  pub some_move : (riding : Riding R) (carrying : Carrying K) (s : State R K) → MachineHolds riding carrying s →
      all_done s ≡ false →
      0 < length (moves riding carrying s)
  some_move riding carrying s h e =
      let m = not_all (λ (core : Core). is_done (need s.image core)) s.cores (starting 0 0) e in
      by_waits m.0 m.1 m.2 (waits (port_at carrying s.memory.ports m.0).cache) refl
    where
      by_waits : (c : ℕ) → c < length s.cores → is_done (need s.image (core_at s.cores c)) ≡ false → (t : Bool) →
          waits (port_at carrying s.memory.ports c).cache ≡ t → 0 < length (moves riding carrying s)
      by_waits c within more false w = move_some riding carrying s (CoreMove c) h (core_goes riding carrying s c within
          more w)
      by_waits c within more true w =
          let take = waiting_moves riding carrying s.memory c h.memory (core_port riding carrying s c h within) w in
          take_some riding carrying s take.0 h take.1 take.2
