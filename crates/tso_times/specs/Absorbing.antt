-- The two riders that meet where a move makes one absorb the other.
use Rattle.std.specs.Prelude.{Option, None, List, IsTrue}
use Rattle.access_times.specs.Riding.{Riding, Carrying}
use Rattle.msi_memory.specs.Acts.{TakeMessage, TakeRequest, TakeResponse}
use Rattle.machine_times.specs.Absorbing.{AreAlike, act_meets}
use Rattle.machine_times.specs.History.{NotedAccess}
use Rattle.machine_times.specs.StandsFor.{TimesParts}
use Rattle.tso_state.specs.declared.moves.Move.{Move}
use Rattle.tso_state.specs.declared.moves.Move.TheVariants.{Core as CoreMove, Order as OrderMove}
use Rattle.tso_state.specs.declared.moves.Move.TheVariants.{Request as RequestMove, Response as ResponseMove}
use Rattle.tso_state.specs.declared.moves.Move.TheVariants.{FromHome as MessageMove}
use Rattle.tso_state.specs.States.{State}
use Rattle.tso_state.specs.Steps.{enabled}
use Rattle.tso_invariant.specs.Holds.{TsoHolds}
use Rattle.tso_times.specs.Timed.{StandsAfter}

module _ {R K : Type 0} where
  -- the rider that absorbs in the move and the one that it absorbs, where the move has such: a core's own has none
  abbrev pub meets : Riding R → Carrying K → State R K → Move → Option (R × R)
  meets riding carrying s (RequestMove c) = act_meets riding carrying s.memory (TakeRequest c)
  meets riding carrying s (ResponseMove c) = act_meets riding carrying s.memory (TakeResponse c)
  meets riding carrying s (MessageMove c) = act_meets riding carrying s.memory (TakeMessage c)
  meets riding carrying s (CoreMove c) = None
  meets riding carrying s (OrderMove c) = None

  -- the riders that meet in the move are alike
  abbrev pub MeetsAlike : TimesParts R → Carrying K → State R K → Move → Type 0
  MeetsAlike parts carrying s m = AreAlike parts (meets parts.riding carrying s m)

  -- and they always are
  abbrev pub MeetAlike : TimesParts R → Carrying K → Type 0
  MeetAlike parts carrying =
      (h : List NotedAccess) (s : State R K) (m : Move)
      → TsoHolds parts.riding carrying s → IsTrue (enabled parts.riding carrying s m) → StandsAfter parts carrying h s
      → MeetsAlike parts carrying s m
