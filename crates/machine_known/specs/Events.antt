-- The steps of a run as events: whose each is, and which messages it takes and sends.
use Rattle.std.specs.Prelude.{ℕ, false, nat_lt, Option, Some, None, List, length, map}
use Rattle.access_times.specs.Riding.{Carrying, none_carrying}
use Rattle.image_mem.specs.Contents.{Contents}
use Rattle.rtr_types.specs.declared.params.Params.{Params}
use Rattle.know_history.specs.Happenings.{Actor, AtCore, AtHome, Channel, Happening, Messages, Requests, Responses}
use Rattle.know_history.specs.Knowing.{Carries}
use Rattle.msi_memory.specs.declared.port.Port.{Port}
use Rattle.msi_memory.specs.Memories.{port_at}
use Rattle.msi_state.specs.declared.moves.Move.{Move}
use Rattle.msi_state.specs.declared.moves.Move.TheVariants.{Core as CoreMove, Request as RequestMove}
use Rattle.msi_state.specs.declared.moves.Move.TheVariants.{Response as ResponseMove, FromHome as MessageMove}
use Rattle.msi_state.specs.Events.{instr_of}
use Rattle.msi_state.specs.Runs.{chosen, plain_event, plain_step, run}
use Rattle.msi_state.specs.States.{PlainState, State}

-- who makes the move
abbrev pub actor_of : Move → Actor
actor_of (CoreMove c) = AtCore c
actor_of (RequestMove c) = AtHome
actor_of (ResponseMove c) = AtHome
actor_of (MessageMove c) = AtCore c

-- the link from which the move takes the oldest message
abbrev pub taken_from : Move → Option Channel
taken_from (CoreMove c) = None
taken_from (RequestMove c) = Some (Requests c)
taken_from (ResponseMove c) = Some (Responses c)
taken_from (MessageMove c) = Some (Messages c)

-- the core at whose port a link is
abbrev pub port_of : Channel → ℕ
port_of (Requests c) = c
port_of (Responses c) = c
port_of (Messages c) = c

module _ {R K : Type 0} where
  -- the carries of the messages on a port's link, oldest first
  abbrev pub carries_at : Channel → Port R K → List K
  carries_at (Requests c) p = map (λ mail. mail.carry) p.requests.items
  carries_at (Responses c) p = map (λ mail. mail.carry) p.responses.items
  carries_at (Messages c) p = map (λ mail. mail.carry) p.messages.items

  -- how many messages are on a port's link
  abbrev pub count_at : Channel → Port R K → ℕ
  count_at (Requests c) p = length p.requests.items
  count_at (Responses c) p = length p.responses.items
  count_at (Messages c) p = length p.messages.items

  abbrev pub own_carry : Carrying K → State R K → Actor → K
  own_carry carrying s (AtCore c) = (port_at carrying s.memory.ports c).carry
  own_carry carrying s AtHome = s.memory.carry

  -- what the actors of a state and its messages carry
  abbrev pub carries_of : Carrying K → State R K → Carries K
  carries_of carrying s =
      record {
        own = own_carry carrying s;
        sent = λ link. carries_at link (port_at carrying s.memory.ports (port_of link));
      }

-- how many messages are under way on a link
abbrev pub under_way : PlainState → Channel → ℕ
under_way s link = count_at link (port_at none_carrying s.memory.ports (port_of link))

-- what happens in a move: a message was sent to each link on which there are more afterwards (the link from
-- which the move takes one gets none)
abbrev pub happening_of : PlainState → Move → Happening
happening_of s m =
    record {
      actor = Some (actor_of m);
      takes = taken_from m;
      sends = λ link. nat_lt (under_way s link) (under_way (plain_step s m) link);
      retires = instr_of (plain_event s m);
    }

abbrev pub nothing_happens : Happening
nothing_happens = record { actor = None; takes = None; sends = λ link. false; retires = None }

abbrev pub happening_by : PlainState → Option Move → Happening
happening_by s None = nothing_happens
happening_by s (Some m) = happening_of s m

-- what happens in the run's step numbered t, from 0: nothing where no move is left
abbrev pub happening_at : Contents → Params → (choices : ℕ → ℕ) → (t : ℕ) → Happening
happening_at image params choices t =
    let s = run image params choices t in
    happening_by s (chosen s (choices t))
