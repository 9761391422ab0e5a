-- What is known at the instructions of a run.
use Rattle.std.specs.Prelude.{◌≡◌, ℕ, zero, suc, ◌<◌, ◌≤◌, Option, Some, None, IsTrue, length}
use Rattle.access_times.specs.Riding.{Riding, Carrying}
use Rattle.image_mem.specs.Contents.{Contents}
use Rattle.rtr_types.specs.declared.TheConstants.{CORES_MAX}
use Rattle.rtr_types.specs.declared.instr.Instr.{Instr}
use Rattle.rtr_types.specs.declared.params.Params.{Params}
use Rattle.know_history.specs.declared.known.Known.{Known}
use Rattle.know_history.specs.Knowledge.{known_carrying}
use Rattle.know_history.specs.Happenings.{Channel, Happening, IsKnownAt, on_link}
use Rattle.know_history.specs.Knowing.{AllKnow, CarriesFollow, carry_left, retired_in}
use Rattle.know_history.specs.Laws.{AreOrderly, IsKnownCount}
use Rattle.msi_state.specs.declared.moves.Move.{Move}
use Rattle.msi_state.specs.Events.{instr_of}
use Rattle.machine_plain.specs.Plain.{plain}
use Rattle.msi_state.specs.Runs.{chosen, event_at, run}
use Rattle.msi_state.specs.States.{State, core_at, state_start}
use Rattle.msi_state.specs.Steps.{carry_told, enabled, event, step}
use Rattle.machine_known.specs.Events.{actor_of, carries_of, happening_at, happening_of, under_way}

-- each core of the state has a port
abbrev pub PortsThere : {R K : Type 0} → State R K → Type 0
PortsThere s = length s.memory.ports ≡ length s.cores

-- each core has a port, and the counts of a state's cores are the numbers of their instructions that retired in the
-- first t events
pub record CountsRetired {R K : Type 0} (event : ℕ → Happening) (t : ℕ) (s : State R K) : Type 0 where
  pub ports : PortsThere s
  pub few : length s.cores ≤ CORES_MAX
  pub numbers : (c : ℕ) → c < length s.cores → (core_at s.cores c).id ≡ c
  pub counts : (c : ℕ) → c < length s.cores → (core_at s.cores c).count ≡ retired_in event t c

module _ {R K : Type 0} where
  -- Where each core has a port, each move changes the carries as its event says, and what retires in it is told with
  -- the carry that its core then has.
  abbrev pub CarriesFollowLaw : Riding R → Carrying K → Type 0
  CarriesFollowLaw riding carrying = (s : State R K) (m : Move) (rider : R) → IsTrue (enabled riding carrying s m) →
      PortsThere s → CarriesFollow carrying (happening_of (plain s) m) (actor_of m) (carries_of carrying s)
      (carries_of carrying (step riding carrying rider s m))

  abbrev pub CarryToldLaw : Riding R → Carrying K → Type 0
  CarryToldLaw riding carrying = (s : State R K) (m : Move) (y : Instr) → IsTrue (enabled riding carrying s m) →
      instr_of (event riding carrying s m) ≡ Some y → carry_told riding carrying s m
      ≡ carry_left carrying (happening_of (plain s) m) (carries_of carrying s) (actor_of m)

-- In each run each core's instructions retire one after the other, in its own events.
abbrev pub RunOrderlyLaw : Type 0
RunOrderlyLaw = (image : Contents) (params : Params) (choices : ℕ → ℕ) → params.cores ≤ CORES_MAX →
    AreOrderly (happening_at image params choices)

-- In each state of a run each link holds as many messages as its events have sent to it and not yet taken.
abbrev pub RunLinksLaw : Type 0
RunLinksLaw = (image : Contents) (params : Params) (choices : ℕ → ℕ) (t : ℕ) (link : Channel) →
    params.cores ≤ CORES_MAX → length (on_link (happening_at image params choices) t link)
    ≡ under_way (run image params choices t) link

-- In a run there retires in an event what the clerk is told of.
abbrev pub RunRetiresLaw : Type 0
RunRetiresLaw = (image : Contents) (params : Params) (choices : ℕ → ℕ) (t : ℕ) →
    (happening_at image params choices t).retires ≡ instr_of (event_at image params choices t)

-- what holds of the events of each run
pub record RunLaws : Type 0 where
  pub orderly : RunOrderlyLaw
  pub retires : RunRetiresLaw
  pub links : RunLinksLaw

-- x retires in an earlier step of the run than y
pub record RetiresEarlier (image : Contents) (params : Params) (choices : ℕ → ℕ) (x y : Instr) : Type 0 where
  pub first : ℕ
  pub second : ℕ
  pub before : first < second
  pub retires_first : instr_of (event_at image params choices first) ≡ Some x
  pub retires_second : instr_of (event_at image params choices second) ≡ Some y

-- What is known retired earlier in the run.
abbrev pub RunEarlierLaw : Type 0
RunEarlierLaw = (image : Contents) (params : Params) (choices : ℕ → ℕ) (x y : Instr) →
    IsKnownAt (happening_at image params choices) x y → RetiresEarlier image params choices x y

-- In a machine at its start each core has a port, and nothing is carried.
abbrev pub KnownStartLaw : {R : Type 0} → Riding R → Type 0
KnownStartLaw riding = (event : ℕ → Happening) (image : Contents) (cores limit : ℕ) →
    let s = state_start riding known_carrying image cores limit in
    PortsThere s × AllKnow event 0 (carries_of known_carrying s)

-- Where each core of a machine has a port and the carries count what reached them, so it is after a move, and what
-- retires in it is told with a carry that counts what is known at it.
pub record StepKnows {R : Type 0} (riding : Riding R) (happening : ℕ → Happening) (t : ℕ) (s : State R Known)
    (m : Move) (rider : R) : Type 0 where
  pub ports : PortsThere (step riding known_carrying rider s m)
  pub goes_on : AllKnow happening (suc t) (carries_of known_carrying (step riding known_carrying rider s m))
  pub known : (y : Instr) → instr_of (event riding known_carrying s m) ≡ Some y →
      IsKnownCount happening (carry_told riding known_carrying s m) y

abbrev pub KnownStepLaw : {R : Type 0} → Riding R → Type 0
KnownStepLaw {R} riding = (happening : ℕ → Happening) (t : ℕ) (s : State R Known) (m : Move) (rider : R) →
    AreOrderly happening → IsTrue (enabled riding known_carrying s m) → happening t ≡ happening_of (plain s) m →
    PortsThere s → AllKnow happening t (carries_of known_carrying s) → StepKnows riding happening t s m rider

-- Runs of a machine whose carries count what is known: `riders t` is the rider that the clerk leaves in step t.
module _ {R : Type 0} where
  abbrev pub known_stepped : Riding R → (rider : R) → State R Known → Option Move → State R Known
  known_stepped riding rider s None = s
  known_stepped riding rider s (Some m) = step riding known_carrying rider s m

  abbrev pub known_run : Riding R → Contents → Params → (choices : ℕ → ℕ) → (riders : ℕ → R) → (t : ℕ) → State R Known
  known_run riding image params choices riders zero = state_start riding known_carrying image params.cores params.limit
  known_run riding image params choices riders (suc t) =
      let s = known_run riding image params choices riders t in
      known_stepped riding (riders t) s (chosen (plain s) (choices t))

  -- In each state of each run, whose plain part is that of the plain run, the carries count what reached them.
  abbrev pub RunKnowsLaw : Riding R → Type 0
  RunKnowsLaw riding =
      (image : Contents) (params : Params) (choices : ℕ → ℕ) (riders : ℕ → R) (t : ℕ) → params.cores ≤ CORES_MAX →
      (plain (known_run riding image params choices riders t) ≡ run image params choices t)
      × AllKnow (happening_at image params choices) t
      (carries_of known_carrying (known_run riding image params choices riders t))

  -- In each step of each run, what retires is told with a carry that counts exactly what is known at it.
  abbrev pub KnownRunLaw : Riding R → Type 0
  KnownRunLaw riding =
      (image : Contents) (params : Params) (choices : ℕ → ℕ) (riders : ℕ → R) (t : ℕ) (m : Move) (y : Instr) →
      params.cores ≤ CORES_MAX →
      chosen (plain (known_run riding image params choices riders t)) (choices t) ≡ Some m →
      instr_of (event riding known_carrying (known_run riding image params choices riders t) m) ≡ Some y →
      IsKnownCount (happening_at image params choices)
      (carry_told riding known_carrying (known_run riding image params choices riders t) m) y
