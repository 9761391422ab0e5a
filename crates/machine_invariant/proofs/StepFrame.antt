-- What a step leaves: its cores, its ports, and how many of them there are.
use Rattle.std.proofs.Common.{◌≡◌, ◌∙◌, refl, sym, ap, ℕ, ◌<◌, ◌==◌, ◌/◌, ◌%◌, false, List, length, Option, Some, None}
use Rattle.std.proofs.Common.{arith}
use Rattle.std.proofs.lemmas.List.{length-set, get_or-set_same, get_or-set_other}
use Rattle.std.proofs.lemmas.Bool.Decides.{nat_tests}
use Rattle.access_times.specs.Riding.{Riding, Carrying}
use Rattle.image_mem.specs.Contents.{Contents}
use Rattle.rtr_types.specs.declared.TheConstants.{BLOCK_WORDS}
use Rattle.rtr_types.specs.declared.access.Kind.{Kind}
use Rattle.rtr_types.specs.declared.instr.Instr.{Instr}
use Rattle.rv_core.specs.declared.core_state.Core.{Core}
use Rattle.rv_core.specs.States.{starting}
use Rattle.rv_core.specs.Steps.{need, after, access_of as need_access}
use Rattle.msi_memory.specs.declared.port.Port.{Port}
use Rattle.msi_memory.specs.Acts.{after_acts, with_port, take_request, take_response, port_asking, port_retiring}
use Rattle.msi_memory.specs.Acts.{port_touched}
use Rattle.msi_memory.specs.Memories.{Memory, port_at}
use Rattle.msi_state.specs.declared.moves.Move.{Move}
use Rattle.msi_state.specs.declared.moves.Move.TheVariants.{Core as CoreMove, Request as RequestMove}
use Rattle.msi_state.specs.declared.moves.Move.TheVariants.{Response as ResponseMove, FromHome as MessageMove}
use Rattle.msi_state.specs.Moves.{core_of}
use Rattle.msi_state.specs.States.{State, core_at}
use Rattle.msi_state.specs.Events.{Event, Nothing, Retires, Accesses, instr_of, port_taken}
use Rattle.msi_state.specs.Steps.{acts, acts_of, acts_working, cores_after, event, step, retiring}
use Rattle.msi_laws.proofs.Waits.{port_there}
use Rattle.msi_laws.proofs.ActsInTurn.{ports_after_acts, port_again, port_same}

-- ---- the cores

-- a core after an event of its own
abbrev pub core_after : Contents → Event → Core → Core
core_after image Nothing core = core
core_after image (Retires at) core = after image core 0
core_after image (Accesses a) core = after image core a.before

-- an event makes no core and takes none away
pub length-cores_after : (image : Contents) (c : ℕ) (e : Event) (cores : List Core) →
    length (cores_after image c e cores) ≡ length cores
length-cores_after image c Nothing cores = refl
length-cores_after image c (Retires at) cores = length-set cores c _
length-cores_after image c (Accesses a) cores = length-set cores c _

-- the core whose event it is
pub core_there : (image : Contents) (c : ℕ) (e : Event) (cores : List Core) → c < length cores →
    core_at (cores_after image c e cores) c ≡ core_after image e (core_at cores c)
core_there image c Nothing cores within = refl
core_there image c (Retires at) cores within = get_or-set_same cores c (after image (core_at cores c) 0) (starting 0 0)
    within
core_there image c (Accesses a) cores within = get_or-set_same cores c (after image (core_at cores c) a.before)
    (starting 0 0) within

-- every other one stays
pub core_elsewhere : (image : Contents) (c : ℕ) (e : Event) (cores : List Core) (d : ℕ) → (d == c) ≡ false →
    core_at (cores_after image c e cores) d ≡ core_at cores d
core_elsewhere image c Nothing cores d other = refl
core_elsewhere image c (Retires at) cores d other =
    get_or-set_other cores c d (after image (core_at cores c) 0) (starting 0 0) (λ (same : d ≡ c).
    absurd (grind (arith, nat_tests)))
core_elsewhere image c (Accesses a) cores d other =
    get_or-set_other cores c d (after image (core_at cores c) a.before) (starting 0 0) (λ (same : d ≡ c).
    absurd (grind (arith, nat_tests)))

-- ---- the ports

module _ {R K : Type 0} where
  -- the port after an event of its core, in which the clerk left this rider on the copy that an access touched
  abbrev pub port_told : Riding R → Carrying K → R → Event → Port R K → Port R K
  port_told riding carrying rider Nothing p = p
  port_told riding carrying rider (Retires at) p = port_retiring carrying p at
  port_told riding carrying rider (Accesses a) p =
      port_touched riding (port_retiring carrying p a.at) (a.word / BLOCK_WORDS) (a.word % BLOCK_WORDS) a.kind a.after
      rider

  -- the port after its core asked for what this access needs
  abbrev pub port_wanting : Riding R → Option (Kind × ℕ) → Port R K → Port R K
  port_wanting riding None p = p
  port_wanting riding (Some (kind, word)) p = port_asking riding p (word / BLOCK_WORDS) kind

  -- the port after its core's own move: it asks for what is needed where nothing retires
  abbrev pub port_worked : Riding R → Carrying K → R → Option (Kind × ℕ) → Event → Port R K → Port R K
  port_worked riding carrying rider needed Nothing p = port_wanting riding needed p
  port_worked riding carrying rider needed e p = port_told riding carrying rider e p

  -- what an event of core c does changes its port alone
  pub told_memory : (riding : Riding R) (carrying : Carrying K) (rider : R) (m : Memory R K) (c : ℕ) (e : Event) →
      c < length m.ports →
      after_acts riding carrying m (acts_of c rider e) ≡ with_port m c (port_told riding carrying rider e
      (port_at carrying m.ports c))
  told_memory riding carrying rider m c Nothing within = sym (port_same carrying m c)
  told_memory riding carrying rider m c (Retires at) within = refl
  told_memory riding carrying rider m c (Accesses a) within =
      let retired : Port R K = port_retiring carrying (port_at carrying m.ports c) a.at in
      let touched : Port R K → Port R K = λ p. port_touched riding p (a.word / BLOCK_WORDS) (a.word % BLOCK_WORDS)
      a.kind a.after rider in
      ap (λ (p : Port R K). with_port (with_port m c retired) c (touched p)) (port_there carrying m c retired within)
      ∙ port_again m c retired (touched retired)

  -- and so does its own move
  pub worked_memory : (riding : Riding R) (carrying : Carrying K) (rider : R) (m : Memory R K) (c : ℕ)
      (needed : Option (Kind × ℕ)) (e : Event) →
      c < length m.ports → after_acts riding carrying m (acts_working c rider needed e)
      ≡ with_port m c (port_worked riding carrying rider needed e (port_at carrying m.ports c))
  worked_memory riding carrying rider m c None Nothing within = sym (port_same carrying m c)
  worked_memory riding carrying rider m c (Some (kind, word)) Nothing within = refl
  worked_memory riding carrying rider m c needed (Retires at) within = refl
  worked_memory riding carrying rider m c needed (Accesses a) within =
      told_memory riding carrying rider m c (Accesses a) within

  -- ---- each move

  -- after a core's own move its port alone is another
  pub core_memory : (riding : Riding R) (carrying : Carrying K) (rider : R) (s : State R K) (c : ℕ) →
      c < length s.memory.ports →
      (step riding carrying rider s (CoreMove c)).memory
      ≡ with_port s.memory c (port_worked riding carrying rider (need_access (need s.image (core_at s.cores c)))
      (event riding carrying s (CoreMove c))
      (port_at carrying s.memory.ports c))
  core_memory riding carrying rider s c within =
      worked_memory riding carrying rider s.memory c (need_access (need s.image (core_at s.cores c)))
      (event riding carrying s (CoreMove c)) within

  -- and so it is after a message, which it takes first
  pub message_memory : (riding : Riding R) (carrying : Carrying K) (rider : R) (s : State R K) (c : ℕ) →
      c < length s.memory.ports →
      (step riding carrying rider s (MessageMove c)).memory
      ≡ with_port s.memory c (port_told riding carrying rider (event riding carrying s (MessageMove c))
      (port_taken riding carrying (port_at carrying s.memory.ports c)))
  message_memory riding carrying rider s c within =
      let taken : Port R K = port_taken riding carrying (port_at carrying s.memory.ports c) in
      let e : Event = event riding carrying s (MessageMove c) in
      told_memory riding carrying rider (with_port s.memory c taken) c e (longer taken)
      ∙ (port_again s.memory c taken (port_told riding carrying rider e
      (port_at carrying (with_port s.memory c taken).ports c))
      ∙ ap (λ (p : Port R K). with_port s.memory c (port_told riding carrying rider e p))
      (port_there carrying s.memory c taken within))
    where
      longer : (p : Port R K) → c < length (with_port s.memory c p).ports
      longer p = rw (length-set s.memory.ports c p) within

  -- the home's turns
  pub request_memory : (riding : Riding R) (carrying : Carrying K) (rider : R) (s : State R K) (c : ℕ) →
      (step riding carrying rider s (RequestMove c)).memory ≡ take_request riding carrying s.memory c
  request_memory riding carrying rider s c = refl

  pub response_memory : (riding : Riding R) (carrying : Carrying K) (rider : R) (s : State R K) (c : ℕ) →
      (step riding carrying rider s (ResponseMove c)).memory ≡ take_response riding carrying s.memory c
  response_memory riding carrying rider s c = refl

  -- a move in which an instruction retires leaves the port where it does so with the instruction told
  pub retired_memory : (riding : Riding R) (carrying : Carrying K) (rider : R) (s : State R K) (m : Move) (at : Instr) →
      core_of m < length s.memory.ports → instr_of (event riding carrying s m) ≡ Some at →
      (step riding carrying rider s m).memory
      ≡ with_port s.memory (core_of m) (port_told riding carrying rider (event riding carrying s m)
      (retiring riding carrying s m))
  retired_memory riding carrying rider s (CoreMove c) at within is =
      core_memory riding carrying rider s c within
      ∙ ap (λ (p : Port R K). with_port s.memory c p)
      (by_event (event riding carrying s (CoreMove c)) (need_access (need s.image (core_at s.cores c)))
      (port_at carrying s.memory.ports c) is)
    where
      by_event : (e : Event) (needed : Option (Kind × ℕ)) (p : Port R K) → instr_of e ≡ Some at →
          port_worked riding carrying rider needed e p ≡ port_told riding carrying rider e p
      by_event Nothing needed p is = absurd (cc)
      by_event (Retires x) needed p is = refl
      by_event (Accesses a) needed p is = refl
  retired_memory riding carrying rider s (RequestMove c) at within is = absurd (cc)
  retired_memory riding carrying rider s (ResponseMove c) at within is = absurd (cc)
  retired_memory riding carrying rider s (MessageMove c) at within is = message_memory riding carrying rider s c within

  -- ---- how many there are

  pub step_ports : (riding : Riding R) (carrying : Carrying K) (rider : R) (s : State R K) (m : Move) →
      length (step riding carrying rider s m).memory.ports ≡ length s.memory.ports
  step_ports riding carrying rider s m = ports_after_acts riding carrying s.memory (acts riding carrying rider s m)

  pub step_cores : (riding : Riding R) (carrying : Carrying K) (rider : R) (s : State R K) (m : Move) →
      length (step riding carrying rider s m).cores ≡ length s.cores
  step_cores riding carrying rider s m = length-cores_after s.image (core_of m) (event riding carrying s m) s.cores
