-- Every move of the machine, act by act, and what an access finds.
use Rattle.std.proofs.Common.{◌≡◌, ◌∙◌, ap, refl, sym, subst, ℕ, ◌+◌, ◌<◌, ◌≤◌, ◌%◌, ◌/◌, true, List, [], ◌∷◌, length}
use Rattle.std.proofs.Common.{Option, Some}
use Rattle.std.proofs.Common.{None, arith, IsTrue}
use Rattle.std.proofs.lemmas.List.{length-set}
use Rattle.access_times.specs.Riding.{Carrying}
use Rattle.rtr_types.specs.declared.TheConstants.{BLOCK_WORDS, CORES_MAX}
use Rattle.rtr_types.specs.declared.access.Access.{Access}
use Rattle.rtr_types.specs.declared.access.Kind.{Kind}
use Rattle.rtr_types.specs.declared.instr.Instr.{Instr}
use Rattle.rtr_types.proofs.Truths.{first_true, second_true}
use Rattle.clock_core.specs.declared.clock.Clock.{Clock}
use Rattle.image_mem.specs.Contents.{Contents}
use Rattle.rv_core.specs.declared.core_state.Core.{Core}
use Rattle.rv_core.specs.Steps.{need, access_of as need_access}
use Rattle.msi_memory.specs.declared.port.Port.{Port}
use Rattle.msi_memory.specs.Acts.{Act, Want, Touch, Retire, TakeRequest, TakeResponse, TakeMessage, can, can_all}
use Rattle.msi_memory.specs.Acts.{after_act, after_acts}
use Rattle.msi_memory.specs.Acts.{port_retiring}
use Rattle.msi_memory.specs.Memories.{Memory, port_at, rider_at}
use Rattle.msi_laws.specs.Holds.{MemoryHolds}
use Rattle.msi_state.specs.declared.moves.Move.{Move}
use Rattle.msi_state.specs.declared.moves.Move.TheVariants.{Core as CoreMove, Request as RequestMove}
use Rattle.msi_state.specs.declared.moves.Move.TheVariants.{Response as ResponseMove, FromHome as MessageMove}
use Rattle.msi_state.specs.Moves.{core_of as move_core}
use Rattle.msi_state.specs.Events.{Event, Nothing, Retires, Accesses, access_of, event_working, next_instr, port_taken}
use Rattle.msi_state.specs.States.{State, core_at}
use Rattle.msi_state.specs.Steps.{acts_of, acts_working, enabled, event, retiring, step}
use Rattle.machine_invariant.specs.Holds.{MachineHolds}
use Rattle.msi_laws.proofs.ActInvariant.{memory_kept}
use Rattle.msi_laws.proofs.PortsAndBlocks.{core_below}
use Rattle.msi_laws.proofs.Waits.{port_there}
use Rattle.msi_laws.proofs.Awaits.{taken_there}
use Rattle.machine_invariant.proofs.Awaits.{core_port, enabled_core}
use Rattle.machine_invariant.proofs.CoreEvents.{receiving_cases, working_cases}
use Rattle.machine_invariant.proofs.MoveInvariant.{acts_can}
use Rattle.machine_times.specs.History.{NotedAccess, rank, last_noted_read}
use Rattle.machine_times.specs.Retirements.{Retirement, noted_accesses, noted_after, retired_by, StandsAfter}
use Rattle.machine_times.specs.Retirements.{RiderFits, RiderNotes, IsExactRider}
use Rattle.machine_times.specs.StandsFor.{TimesParts, AbsorbsAll, HaveTimes}
use Rattle.machine_times.specs.TimedSteps.{TimedStep, FindsTimes}
use Rattle.machine_times.proofs.CoreCounts.{IsNext, counted_after, event_next, noted_event, order_after, rank_retired}
use Rattle.machine_times.proofs.Times.{port_finds}
use Rattle.machine_times.proofs.TimedActs.{other_times, touch_times}

-- a core that is at this number, whose accesses so far are no later than what it retired
record IsAt (c : ℕ) (h : List NotedAccess) (core : Core) : Type 0 where
  id : core.id ≡ c
  counts : (w : ℕ) → rank (last_noted_read h w c) ≤ core.count

-- the next access of a core that is at this number is later than its accesses so far
next_later : (c : ℕ) (h : List NotedAccess) (core : Core) (a : Access) → IsAt c h core → a.at ≡ next_instr core →
    (w : ℕ) → rank (last_noted_read h w c) < a.at.count
next_later c h core a at next w =
    let count : a.at.count ≡ core.count + 1 = ap (λ (i : Instr). i.count) next in
    let before : rank (last_noted_read h w c) ≤ core.count = at.counts w in
    omega arith

module _ {R K : Type 0} where
  -- ---- what acts make of the times

  -- what an event of core c does
  told_times : (parts : TimesParts R) (carrying : Carrying K) → AbsorbsAll parts →
      (h : List NotedAccess) (m : Memory R K) (c : ℕ) (core : Core) (rider : R)
      (clock : Clock) (e : Event) → c < length m.ports → IsAt c h core → IsNext core e →
      RiderFits parts clock rider e (port_at carrying m.ports c) →
      IsTrue (can_all parts.riding carrying m (acts_of c rider e)) → MemoryHolds parts.riding carrying m →
      HaveTimes parts carrying h m →
      HaveTimes parts carrying (noted_after e clock h) (after_acts parts.riding carrying m (acts_of c rider e))
  told_times parts carrying well h m c core rider clock Nothing lc at next notes can_them holds f = f
  told_times parts carrying well h m c core rider clock (Retires i) lc at next notes can_them holds f =
      other_times parts carrying well h m (Retire c i) (first_true (can parts.riding carrying m (Retire c i)) true
      can_them) refl holds f
  told_times parts carrying well h m c core rider clock (Accesses a) lc at next notes can_them holds f =
      touch_times parts carrying well h retired c (record { access = a; clock = clock }) rider
      (ap (λ (i : Instr). i.core) (next a.at refl) ∙ at.id) (next_later c h core a at (next a.at refl))
      (subst (λ (p : Port R K). RiderNotes parts (record { access = a; clock = clock }) (rider_at parts.riding p a.word)
      rider) (sym there) (notes a refl))
      (first_true (can parts.riding carrying retired touching) true
      (second_true (can parts.riding carrying m (Retire c a.at)) (can_all parts.riding carrying retired (touching ∷ []))
      can_them))
      (memory_kept parts.riding carrying m (Retire c a.at) first holds) (other_times parts carrying well h m
      (Retire c a.at) first refl holds f)
    where
      touching : Act R
      touching = Touch c (a.word / BLOCK_WORDS) (a.word % BLOCK_WORDS) a.kind a.after rider

      retired : Memory R K
      retired = after_act parts.riding carrying m (Retire c a.at)

      first : IsTrue (can parts.riding carrying m (Retire c a.at))
      first = first_true (can parts.riding carrying m (Retire c a.at)) (can_all parts.riding carrying retired
          (touching ∷ [])) can_them

      there : port_at carrying retired.ports c ≡ port_retiring carrying (port_at carrying m.ports c) a.at
      there = port_there carrying m c (port_retiring carrying (port_at carrying m.ports c) a.at) lc

  -- and what its own move does
  working_times : (parts : TimesParts R) (carrying : Carrying K) → AbsorbsAll parts →
      (h : List NotedAccess) (m : Memory R K) (c : ℕ) (core : Core)
      (rider : R) (clock : Clock) (needed : Option (Kind × ℕ)) (e : Event) → c < length m.ports → IsAt c h core →
      IsNext core e →
      RiderFits parts clock rider e (port_at carrying m.ports c) →
      IsTrue (can_all parts.riding carrying m (acts_working c rider needed e)) →
      MemoryHolds parts.riding carrying m → HaveTimes parts carrying h m →
      HaveTimes parts carrying (noted_after e clock h) (after_acts parts.riding carrying m
      (acts_working c rider needed e))
  working_times parts carrying well h m c core rider clock None Nothing lc at next notes can_them holds f = f
  working_times parts carrying well h m c core rider clock (Some (kind, word)) Nothing lc at next notes can_them holds
      f =
      let asking : Act R = Want c (word / BLOCK_WORDS) kind in
      other_times parts carrying well h m asking (first_true (can parts.riding carrying m asking) true can_them) refl
      holds f
  working_times parts carrying well h m c core rider clock needed (Retires i) lc at next notes can_them holds f =
      told_times parts carrying well h m c core rider clock (Retires i) lc at next notes can_them holds f
  working_times parts carrying well h m c core rider clock needed (Accesses a) lc at next notes can_them holds f =
      told_times parts carrying well h m c core rider clock (Accesses a) lc at next notes can_them holds f

  -- ---- a move

  is_at : (parts : TimesParts R) (carrying : Carrying K) (h : List Retirement) (s : State R K) (c : ℕ) →
      c < length s.cores →
      MachineHolds parts.riding carrying s → StandsAfter parts carrying h s →
      IsAt c (noted_accesses h) (core_at s.cores c)
  is_at parts carrying h s c lc holds f =
      record {
        id = (holds.cores c lc).number;
        counts = λ w. subst (λ (n : ℕ). rank (last_noted_read (noted_accesses h) w c) ≤ n) (sym (f.counts c lc))
            (rank_retired h w c f.order);
      }

  step_times : (parts : TimesParts R) (carrying : Carrying K) → AbsorbsAll parts →
      (history : List Retirement) (state : State R K) (m : Move) (rider : R)
      (clock : Clock) → MachineHolds parts.riding carrying state → IsTrue (enabled parts.riding carrying state m) →
      RiderFits parts clock rider (event parts.riding carrying state m) (retiring parts.riding carrying state m) →
      StandsAfter parts carrying history state →
      HaveTimes parts carrying (noted_after (event parts.riding carrying state m) clock (noted_accesses history))
      (step parts.riding carrying rider state m).memory
  step_times parts carrying well history state (CoreMove c) rider clock holds allowed notes times =
      let lc = enabled_core parts.riding carrying state (CoreMove c) allowed holds in
      working_times parts carrying well (noted_accesses history) state.memory c (core_at state.cores c) rider clock
      (need_access (need state.image (core_at state.cores c)))
      (event parts.riding carrying state (CoreMove c)) (core_port parts.riding carrying state c holds lc)
      (is_at parts carrying history state c lc holds times)
      (event_next parts.riding carrying state (CoreMove c)) notes
      (acts_can parts.riding carrying state (CoreMove c) rider allowed
      holds) holds.memory times.all
  step_times parts carrying well history state (RequestMove c) rider clock holds allowed notes times =
      other_times parts carrying well (noted_accesses history) state.memory
      (TakeRequest c) allowed refl holds.memory times.all
  step_times parts carrying well history state (ResponseMove c) rider clock holds allowed notes times =
      other_times parts carrying well (noted_accesses history) state.memory
      (TakeResponse c) allowed refl holds.memory times.all
  step_times parts carrying well history state (MessageMove c) rider clock holds allowed notes times =
      told_times parts carrying well (noted_accesses history) taken c (core_at state.cores c) rider clock told
      (subst (λ (n : ℕ). c < n) (sym length-taken) lp)
      (is_at parts carrying history state c lc holds times) (event_next parts.riding carrying state (MessageMove c))
      (subst (λ (p : Port R K). RiderFits parts clock rider told p)
      (sym (taken_there parts.riding carrying state.memory c lp)) notes)
      (second_true (can parts.riding carrying state.memory (TakeMessage c)) (can_all parts.riding carrying taken
      (acts_of c rider told))
      (acts_can parts.riding carrying state (MessageMove c) rider allowed holds))
      (memory_kept parts.riding carrying state.memory
      (TakeMessage c) allowed holds.memory)
      (other_times parts carrying well (noted_accesses history) state.memory
      (TakeMessage c) allowed refl holds.memory times.all)
    where
      taken : Memory R K
      taken = after_act parts.riding carrying state.memory (TakeMessage c)

      told : Event
      told = event parts.riding carrying state (MessageMove c)

      lc : c < length state.cores
      lc = enabled_core parts.riding carrying state (MessageMove c) allowed holds

      lp : c < length state.memory.ports
      lp = core_port parts.riding carrying state c holds lc

      length-taken : length taken.ports ≡ length state.memory.ports
      length-taken = length-set state.memory.ports c
          (port_taken parts.riding carrying (port_at carrying state.memory.ports c))

  -- the core of an enabled move is one that there may be
  pub mover_below : (parts : TimesParts R) (carrying : Carrying K) (s : State R K) (m : Move) →
      MachineHolds parts.riding carrying s →
      IsTrue (enabled parts.riding carrying s m) → move_core m < CORES_MAX
  mover_below parts carrying s m holds e =
      core_below parts.riding carrying s.memory (move_core m) holds.memory
      (core_port parts.riding carrying s (move_core m) holds (enabled_core parts.riding carrying s m e holds))

  pub timed_step : (parts : TimesParts R) (carrying : Carrying K) → AbsorbsAll parts → TimedStep parts carrying
  timed_step parts carrying well h s m rider clock holds e notes f =
      record {
        all = subst (λ (k : List NotedAccess). HaveTimes parts carrying k (step parts.riding carrying rider s m).memory)
            (noted_event told clock h)
            (step_times parts carrying well h s m rider clock holds e notes f);
        counts = counted_after s.image s.cores c h told clock lc id next f.counts;
        order = order_after core h told clock (rw id below) (f.counts c lc ∙ ap (λ (x : ℕ). retired_by h x) (sym id))
            next f.order;
      }
    where
      told : Event
      told = event parts.riding carrying s m

      c : ℕ
      c = move_core m

      core : Core
      core = core_at s.cores c

      lc : c < length s.cores
      lc = enabled_core parts.riding carrying s m e holds

      id : core.id ≡ c
      id = (holds.cores c lc).number

      next : IsNext core told
      next = event_next parts.riding carrying s m

      below : c < CORES_MAX
      below = mover_below parts carrying s m holds e

  -- ---- what an access finds

  working_finds : (image : Contents) (parts : TimesParts R) (carrying : Carrying K) (h : List NotedAccess)
      (m : Memory R K) (c : ℕ) (core : Core)
      (a : Access) → c < CORES_MAX → HaveTimes parts carrying h m →
      event_working image parts.riding core (port_at carrying m.ports c) ≡ Accesses a →
      IsExactRider parts h a (rider_at parts.riding (port_at carrying m.ports c) a.word)
  working_finds image parts carrying h m c core a lc f =
      working_cases image parts.riding core p (λ needed e. e ≡ Accesses a →
      IsExactRider parts h a (rider_at parts.riding p a.word))
      (λ done none is. absurd (cc)) (λ more none is. absurd (cc)) (λ kind word needed refused is. absurd (cc))
      (λ kind word needed allowed is. subst (λ (x : Access). IsExactRider parts h x (rider_at parts.riding p x.word))
      (same kind word is)
      (port_finds parts carrying h m c word kind lc allowed f))
    where
      p : Port R K
      p = port_at carrying m.ports c

      same : (kind : Kind) (word : ℕ) → Accesses (access_of image parts.riding core p word kind) ≡ Accesses a →
          access_of image parts.riding core p word kind ≡ a
      same kind word is = cc

  pub finds_exact : (parts : TimesParts R) (carrying : Carrying K) → AbsorbsAll parts → FindsTimes parts carrying
  finds_exact parts carrying well h s (CoreMove c) a holds e is f =
      working_finds s.image parts carrying (noted_accesses h) s.memory c (core_at s.cores c) a
      (mover_below parts carrying s (CoreMove c) holds e) f.all is
  finds_exact parts carrying well h s (RequestMove c) a holds e is f = absurd (cc)
  finds_exact parts carrying well h s (ResponseMove c) a holds e is f = absurd (cc)
  finds_exact parts carrying well h s (MessageMove c) a holds e is f =
      receiving_cases s.image parts.riding carrying (core_at s.cores c) p
      (λ told. told ≡ Accesses a → IsExactRider parts (noted_accesses h) a
      (rider_at parts.riding (port_taken parts.riding carrying p) a.word))
      (λ quiet none. absurd (cc)) (λ comes. found) is
    where
      p : Port R K
      p = port_at carrying s.memory.ports c

      taken : Memory R K
      taken = after_act parts.riding carrying s.memory (TakeMessage c)

      lc : c < length s.cores
      lc = enabled_core parts.riding carrying s (MessageMove c) e holds

      found : event_working s.image parts.riding (core_at s.cores c) (port_taken parts.riding carrying p) ≡ Accesses a →
          IsExactRider parts (noted_accesses h) a (rider_at parts.riding (port_taken parts.riding carrying p) a.word)
      found =
          subst (λ (x : Port R K). event_working s.image parts.riding (core_at s.cores c) x ≡ Accesses a →
          IsExactRider parts (noted_accesses h) a (rider_at parts.riding x a.word))
          (taken_there parts.riding carrying s.memory c (core_port parts.riding carrying s c holds lc))
          (λ (told : event_working s.image parts.riding (core_at s.cores c) (port_at carrying taken.ports c) ≡ Accesses
          a).
          working_finds s.image parts carrying (noted_accesses h) taken c (core_at s.cores c) a
          (mover_below parts carrying s (MessageMove c) holds e)
          (other_times parts carrying well (noted_accesses h) s.memory (TakeMessage c) e refl holds.memory f.all) told)
