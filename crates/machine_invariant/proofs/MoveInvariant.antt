-- Each enabled move keeps the invariant of the machine, act by act: what it does to the memory system can be done, and
-- each core's port awaits afterwards what the core needs then.
use Rattle.std.proofs.Common.{◌≡◌, ◌∙◌, refl, sym, ap, subst, ℕ, ◌<◌, ◌≤◌, ◌==◌, ◌/◌, ◌%◌, ◌^◌, Bool, true, false, not}
use Rattle.std.proofs.Common.{nat_lt, ◌&&◌, length}
use Rattle.std.proofs.Common.{Option, Some, IsTrue, arith}
use Rattle.std.proofs.lemmas.Bool.{lt-ltb}
use Rattle.std.proofs.lemmas.Bool.Decides.{nat_tests}
use Rattle.access_times.specs.Riding.{Riding, Carrying}
use Rattle.rtr_types.proofs.Truths.{both_true, first_true, second_true}
use Rattle.rtr_types.specs.declared.TheConstants.{BLOCK_WORDS}
use Rattle.rtr_types.specs.declared.access.Access.{Access}
use Rattle.rtr_types.specs.declared.access.Kind.{Kind}
use Rattle.image_mem.specs.Contents.{Contents}
use Rattle.rv_core.specs.declared.core_state.Core.{Core}
use Rattle.rv_core.specs.Steps.{need, after, is_done, access_of as need_access}
use Rattle.rv_core.proofs.LawLemmas.{number_law, count_law, limit_law, room_law, within_law}
use Rattle.rv_core.proofs.OpLemmas.{access_goes}
use Rattle.msi_memory.specs.Acts.{waits}
use Rattle.msi_directory.specs.Blocks.{block_count}
use Rattle.msi_memory.specs.declared.port.Port.{Port}
use Rattle.msi_memory.specs.Acts.{Want, TakeRequest, TakeResponse, TakeMessage, can, can_all}
use Rattle.msi_memory.specs.Acts.{after_act, after_acts, allows}
use Rattle.msi_memory.specs.Memories.{Memory, port_at}
use Rattle.msi_laws.specs.Holds.{MemoryHolds}
use Rattle.msi_state.specs.declared.moves.Move.{Move}
use Rattle.msi_state.specs.declared.moves.Move.TheVariants.{Core as CoreMove, Request as RequestMove}
use Rattle.msi_state.specs.declared.moves.Move.TheVariants.{Response as ResponseMove, FromHome as MessageMove}
use Rattle.msi_state.specs.Moves.{core_of}
use Rattle.msi_state.specs.States.{State, core_at}
use Rattle.msi_state.specs.Events.{Event, Retires, Accesses, access_of, next_instr, port_taken}
use Rattle.msi_state.specs.Steps.{acts, acts_of, acts_working, event, enabled, step}
use Rattle.msi_laws.specs.Waits.{Awaited}
use Rattle.machine_invariant.specs.Holds.{CoreHolds, MachineHolds}
use Rattle.msi_laws.proofs.ActInvariant.{memory_kept}
use Rattle.msi_laws.proofs.PortsKept.{length_act}
use Rattle.msi_laws.proofs.Waits.{wants_law}
use Rattle.msi_laws.proofs.ActsInTurn.{acts_hold, home_after_acts, retire_can, touch_can}
use Rattle.machine_invariant.proofs.StepFrame.{core_after, core_there, core_elsewhere, step_ports, step_cores}
use Rattle.msi_laws.proofs.Awaits.{still_awaits, awaited_kept, awaited_acts}
use Rattle.machine_invariant.proofs.Awaits.{CanWork, core_enabled, enabled_core, core_port, core_cases, message_cases}
use Rattle.msi_laws.proofs.Awaits.{taken_there}
use Rattle.machine_invariant.proofs.Awaits.{told_asks_not, step_asks_not}

-- ---- the cores' numbers

-- the block of the word that a core accesses is one of the memory's
pub needed_within : (image : Contents) (core : Core) (kind : Kind) (word : ℕ) →
    need_access (need image core) ≡ Some (kind, word) →
    word / BLOCK_WORDS < block_count image.words
needed_within image core kind word is = by_word image.words word (within_law image core kind word is)
  where
    by_word : (words word : ℕ) → word < words → word / BLOCK_WORDS < block_count words
    by_word words word lt = omega arith

-- a core whose number is its place, and whose count keeps below its limit
pub record Numbers (c : ℕ) (core : Core) : Type 0 where
  pub number : core.id ≡ c
  pub count_fits : core.count ≤ core.limit
  pub limit_fits : core.limit < 2 ^ 32

-- is such a core after each of its instructions
pub numbers_after : (image : Contents) (core : Core) (old c : ℕ) → is_done (need image core) ≡ false → Numbers c core →
    Numbers c (after image core old)
numbers_after image core old c more h =
    let room = room_law image core more in
    record {
      number = number_law image core old ∙ h.number;
      count_fits = rw (count_law image core old, limit_law image core old) (omega arith);
      limit_fits = rw (limit_law image core old) h.limit_fits;
    }

module _ {R K : Type 0} where
  -- ---- what a move does can be done

  access_can : (riding : Riding R) (carrying : Carrying K) (rider : R) (m : Memory R K) (c : ℕ) (a : Access) →
      c < length m.ports → allows riding (port_at carrying m.ports c) (a.word / BLOCK_WORDS) a.kind ≡ true →
      IsTrue (can_all riding carrying m (acts_of c rider (Accesses a)))
  access_can riding carrying rider m c a =
      touch_can riding carrying rider m c a.at (a.word / BLOCK_WORDS) (a.word % BLOCK_WORDS) a.kind a.after

  want_can : (riding : Riding R) (carrying : Carrying K) (m : Memory R K) (c block : ℕ) (kind : Kind) →
      c < length m.ports → block < length m.home →
      waits (port_at carrying m.ports c).cache ≡ false → allows riding (port_at carrying m.ports c) block kind ≡ false →
      IsTrue (can riding carrying m (Want c block kind))
  want_can riding carrying m c block kind within below none refused =
      all_of (nat_lt c (length m.ports)) (waits (port_at carrying m.ports c).cache) (nat_lt block (length m.home))
      (allows riding (port_at carrying m.ports c) block kind) (lt-ltb c (length m.ports) within) none
      (lt-ltb block (length m.home) below) refused
    where
      all_of : (a b c d : Bool) → a ≡ true → b ≡ false → c ≡ true → d ≡ false → IsTrue (a && (not b && (c && not d)))
      all_of a b c d e f g h = rw (e, f, g, h) refl

  core_can : (riding : Riding R) (carrying : Carrying K) (rider : R) (s : State R K) (c : ℕ) →
      IsTrue (enabled riding carrying s (CoreMove c)) →
      MachineHolds riding carrying s → IsTrue (can_all riding carrying s.memory (acts riding carrying rider s
      (CoreMove c)))
  core_can riding carrying rider s c e h =
      core_cases riding carrying s c (λ needed told. IsTrue (can_all riding carrying s.memory
      (acts_working c rider needed told))) e
      (λ none. retire_can riding carrying s.memory c (next_instr (core_at s.cores c)) within)
      (λ kind word is refused. both_true (can riding carrying s.memory (Want c (word / BLOCK_WORDS) kind)) true
      (want_can riding carrying s.memory c (word / BLOCK_WORDS) kind within
      (rw h.blocks_there (needed_within s.image (core_at s.cores c) kind word is)) (core_enabled riding carrying s c
      e).still refused) refl)
      (λ kind word is allowed. access_can riding carrying rider s.memory c
      (access_of s.image riding (core_at s.cores c) (port_at carrying s.memory.ports c) word kind) within allowed)
    where
      within : c < length s.memory.ports
      within = core_port riding carrying s c h (core_enabled riding carrying s c e).core

  message_can : (riding : Riding R) (carrying : Carrying K) (rider : R) (s : State R K) (c : ℕ) →
      IsTrue (enabled riding carrying s (MessageMove c)) →
      MachineHolds riding carrying s → IsTrue (can_all riding carrying s.memory (acts riding carrying rider s
      (MessageMove c)))
  message_can riding carrying rider s c e h =
      both_true (can riding carrying s.memory (TakeMessage c)) (can_all riding carrying left
      (acts_of c rider (event riding carrying s (MessageMove c)))) e
      (message_cases riding carrying s c (λ told. IsTrue (can_all riding carrying left (acts_of c rider told))) h
      (enabled_core riding carrying s (MessageMove c) e h) (λ quiet. refl)
      (λ kind word next is allowed none. access_can riding carrying rider left c
      (access_of s.image riding (core_at s.cores c) (port_taken riding carrying (port_at carrying s.memory.ports c))
      word kind)
      (subst (λ (n : ℕ). c < n) (sym (length_act riding carrying s.memory (TakeMessage c))) within)
      (ap (λ (p : Port R K). allows riding p (word / BLOCK_WORDS) kind) (taken_there riding carrying s.memory c within)
      ∙ allowed)))
    where
      left : Memory R K
      left = after_act riding carrying s.memory (TakeMessage c)

      within : c < length s.memory.ports
      within = core_port riding carrying s c h (enabled_core riding carrying s (MessageMove c) e h)

  pub acts_can : (riding : Riding R) (carrying : Carrying K) (s : State R K) (m : Move) (rider : R) →
      IsTrue (enabled riding carrying s m) →
      MachineHolds riding carrying s → IsTrue (can_all riding carrying s.memory (acts riding carrying rider s m))
  acts_can riding carrying s (CoreMove c) rider e h = core_can riding carrying rider s c e h
  acts_can riding carrying s (RequestMove c) rider e h = both_true (can riding carrying s.memory (TakeRequest c)) true e
      refl
  acts_can riding carrying s (ResponseMove c) rider e h = both_true (can riding carrying s.memory (TakeResponse c)) true
      e refl
  acts_can riding carrying s (MessageMove c) rider e h = message_can riding carrying rider s c e h

  -- ---- the cores after a move

  -- the memory system keeps its invariant
  pub memory_after : (riding : Riding R) (carrying : Carrying K) (s : State R K) (m : Move) (rider : R) →
      IsTrue (enabled riding carrying s m) →
      MachineHolds riding carrying s → MemoryHolds riding carrying (step riding carrying rider s m).memory
  memory_after riding carrying s m rider e h =
      acts_hold riding carrying s.memory (acts riding carrying rider s m) (acts_can riding carrying s m rider e h)
      h.memory

  numbers_at : (riding : Riding R) (carrying : Carrying K) (s : State R K) (c : ℕ) → MachineHolds riding carrying s →
      c < length s.cores →
      Numbers c (core_at s.cores c)
  numbers_at riding carrying s c h within =
      record {
        number = (h.cores c within).number;
        count_fits = (h.cores c within).count_fits;
        limit_fits = (h.cores c within).limit_fits;
      }

  -- the core that moved
  moved_numbers : (riding : Riding R) (carrying : Carrying K) (s : State R K) (m : Move) →
      IsTrue (enabled riding carrying s m) →
      MachineHolds riding carrying s → Numbers (core_of m) (core_after s.image (event riding carrying s m)
      (core_at s.cores (core_of m)))
  moved_numbers riding carrying s (CoreMove c) e h =
      core_cases riding carrying s c (λ needed told. Numbers c (core_after s.image told core)) e
      (λ none. numbers_after s.image core 0 c moves.more old) (λ kind word is refused. old)
      (λ kind word is allowed. numbers_after s.image core (access_of s.image riding core
      (port_at carrying s.memory.ports c) word kind).before c moves.more old)
    where
      core : Core
      core = core_at s.cores c

      moves : CanWork riding carrying s c
      moves = core_enabled riding carrying s c e

      old : Numbers c core
      old = numbers_at riding carrying s c h moves.core
  moved_numbers riding carrying s (RequestMove c) e h =
      numbers_at riding carrying s c h (enabled_core riding carrying s (RequestMove c) e h)
  moved_numbers riding carrying s (ResponseMove c) e h =
      numbers_at riding carrying s c h (enabled_core riding carrying s (ResponseMove c) e h)
  moved_numbers riding carrying s (MessageMove c) e h =
      message_cases riding carrying s c (λ told. Numbers c (core_after s.image told core)) h within (λ quiet. old)
      (λ kind word next is allowed none. numbers_after s.image core
      (access_of s.image riding core (port_taken riding carrying (port_at carrying s.memory.ports c)) word kind).before
      c
      (access_goes (need s.image core) kind word is) old)
    where
      core : Core
      core = core_at s.cores c

      within : c < length s.cores
      within = enabled_core riding carrying s (MessageMove c) e h

      old : Numbers c core
      old = numbers_at riding carrying s c h within

  -- what acts of an event leave of a port that doesn't wait
  told_awaits : (riding : Riding R) (carrying : Carrying K) (rider : R) (m : Memory R K) (c : ℕ) (e : Event)
      (needed : Option (Kind × ℕ)) →
      IsTrue (can_all riding carrying m (acts_of c rider e)) → MemoryHolds riding carrying m → c < length m.ports →
      waits (port_at carrying m.ports c).cache ≡ false →
      Awaited needed riding (port_at carrying (after_acts riding carrying m (acts_of c rider e)).ports c)
  told_awaits riding carrying rider m c e needed can_them h within none =
      awaited_acts riding carrying m (acts_of c rider e) c needed can_them (told_asks_not c c rider e) h within
      (still_awaits riding (port_at carrying m.ports c) needed none)

  -- the port of the core that moved awaits what that core needs next
  moved_awaits : (riding : Riding R) (carrying : Carrying K) (s : State R K) (m : Move) (rider : R) →
      IsTrue (enabled riding carrying s m) →
      MachineHolds riding carrying s →
      Awaited (need_access (need s.image (core_after s.image (event riding carrying s m)
      (core_at s.cores (core_of m))))) riding
      (port_at carrying (step riding carrying rider s m).memory.ports (core_of m))
  moved_awaits riding carrying s (CoreMove c) rider e h =
      core_cases riding carrying s c
      (λ needed told. IsTrue (can_all riding carrying s.memory (acts_working c rider needed told)) →
      Awaited (need_access (need s.image (core_after s.image told core))) riding
      (port_at carrying (after_acts riding carrying s.memory (acts_working c rider needed told)).ports c)) e
      (λ none can_them. told_awaits riding carrying rider s.memory c (Retires (next_instr core))
      (need_access (need s.image (after s.image core 0))) can_them
      h.memory within moves.still)
      (λ kind word is refused can_them. subst
      (λ (needed : Option (Kind × ℕ)). Awaited needed riding
      (port_at carrying (after_act riding carrying s.memory (Want c (word / BLOCK_WORDS) kind)).ports c)) (sym is)
      (wants_law riding carrying s.memory c (word / BLOCK_WORDS) kind h.memory
      (first_true (can riding carrying s.memory (Want c (word / BLOCK_WORDS) kind)) true can_them)))
      (λ kind word is allowed can_them. told_awaits riding carrying rider s.memory c (Accesses (made word kind))
      (need_access (need s.image (after s.image core (made word kind).before))) can_them h.memory within moves.still)
      (acts_can riding carrying s (CoreMove c) rider e h)
    where
      core : Core
      core = core_at s.cores c

      made : ℕ → Kind → Access
      made word kind = access_of s.image riding core (port_at carrying s.memory.ports c) word kind

      moves : CanWork riding carrying s c
      moves = core_enabled riding carrying s c e

      within : c < length s.memory.ports
      within = core_port riding carrying s c h moves.core
  moved_awaits riding carrying s (RequestMove c) rider e h =
      let within = enabled_core riding carrying s (RequestMove c) e h in
      awaited_kept riding carrying s.memory (TakeRequest c) c (need_access (need s.image (core_at s.cores c))) h.memory
      e refl
      (core_port riding carrying s c h within) (h.cores c within).awaited
  moved_awaits riding carrying s (ResponseMove c) rider e h =
      let within = enabled_core riding carrying s (ResponseMove c) e h in
      awaited_kept riding carrying s.memory (TakeResponse c) c (need_access (need s.image (core_at s.cores c))) h.memory
      e refl
      (core_port riding carrying s c h within) (h.cores c within).awaited
  moved_awaits riding carrying s (MessageMove c) rider e h =
      message_cases riding carrying s c
      (λ told. IsTrue (can_all riding carrying left (acts_of c rider told)) →
      Awaited (need_access (need s.image (core_after s.image told core))) riding
      (port_at carrying (after_acts riding carrying left (acts_of c rider told)).ports c)) h there
      (λ quiet can_them. awaited_kept riding carrying s.memory (TakeMessage c) c (need_access (need s.image core))
      h.memory e refl within
      (h.cores c there).awaited)
      (λ kind word next is allowed none can_them. told_awaits riding carrying rider left c (Accesses (made word kind))
      (need_access (need s.image (after s.image core (made word kind).before))) can_them
      (memory_kept riding carrying s.memory (TakeMessage c) e h.memory)
      (subst (λ (n : ℕ). c < n) (sym (length_act riding carrying s.memory (TakeMessage c))) within)
      (ap (λ (p : Port R K). waits p.cache) (taken_there riding carrying s.memory c within) ∙ none))
      (second_true (can riding carrying s.memory (TakeMessage c)) (can_all riding carrying left
      (acts_of c rider (event riding carrying s (MessageMove c))))
      (acts_can riding carrying s (MessageMove c) rider e h))
    where
      left : Memory R K
      left = after_act riding carrying s.memory (TakeMessage c)

      core : Core
      core = core_at s.cores c

      made : ℕ → Kind → Access
      made word kind = access_of s.image riding core (port_taken riding carrying (port_at carrying s.memory.ports c))
          word kind

      there : c < length s.cores
      there = enabled_core riding carrying s (MessageMove c) e h

      within : c < length s.memory.ports
      within = core_port riding carrying s c h there

  core_well : (image : Contents) (riding : Riding R) (c : ℕ) (core : Core) (p : Port R K) → Numbers c core →
      Awaited (need_access (need image core)) riding p →
      CoreHolds image riding c core p
  core_well image riding c core p n a =
      record { number = n.number; count_fits = n.count_fits; limit_fits = n.limit_fits; awaited = a }

  -- each core is well at its port after a move
  cores_kept : (riding : Riding R) (carrying : Carrying K) (s : State R K) (m : Move) (rider : R) →
      IsTrue (enabled riding carrying s m) →
      MachineHolds riding carrying s → (d : ℕ) → d < length s.cores →
      CoreHolds s.image riding d (core_at (step riding carrying rider s m).cores d)
      (port_at carrying (step riding carrying rider s m).memory.ports d)
  cores_kept riding carrying s m rider e h d within = by_core (d == core_of m) refl
    where
      new : Port R K
      new = port_at carrying (step riding carrying rider s m).memory.ports d

      by_core : (t : Bool) → (d == core_of m) ≡ t →
          CoreHolds s.image riding d (core_at (step riding carrying rider s m).cores d) new
      by_core true f =
          let same : core_of m ≡ d = grind (arith, nat_tests) in
          subst (λ (x : ℕ). CoreHolds s.image riding x (core_at (step riding carrying rider s m).cores x)
          (port_at carrying (step riding carrying rider s m).memory.ports x)) same
          (subst (λ (core : Core). CoreHolds s.image riding (core_of m) core
          (port_at carrying (step riding carrying rider s m).memory.ports (core_of m)))
          (sym (core_there s.image (core_of m) (event riding carrying s m) s.cores (enabled_core riding carrying s m e
          h)))
          (core_well s.image riding (core_of m) (core_after s.image (event riding carrying s m)
          (core_at s.cores (core_of m)))
          (port_at carrying (step riding carrying rider s m).memory.ports (core_of m)) (moved_numbers riding carrying s
          m e h)
          (moved_awaits riding carrying s m rider e h)))
      by_core false f =
          subst (λ (core : Core). CoreHolds s.image riding d core new)
          (sym (core_elsewhere s.image (core_of m) (event riding carrying s m) s.cores d f))
          (core_well s.image riding d (core_at s.cores d) new (numbers_at riding carrying s d h within)
          (awaited_acts riding carrying s.memory (acts riding carrying rider s m) d
          (need_access (need s.image (core_at s.cores d)))
          (acts_can riding carrying s m rider e h) (step_asks_not riding carrying rider s m d f) h.memory
          (core_port riding carrying s d h within)
          (h.cores d within).awaited))

  -- an enabled move keeps the invariant, whatever rider the clerk leaves
  pub holds_kept : (riding : Riding R) (carrying : Carrying K) (s : State R K) (m : Move) (rider : R) →
      IsTrue (enabled riding carrying s m) →
      MachineHolds riding carrying s → MachineHolds riding carrying (step riding carrying rider s m)
  holds_kept riding carrying s m rider e h =
      record {
        memory = memory_after riding carrying s m rider e h;
        ports_there = step_ports riding carrying rider s m
            ∙ (h.ports_there ∙ sym (step_cores riding carrying rider s m));
        blocks_there = home_after_acts riding carrying s.memory (acts riding carrying rider s m) ∙ h.blocks_there;
        cores = λ d within. cores_kept riding carrying s m rider e h d (subst (λ (n : ℕ). d < n)
            (step_cores riding carrying rider s m) within);
      }
