-- What a core's port waits for is what the core needs: what an enabled move finds there, and what acts keep of it.
use Rattle.std.proofs.Common.{◌≡◌, ◌∙◌, refl, sym, ap, subst, ℕ, ◌<◌, ◌==◌, ◌/◌, Bool, true, false, not, ◌&&◌, nat_lt}
use Rattle.std.proofs.Common.{length}
use Rattle.std.proofs.Common.{Option, Some, None, IsTrue, arith}
use Rattle.std.specs.List.{list_all}
use Rattle.std.proofs.lemmas.Bool.{ltb-true}
use Rattle.std.proofs.lemmas.Bool.Decides.{nat_tests}
use Rattle.access_times.specs.Riding.{Riding, Carrying}
use Rattle.rtr_types.proofs.Truths.{first_true, second_true}
use Rattle.rtr_types.specs.declared.TheConstants.{BLOCK_WORDS}
use Rattle.rtr_types.specs.declared.access.Kind.{Kind}
use Rattle.image_mem.specs.Contents.{Contents}
use Rattle.rv_core.specs.declared.core_state.Core.{Core}
use Rattle.rv_core.specs.Steps.{need, is_done, access_of as need_access}
use Rattle.msi_memory.specs.Acts.{waits}
use Rattle.msi_memory.specs.declared.port.Port.{Port}
use Rattle.msi_memory.specs.Acts.{TakeRequest, TakeResponse, TakeMessage, allows, data_next}
use Rattle.msi_memory.specs.Memories.{port_at}
use Rattle.msi_laws.specs.Waits.{is_want}
use Rattle.msi_state.specs.declared.moves.Move.{Move}
use Rattle.msi_state.specs.declared.moves.Move.TheVariants.{Core as CoreMove, Request as RequestMove}
use Rattle.msi_state.specs.declared.moves.Move.TheVariants.{Response as ResponseMove, FromHome as MessageMove}
use Rattle.msi_state.specs.Moves.{core_of}
use Rattle.msi_state.specs.States.{State, core_at}
use Rattle.msi_state.specs.Events.{Event, Nothing, Retires, Accesses, access_of, next_instr, event_working}
use Rattle.msi_state.specs.Events.{event_working_in, port_taken}
use Rattle.msi_state.specs.Steps.{acts, acts_of, acts_working, event, enabled}
use Rattle.machine_invariant.specs.Holds.{MachineHolds}
use Rattle.msi_laws.proofs.Awaits.{Granted, data_granted}
use Rattle.msi_laws.proofs.PortsKept.{there_of}
use Rattle.machine_invariant.proofs.CoreEvents.{working_cases, receiving_cases}

-- ---- an enabled move

-- what it is for a core to be able to move on its own
pub record CanWork {R K : Type 0} (riding : Riding R) (carrying : Carrying K) (s : State R K) (c : ℕ) : Type 0 where
  pub core : c < length s.cores
  pub more : is_done (need s.image (core_at s.cores c)) ≡ false
  pub still : waits (port_at carrying s.memory.ports c).cache ≡ false

module _ {R K : Type 0} where
  pub core_enabled : (riding : Riding R) (carrying : Carrying K) (s : State R K) (c : ℕ) →
      IsTrue (enabled riding carrying s (CoreMove c)) →
      CanWork riding carrying s c
  core_enabled riding carrying s c e =
      let done : Bool = is_done (need s.image (core_at s.cores c)) in
      let waiting : Bool = waits (port_at carrying s.memory.ports c).cache in
      let rest = second_true (nat_lt c (length s.cores)) (not done && not waiting) e in
      record {
        core = ltb-true c (length s.cores) (first_true (nat_lt c (length s.cores)) (not done && not waiting) e);
        more = is_not done (first_true (not done) (not waiting) rest);
        still = is_not waiting (second_true (not done) (not waiting) rest);
      }
    where
      is_not : (t : Bool) → IsTrue (not t) → t ≡ false
      is_not true f = absurd (cc)
      is_not false f = refl

  -- the core of an enabled move is one of the machine's
  pub enabled_core : (riding : Riding R) (carrying : Carrying K) (s : State R K) (m : Move) →
      IsTrue (enabled riding carrying s m) →
      MachineHolds riding carrying s → core_of m < length s.cores
  enabled_core riding carrying s (CoreMove c) e h = (core_enabled riding carrying s c e).core
  enabled_core riding carrying s (RequestMove c) e h =
      subst (λ (n : ℕ). c < n) h.ports_there (there_of riding carrying s.memory (TakeRequest c) e)
  enabled_core riding carrying s (ResponseMove c) e h =
      subst (λ (n : ℕ). c < n) h.ports_there (there_of riding carrying s.memory (TakeResponse c) e)
  enabled_core riding carrying s (MessageMove c) e h =
      subst (λ (n : ℕ). c < n) h.ports_there (there_of riding carrying s.memory (TakeMessage c) e)

  -- and has a port
  pub core_port : (riding : Riding R) (carrying : Carrying K) (s : State R K) (c : ℕ) → MachineHolds riding carrying s →
      c < length s.cores →
      c < length s.memory.ports
  core_port riding carrying s c h within = subst (λ (n : ℕ). c < n) (sym h.ports_there) within

module _ {R : Type 0} where
  -- no event asks
  pub told_asks_not : (c d : ℕ) (rider : R) (e : Event) →
      list_all (λ act. not (is_want act d)) (acts_of c rider e) ≡ true
  told_asks_not c d rider Nothing = refl
  told_asks_not c d rider (Retires at) = refl
  told_asks_not c d rider (Accesses a) = refl

  -- a core asks at its own port alone
  pub worked_asks_not : (c d : ℕ) (rider : R) (needed : Option (Kind × ℕ)) (e : Event) → (d == c) ≡ false →
      list_all (λ act. not (is_want act d)) (acts_working c rider needed e) ≡ true
  worked_asks_not c d rider None Nothing other = refl
  worked_asks_not c d rider (Some (kind, word)) Nothing other = ap (λ (t : Bool). not t && true) other
  worked_asks_not c d rider needed (Retires at) other = refl
  worked_asks_not c d rider needed (Accesses a) other = refl

module _ {R K : Type 0} where
  pub step_asks_not : (riding : Riding R) (carrying : Carrying K) (rider : R) (s : State R K) (m : Move) (d : ℕ) →
      (d == core_of m) ≡ false →
      list_all (λ act. not (is_want act d)) (acts riding carrying rider s m) ≡ true
  step_asks_not riding carrying rider s (CoreMove c) d other =
      worked_asks_not c d rider (need_access (need s.image (core_at s.cores c)))
      (event riding carrying s (CoreMove c)) other
  step_asks_not riding carrying rider s (RequestMove c) d other = refl
  step_asks_not riding carrying rider s (ResponseMove c) d other = refl
  step_asks_not riding carrying rider s (MessageMove c) d other =
      told_asks_not c d rider (event riding carrying s (MessageMove c))

module _ {R K : Type 0} where
  -- an access that is needed and allowed is made
  pub access_made : (image : Contents) (riding : Riding R) (core : Core) (p : Port R K) (kind : Kind) (word : ℕ) →
      need_access (need image core) ≡ Some (kind, word) → allows riding p (word / BLOCK_WORDS) kind ≡ true →
      event_working image riding core p ≡ Accesses (access_of image riding core p word kind)
  access_made image riding core p kind word is allowed =
      ap (λ (needed : Option (Kind × ℕ)). event_working_in needed (is_done (need image core)) image riding core p) is
      ∙ rw allowed refl

  -- ---- what moves tell in a state that holds

  -- a core that moves retires an instruction without an access, or asks, or makes its access
  pub core_cases : (riding : Riding R) (carrying : Carrying K) (s : State R K) (c : ℕ)
      (P : Option (Kind × ℕ) → Event → Type 0) →
      IsTrue (enabled riding carrying s (CoreMove c)) →
      (need_access (need s.image (core_at s.cores c)) ≡ None → P None (Retires (next_instr (core_at s.cores c)))) →
      ((kind : Kind) (word : ℕ) → need_access (need s.image (core_at s.cores c)) ≡ Some (kind, word) →
      allows riding (port_at carrying s.memory.ports c) (word / BLOCK_WORDS) kind ≡ false →
      P (Some (kind, word)) Nothing) →
      ((kind : Kind) (word : ℕ) → need_access (need s.image (core_at s.cores c)) ≡ Some (kind, word) →
      allows riding (port_at carrying s.memory.ports c) (word / BLOCK_WORDS) kind ≡ true →
      P (Some (kind, word))
      (Accesses (access_of s.image riding (core_at s.cores c) (port_at carrying s.memory.ports c) word kind))) →
      P (need_access (need s.image (core_at s.cores c))) (event riding carrying s (CoreMove c))
  core_cases riding carrying s c P e retires waits accesses =
      working_cases s.image riding (core_at s.cores c) (port_at carrying s.memory.ports c) P
      (λ done none. absurd (let more = (core_enabled riding carrying s c e).more in cc (sym done ∙ more)))
      (λ more none. retires none) waits accesses

  -- a message tells nothing, or, if it has a block's data, of the access that waited for them
  pub message_cases : (riding : Riding R) (carrying : Carrying K) (s : State R K) (c : ℕ) (P : Event → Type 0) →
      MachineHolds riding carrying s →
      c < length s.cores → (data_next (port_at carrying s.memory.ports c).messages.items ≡ false → P Nothing) →
      ((kind : Kind) (word : ℕ) → data_next (port_at carrying s.memory.ports c).messages.items ≡ true →
      need_access (need s.image (core_at s.cores c)) ≡ Some (kind, word) →
      allows riding (port_taken riding carrying (port_at carrying s.memory.ports c)) (word / BLOCK_WORDS) kind ≡ true →
      waits (port_taken riding carrying (port_at carrying s.memory.ports c)).cache ≡ false →
      P (Accesses (access_of s.image riding (core_at s.cores c)
      (port_taken riding carrying (port_at carrying s.memory.ports c)) word kind))) →
      P (event riding carrying s (MessageMove c))
  message_cases riding carrying s c P h within quiet comes =
      receiving_cases s.image riding carrying (core_at s.cores c) (port_at carrying s.memory.ports c) P quiet
      (λ next. by_grant next (data_granted riding carrying s.memory c (need_access (need s.image (core_at s.cores c)))
      h.memory
      (core_port riding carrying s c h within) next (h.cores c within).awaited))
    where
      taken : Port R K
      taken = port_taken riding carrying (port_at carrying s.memory.ports c)

      by_grant : data_next (port_at carrying s.memory.ports c).messages.items ≡ true →
          Granted riding (need_access (need s.image (core_at s.cores c))) taken →
          P (event_working s.image riding (core_at s.cores c) taken)
      by_grant next g =
          subst P (sym (access_made s.image riding (core_at s.cores c) taken g.kind g.word g.needs g.allowed))
          (comes g.kind g.word next g.needs g.allowed g.still)
