-- Each move keeps the words of the copies that count, act by act, and an access finds the memory's word.
use Rattle.std.proofs.Common.{◌≡◌, ap, refl, subst, ℕ, ◌<◌, ◌%◌, ◌/◌, Bool, true, false, List, length, Option, Some}
use Rattle.std.proofs.Common.{None, IsTrue}
use Rattle.std.specs.Prelude.{if◌then◌else◌, slice_index}
use Rattle.std.proofs.lemmas.List.{length-set}
use Rattle.access_times.specs.Riding.{Riding, Carrying}
use Rattle.image_mem.specs.Contents.{Contents}
use Rattle.rtr_types.specs.declared.TheConstants.{BLOCK_WORDS}
use Rattle.rtr_types.specs.Accesses.{is_write}
use Rattle.rtr_types.specs.declared.access.Access.{Access}
use Rattle.rtr_types.specs.declared.access.Kind.{Kind}
use Rattle.rv_core.specs.declared.core_state.Core.{Core}
use Rattle.rv_core.specs.Steps.{need, wrote, is_done, access_of as need_access}
use Rattle.rv_core.proofs.LawLemmas.{within_law, unwritten_law}
use Rattle.msi_memory.specs.declared.port.Port.{Port}
use Rattle.msi_memory.specs.Acts.{Act, TakeMessage, allows, can_all, after_act, after_acts, data_next}
use Rattle.msi_memory.specs.Memories.{Memory, port_at}
use Rattle.msi_laws.specs.Holds.{MemoryHolds}
use Rattle.msi_laws.specs.Words.{HaveWords, memory_after_act}
use Rattle.msi_state.specs.declared.moves.Move.{Move}
use Rattle.msi_state.specs.declared.moves.Move.TheVariants.{Core as CoreMove, Request as RequestMove}
use Rattle.msi_state.specs.declared.moves.Move.TheVariants.{Response as ResponseMove, FromHome as MessageMove}
use Rattle.msi_state.specs.Moves.{core_of}
use Rattle.msi_state.specs.Events.{Event, Nothing, Retires, Accesses, access_of, event_working, event_working_in}
use Rattle.msi_state.specs.Events.{event_trying, port_taken}
use Rattle.msi_state.specs.States.{State, core_at}
use Rattle.msi_state.specs.Steps.{acts, acts_of, acts_working, enabled, event, step}
use Rattle.machine_invariant.specs.Holds.{MachineHolds}
use Rattle.msi_laws.proofs.ActInvariant.{memory_kept}
use Rattle.msi_laws.proofs.Properties.{finds_words, words_kept}
use Rattle.msi_laws.proofs.ActsInTurn.{acts_carry, folded}
use Rattle.msi_laws.proofs.Awaits.{taken_there}
use Rattle.machine_invariant.proofs.Awaits.{core_port, enabled_core}
use Rattle.machine_invariant.proofs.MoveInvariant.{acts_can}
use Rattle.machine_data.specs.Coherent.{Coherent, Finds, memory_after}
use Rattle.machine_data.proofs.Recalls.{Works}
use Rattle.machine_data.proofs.Values.{Honest}

-- ---- what acts leave of the memory

module _ {R : Type 0} where
  event_memory : (c : ℕ) (rider : R) (e : Event) (memory : ℕ → List ℕ) →
      folded memory_after_act (acts_of c rider e) memory ≡ memory_after e memory
  event_memory c rider Nothing memory = refl
  event_memory c rider (Retires at) memory = refl
  event_memory c rider (Accesses a) memory = refl

  -- asking changes nothing
  working_memory : (c : ℕ) (rider : R) (used : Option (Kind × ℕ)) (e : Event) (memory : ℕ → List ℕ) →
      folded memory_after_act (acts_working c rider used e) memory ≡ memory_after e memory
  working_memory c rider None Nothing memory = refl
  working_memory c rider (Some (kind, word)) Nothing memory = refl
  working_memory c rider used (Retires at) memory = refl
  working_memory c rider used (Accesses a) memory = refl

module _ {R K : Type 0} where
  acts_memory : (riding : Riding R) (carrying : Carrying K) (rider : R) (s : State R K) (m : Move) (memory : ℕ →
      List ℕ) →
      folded memory_after_act (acts riding carrying rider s m) memory ≡ memory_after (event riding carrying s m) memory
  acts_memory riding carrying rider s (CoreMove c) memory =
      working_memory c rider (need_access (need s.image (core_at s.cores c))) (event riding carrying s (CoreMove c))
      memory
  acts_memory riding carrying rider s (RequestMove c) memory = refl
  acts_memory riding carrying rider s (ResponseMove c) memory = refl
  acts_memory riding carrying rider s (MessageMove c) memory =
      event_memory c rider (event riding carrying s (MessageMove c)) memory

  words_after : (riding : Riding R) (carrying : Carrying K) (m : Memory R K) (todo : List (Act R)) (memory : ℕ →
      List ℕ) →
      IsTrue (can_all riding carrying m todo) → MemoryHolds riding carrying m → HaveWords riding carrying m memory →
      HaveWords riding carrying (after_acts riding carrying m todo) (folded memory_after_act todo memory)
  words_after riding carrying m todo memory e h k =
      acts_carry riding carrying memory_after_act (λ (left : ℕ → List ℕ) (x : Memory R K). HaveWords riding carrying x
      left)
      (λ left x act can_it holds words. words_kept riding carrying x act left holds can_it words) memory m todo e h k

-- ---- what an access finds

module _ {R K : Type 0} where
  working_finds : (riding : Riding R) (carrying : Carrying K) (m : Memory R K) (c : ℕ) (image : Contents) (core : Core)
      (used : Option (Kind × ℕ))
      (done : Bool) (memory : ℕ → List ℕ) → MemoryHolds riding carrying m → c < length m.ports →
      HaveWords riding carrying m memory →
      Finds (event_working_in used done image riding core (port_at carrying m.ports c)) memory
  working_finds riding carrying m c image core None true memory h lc k = tt
  working_finds riding carrying m c image core None false memory h lc k = tt
  working_finds riding carrying m c image core (Some (kind, word)) done memory h lc k =
      by (allows riding p (word / BLOCK_WORDS) kind) refl
    where
      p : Port R K
      p = port_at carrying m.ports c

      by : (t : Bool) → allows riding p (word / BLOCK_WORDS) kind ≡ t →
          Finds (if t then Accesses (access_of image riding core p word kind) else Nothing) memory
      by true is = ap (λ (words : List ℕ). slice_index words (word % BLOCK_WORDS)) (finds_words riding carrying m c
          (word / BLOCK_WORDS) kind memory h lc is k)
      by false is = tt

  -- the core that moves has a port
  port_of : (riding : Riding R) (carrying : Carrying K) (s : State R K) (m : Move) →
      IsTrue (enabled riding carrying s m) → MachineHolds riding carrying s →
      core_of m < length s.memory.ports
  port_of riding carrying s m e h = core_port riding carrying s (core_of m) h (enabled_core riding carrying s m e h)

  step_finds : (riding : Riding R) (carrying : Carrying K) (s : State R K) (m : Move) (memory : ℕ → List ℕ) →
      IsTrue (enabled riding carrying s m) →
      MachineHolds riding carrying s → Coherent riding carrying s memory → Finds (event riding carrying s m) memory
  step_finds riding carrying s (CoreMove c) memory e h k =
      let core : Core = core_at s.cores c in
      working_finds riding carrying s.memory c s.image core (need_access (need s.image core))
      (is_done (need s.image core)) memory h.memory
      (port_of riding carrying s (CoreMove c) e h) k
  step_finds riding carrying s (RequestMove c) memory e h k = tt
  step_finds riding carrying s (ResponseMove c) memory e h k = tt
  step_finds riding carrying s (MessageMove c) memory e h k = by (data_next p.messages.items)
    where
      p : Port R K
      p = port_at carrying s.memory.ports c

      core : Core
      core = core_at s.cores c

      next : Memory R K
      next = after_act riding carrying s.memory (TakeMessage c)

      lc : c < length s.memory.ports
      lc = port_of riding carrying s (MessageMove c) e h

      here : port_at carrying next.ports c ≡ port_taken riding carrying p
      here = taken_there riding carrying s.memory c lc

      found : Finds (event_working s.image riding core (port_at carrying next.ports c)) memory
      found = working_finds riding carrying next c s.image core (need_access (need s.image core))
          (is_done (need s.image core)) memory
          (memory_kept riding carrying s.memory (TakeMessage c) e h.memory) (rw length-set lc)
          (words_kept riding carrying s.memory (TakeMessage c) memory h.memory e k)

      by : (t : Bool) → Finds (if t then event_working s.image riding core (port_taken riding carrying p) else Nothing)
          memory
      by true = subst (λ (x : Port R K). Finds (event_working s.image riding core x) memory) here found
      by false = tt

-- ---- what an access leaves: a word of the memory's, as it was where it isn't written

module _ {R K : Type 0} where
  trying_honest : (image : Contents) (riding : Riding R) (core : Core) (p : Port R K) (word : ℕ) (kind : Kind) →
      word < image.words →
      (is_write kind ≡ false → (old : ℕ) → wrote image core old ≡ old) →
      Honest image.words (event_trying image riding core p word kind)
  trying_honest image riding core p word kind within reads = by_test (allows riding p (word / BLOCK_WORDS) kind)
    where
      a : Access
      a = access_of image riding core p word kind

      by_test : (t : Bool) → Honest image.words (if t then Accesses a else Nothing)
      by_test true = (within, λ e. reads e a.before)
      by_test false = tt

  working_honest : (image : Contents) (riding : Riding R) (core : Core) (p : Port R K) (used : Option (Kind × ℕ))
      (done : Bool) →
      need_access (need image core) ≡ used → Honest image.words (event_working_in used done image riding core p)
  working_honest image riding core p (Some (kind, word)) done is =
      trying_honest image riding core p word kind (within_law image core kind word is) (λ reads old. unwritten_law image
      core kind word old is reads)
  working_honest image riding core p None true is = tt
  working_honest image riding core p None false is = tt

  event_honest : (riding : Riding R) (carrying : Carrying K) (s : State R K) (m : Move) →
      Honest s.image.words (event riding carrying s m)
  event_honest riding carrying s (CoreMove c) =
      let core : Core = core_at s.cores c in
      working_honest s.image riding core (port_at carrying s.memory.ports c) (need_access (need s.image core))
      (is_done (need s.image core)) refl
  event_honest riding carrying s (RequestMove c) = tt
  event_honest riding carrying s (ResponseMove c) = tt
  event_honest riding carrying s (MessageMove c) =
      by_data (data_next (port_at carrying s.memory.ports c).messages.items)
    where
      core : Core
      core = core_at s.cores c

      taken : Port R K
      taken = port_taken riding carrying (port_at carrying s.memory.ports c)

      by_data : (t : Bool) → Honest s.image.words (if t then event_working s.image riding core taken else Nothing)
      by_data true = working_honest s.image riding core taken (need_access (need s.image core))
          (is_done (need s.image core)) refl
      by_data false = tt

-- ---- the law

module _ {R K : Type 0} where
  pub step_works : (riding : Riding R) (carrying : Carrying K) (s : State R K) (m : Move) (rider : R) (memory : ℕ →
      List ℕ) →
      IsTrue (enabled riding carrying s m) → MachineHolds riding carrying s → Coherent riding carrying s memory →
      Works riding carrying (step riding carrying rider s m) s.image.words (event riding carrying s m) memory
  step_works riding carrying s m rider memory e h k =
      record {
        coherent = subst (λ (left : ℕ → List ℕ). HaveWords riding carrying (after_acts riding carrying s.memory
            (acts riding carrying rider s m)) left)
            (acts_memory riding carrying rider s m memory)
            (words_after riding carrying s.memory (acts riding carrying rider s m) memory
            (acts_can riding carrying s m rider e h) h.memory k);
        finds = step_finds riding carrying s m memory e h k;
        honest = event_honest riding carrying s m;
      }
