-- Forgetting riders and carries goes through what a move tells, which acts it is, and its step.
use Rattle.std.proofs.Common.{◌≡◌, ◌∙◌, ap, refl, sym, ℕ, ◌/◌, List, ◌∷◌, Bool, true, false, Option, Some, None}
use Rattle.std.specs.Prelude.{map, if◌then◌else◌}
use Rattle.access_times.specs.Riding.{Riding, Carrying, none_riding, none_carrying}
use Rattle.image_mem.specs.Contents.{Contents}
use Rattle.rtr_types.specs.declared.TheConstants.{BLOCK_WORDS}
use Rattle.rtr_types.specs.declared.access.Access.{Access}
use Rattle.rtr_types.specs.declared.access.Kind.{Kind}
use Rattle.rv_core.specs.declared.core_state.Core.{Core}
use Rattle.rv_core.specs.Steps.{need, is_done, access_of as need_access}
use Rattle.msi_cache.proofs.Forgets.{plain_line_for}
use Rattle.msi_memory.specs.declared.port.Port.{Port}
use Rattle.msi_memory.specs.Acts.{Act, allows, after_acts, data_next}
use Rattle.msi_memory.specs.Memories.{Memory, port_at}
use Rattle.msi_memory.specs.PlainPart.{plain_act, plain_memory, plain_port}
use Rattle.msi_state.specs.declared.moves.Move.{Move}
use Rattle.msi_state.specs.declared.moves.Move.TheVariants.{Core as CoreMove, Request as RequestMove}
use Rattle.msi_state.specs.declared.moves.Move.TheVariants.{Response as ResponseMove, FromHome as MessageMove}
use Rattle.msi_state.specs.Events.{Event, Nothing, Retires, Accesses, access_of, event_receiving, event_trying}
use Rattle.msi_state.specs.Events.{event_working, event_working_in, port_taken}
use Rattle.msi_state.specs.Moves.{core_of}
use Rattle.msi_state.specs.States.{State, PlainState, core_at}
use Rattle.msi_state.specs.Steps.{acts, acts_of, acts_working, cores_after, event, step}
use Rattle.machine_plain.specs.Plain.{plain}
use Rattle.machine_plain.proofs.Plains.{plain_allows, plain_data_next, plain_port_at, plain_taking}
use Rattle.machine_plain.proofs.PlainActs.{plain_after_acts}

event_if : (t u : Bool) (a b : Access) → t ≡ u → a ≡ b →
    (if t then Accesses a else Nothing) ≡ (if u then Accesses b else Nothing)
event_if true u a b t e = rw (← t, e)
event_if false u a b t e = rw (← t)

module _ {R K : Type 0} where
  -- ---- what a move tells

  pub plain_access : (image : Contents) (riding : Riding R) (core : Core) (p : Port R K) (word : ℕ) (kind : Kind) →
      access_of image riding core p word kind ≡ access_of image none_riding core (plain_port p) word kind
  plain_access image riding core p word kind = rw (plain_line_for riding.fresh p.cache (word / BLOCK_WORDS))

  plain_event_trying : (image : Contents) (riding : Riding R) (core : Core) (p : Port R K) (word : ℕ) (kind : Kind) →
      event_trying image riding core p word kind ≡ event_trying image none_riding core (plain_port p) word kind
  plain_event_trying image riding core p word kind =
      event_if (allows riding p (word / BLOCK_WORDS) kind) (allows none_riding (plain_port p) (word / BLOCK_WORDS) kind)
      (access_of image riding core p word kind) (access_of image none_riding core (plain_port p) word kind)
      (plain_allows riding p (word / BLOCK_WORDS) kind) (plain_access image riding core p word kind)

  plain_event_working_in : (used : Option (Kind × ℕ)) (done : Bool) (image : Contents) (riding : Riding R) (core : Core)
      (p : Port R K) →
      event_working_in used done image riding core p ≡ event_working_in used done image none_riding core (plain_port p)
  plain_event_working_in (Some (kind, word)) done image riding core p = plain_event_trying image riding core p word kind
  plain_event_working_in None true image riding core p = refl
  plain_event_working_in None false image riding core p = refl

  pub plain_event_working : (image : Contents) (riding : Riding R) (core : Core) (p : Port R K) →
      event_working image riding core p
      ≡ event_working image none_riding core (plain_port p)
  plain_event_working image riding core p = plain_event_working_in (need_access (need image core))
      (is_done (need image core)) image riding core p

  pub plain_taken : (riding : Riding R) (carrying : Carrying K) (p : Port R K) →
      plain_port (port_taken riding carrying p)
      ≡ port_taken none_riding none_carrying (plain_port p)
  plain_taken riding carrying p = plain_taking riding carrying p p.messages.items

  plain_event_receiving : (image : Contents) (riding : Riding R) (carrying : Carrying K) (core : Core) (p : Port R K) →
      event_receiving image riding carrying core p ≡ event_receiving image none_riding none_carrying core (plain_port p)
  plain_event_receiving image riding carrying core p =
      ap (λ (e : Event). if data_next p.messages.items then e else Nothing) (plain_event_working image riding core
      (port_taken riding carrying p)
      ∙ ap (λ (q : Port (Unit {0}) (Unit {0})). event_working image none_riding core q) (plain_taken riding carrying p))
      ∙ ap (λ (t : Bool). if t then event_working image none_riding core (port_taken none_riding none_carrying
      (plain_port p)) else Nothing)
      (plain_data_next p.messages.items)

  pub plain_event : (riding : Riding R) (carrying : Carrying K) (s : State R K) (m : Move) →
      event riding carrying s m ≡ event none_riding none_carrying (plain s) m
  plain_event riding carrying s (CoreMove c) =
      plain_event_working s.image riding (core_at s.cores c) (port_at carrying s.memory.ports c)
      ∙ ap (λ (p : Port (Unit {0}) (Unit {0})). event_working s.image none_riding (core_at s.cores c) p)
      (sym (plain_port_at carrying s.memory.ports c))
  plain_event riding carrying s (MessageMove c) =
      plain_event_receiving s.image riding carrying (core_at s.cores c) (port_at carrying s.memory.ports c)
      ∙ ap (λ (p : Port (Unit {0}) (Unit {0})). event_receiving s.image none_riding none_carrying (core_at s.cores c) p)
      (sym (plain_port_at carrying s.memory.ports c))
  plain_event riding carrying s (RequestMove c) = refl
  plain_event riding carrying s (ResponseMove c) = refl

-- ---- which acts it is

module _ {R : Type 0} where
  plain_acts_of : (c : ℕ) (rider : R) (e : Event) → map plain_act (acts_of c rider e) ≡ acts_of c tt e
  plain_acts_of c rider Nothing = refl
  plain_acts_of c rider (Retires at) = refl
  plain_acts_of c rider (Accesses a) = refl

  plain_acts_working : (c : ℕ) (rider : R) (needed : Option (Kind × ℕ)) (e : Event) →
      map plain_act (acts_working c rider needed e)
      ≡ acts_working c tt needed e
  plain_acts_working c rider None Nothing = refl
  plain_acts_working c rider (Some (kind, word)) Nothing = refl
  plain_acts_working c rider needed (Retires at) = refl
  plain_acts_working c rider needed (Accesses a) = refl

module _ {R K : Type 0} where
  pub plain_acts : (riding : Riding R) (carrying : Carrying K) (rider : R) (s : State R K) (m : Move) →
      map plain_act (acts riding carrying rider s m)
      ≡ acts none_riding none_carrying tt (plain s) m
  plain_acts riding carrying rider s (CoreMove c) =
      plain_acts_working c rider (need_access (need s.image (core_at s.cores c))) (event riding carrying s (CoreMove c))
      ∙ ap (λ (e : Event). acts_working c tt (need_access (need s.image (core_at s.cores c))) e)
      (plain_event riding carrying s (CoreMove c))
  plain_acts riding carrying rider s (RequestMove c) = refl
  plain_acts riding carrying rider s (ResponseMove c) = refl
  plain_acts riding carrying rider s (MessageMove c) =
      ap (λ (later : List (Act (Unit {0}))). Act.TakeMessage c ∷ later)
      (plain_acts_of c rider (event riding carrying s (MessageMove c))
      ∙ ap (λ (e : Event). acts_of c tt e) (plain_event riding carrying s (MessageMove c)))

  -- ---- the step

  pub plain_step : (riding : Riding R) (carrying : Carrying K) (rider : R) (s : State R K) (m : Move) →
      plain (step riding carrying rider s m) ≡ step none_riding none_carrying tt (plain s) m
  plain_step riding carrying rider s m =
      let by : Event → Memory (Unit {0}) (Unit {0}) → PlainState =
      λ (e : Event) (x : Memory (Unit {0}) (Unit {0})). record {
        image = s.image;
        cores =
            cores_after s.image (core_of m) e s.cores;
        memory = x;
      } in
      ap (λ (e : Event). by e (plain_memory (after_acts riding carrying s.memory (acts riding carrying rider s m))))
      (plain_event riding carrying s m)
      ∙ ap (λ (x : Memory (Unit {0}) (Unit {0})). by (event none_riding none_carrying (plain s) m) x)
      (plain_after_acts riding carrying s.memory (acts riding carrying rider s m)
      ∙ ap (λ (list : List (Act (Unit {0}))). after_acts none_riding none_carrying (plain_memory s.memory) list)
      (plain_acts riding carrying rider s m))
