-- What a step leaves where riders record times. A step tells of at most one ordered access, and of that first. The
-- clerk leaves its rider with the access noted by the clock that it then has for the core, so that the law of a step
-- with times goes on from there; what is told behind it touches no rider.
use Rattle.std.proofs.Common.{◌≡◌, ap, sym, subst, ℕ, Bool, true, false, List, [], ◌∷◌}
use Rattle.std.specs.Prelude.{if◌then◌else◌}
use Rattle.access_times.specs.Riding.{Carrying}
use Rattle.access_times.specs.Times.{times_noted, times_riding}
use Rattle.access_times.specs.declared.times.Times.{Times}
use Rattle.clock_core.specs.Counts.{no_counts}
use Rattle.clock_core.specs.declared.clock.Clock.{Clock}
use Rattle.link_order.specs.Queue.{is_nil}
use Rattle.rtr_types.specs.declared.access.Access.{Access}
use Rattle.rtr_types.specs.declared.instr.Instr.{Instr}
use Rattle.machine_times.specs.History.{NotedAccess}
use Rattle.machine_times.specs.Retirements.{IsExactRider, RiderNotes, noted_after}
use Rattle.machine_times.specs.TimedSteps.{times_parts}
use Rattle.machine_times.proofs.RiderLaws.{times_absorb, times_notes}
use Rattle.msi_memory.specs.declared.port.Port.{Port}
use Rattle.msi_memory.specs.Memories.{rider_at}
use Rattle.msi_state.specs.Events.{Event as ClerkEvent, Accesses, rider_of_event}
use Rattle.tso_state.specs.declared.moves.Move.{Move}
use Rattle.tso_state.specs.Events.{Event, Nothing, Executes, Buffers, Performs, Drains, Logs, Alone, tellings}
use Rattle.tso_state.specs.Moves.{core_of}
use Rattle.tso_state.specs.States.{BufferedCore, State, core_at}
use Rattle.tso_state.specs.Steps.{enabled, event}
use Rattle.tso_clerk.specs.Telling.{TellsAll}
use Rattle.tso_data.specs.Orders.{ordering_of}
use Rattle.tso_invariant.specs.Holds.{TsoHolds}
use Rattle.tso_times.specs.Timed.{RiderFits, StandsAfter, ordering_port}
use Rattle.tso_times.proofs.MoveTimes.{finds_exact, timed_step}
use Rattle.tso_core.specs.Moving.{StepsTo, TellsOf, rider_left}
use Rattle.tso_core.specs.TimedSteps.{StandsMoved, StandsTold, StepFinds}

module _ {C K : Type 0} (local : C → Instr → K → C → Type 0) (touch : C → Times → Access → K → C → Times → Type 0)
    (logged : C → Instr → ℕ → ℕ → K → C → Type 0) (clock : C → ℕ → Clock)
    (notes : (c d : C) (before after : Times) (a : Access) (k : K) → touch c before a k d after →
    after ≡ times_noted a before (clock d a.at.core)) where
  -- the rider that is left has the access noted with the clerk's clock
  fits : (a : Access) (k : K) (p : Port Times K) (before once : C) (left : Times) →
      touch before (rider_at times_riding p a.word) a k once left →
      RiderFits times_parts (clock once a.at.core) left (Accesses a) p
  fits a k p before once left told b is =
      subst (λ (x : Access). RiderNotes times_parts (record { access = x; clock = clock once a.at.core })
      (rider_at times_riding p x.word) left) same
      (subst (λ (r : Times). RiderNotes times_parts (record { access = a; clock = clock once a.at.core })
      (rider_at times_riding p a.word) r)
      (sym (notes before once (rider_at times_riding p a.word) left a k told))
      (times_notes a (clock once a.at.core) (rider_at times_riding p a.word)))
    where
      same : a ≡ b
      same = cc

  told_stands : (carrying : Carrying K) (t : BufferedCore) (p : Port Times K) (h : List NotedAccess)
      (new : State Times K) (before after : C) (left : Times) (e : Event) →
      ((noted : Clock) → RiderFits times_parts noted left (ordering_of e) p →
      StandsAfter times_parts carrying (noted_after (ordering_of e) noted h) new) →
      TellsAll local touch logged carrying (tellings t e) p.carry before
      (rider_of_event times_riding (ordering_of e) p) after left →
      StandsTold touch clock carrying (tellings t e) p.carry before
      (rider_of_event times_riding (ordering_of e) p) left h new
  told_stands carrying t p h new before after left Nothing stands told = stands no_counts (λ a is. absurd cc)
  told_stands carrying t p h new before after left (Executes at) stands told = by_nil (is_nil t.queue)
    where
      by_nil : (b : Bool) → StandsTold touch clock carrying (if b then Alone at ∷ [] else []) p.carry before
          (rider_of_event times_riding (ordering_of (Executes at)) p) left h new
      by_nil true = stands no_counts (λ a is. absurd cc)
      by_nil false = stands no_counts (λ a is. absurd cc)
  told_stands carrying t p h new before after left (Buffers at x) stands told = stands no_counts (λ a is. absurd cc)
  told_stands carrying t p h new before after left (Performs a) stands told = (
    told.0,
    told.1,
    stands (clock told.0 a.at.core) (fits a (carrying.retired p.carry a.at) p before told.0 left told.1),
  )
  told_stands carrying t p h new before after left (Drains a) stands told = (
    told.0,
    told.1,
    stands (clock told.0 a.at.core) (fits a (carrying.retired p.carry a.at) p before told.0 left told.1),
  )
  told_stands carrying t p h new before after left (Logs at word value) stands told =
      stands no_counts (λ a is. absurd cc)

  pub step_stands : (carrying : Carrying K) (h : List NotedAccess) (old new : State Times K) (m : Move)
      (before after : C) → TsoHolds times_riding carrying old → enabled times_riding carrying old m ≡ true →
      StepsTo times_riding carrying old new m →
      TellsOf local touch logged times_riding carrying old new m before after →
      StandsAfter times_parts carrying h old → StandsMoved touch clock carrying old new m before h
  step_stands carrying h old new m before after holds can_be steps told f =
      let left = rider_left times_riding carrying old new m in
      told_stands carrying (core_at old.cores (core_of m)) (ordering_port times_riding carrying old m) h new before
      after left (event times_riding carrying old m)
      (λ noted fit. subst (λ (s : State Times K). StandsAfter times_parts carrying
      (noted_after (ordering_of (event times_riding carrying old m)) noted h) s) (sym steps)
      (timed_step times_parts carrying times_absorb h old m left noted holds can_be fit f)) told

module _ {K : Type 0} where
  pub step_finds : (carrying : Carrying K) (h : List NotedAccess) (s : State Times K) (m : Move) →
      TsoHolds times_riding carrying s → enabled times_riding carrying s m ≡ true →
      StandsAfter times_parts carrying h s → StepFinds carrying s m h
  step_finds carrying h s m holds can_be f a is =
      subst (λ (r : Times). IsExactRider times_parts h a r)
      (sym (ap (λ (e : ClerkEvent). rider_of_event times_riding e (ordering_port times_riding carrying s m)) is))
      (finds_exact times_parts carrying times_absorb h s m a holds can_be is f)
