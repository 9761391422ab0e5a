-- Each state of each run of a machine with times is timely.
use Rattle.std.proofs.Common.{◌≡◌, refl, subst, Bool, true, false, List, [], ◌∷◌}
use Rattle.std.specs.Prelude.{if◌then◌else◌, reverse}
use Rattle.access_times.specs.Riding.{Carrying}
use Rattle.access_times.specs.Times.{times_riding}
use Rattle.access_times.specs.declared.times.Times.{Times}
use Rattle.clock_core.specs.declared.clock.Clock.{Clock}
use Rattle.rtr_types.specs.declared.access.Access.{Access}
use Rattle.machine_invariant.specs.Holds.{MachineHolds}
use Rattle.msi_memory.specs.declared.port.Port.{Port}
use Rattle.msi_memory.specs.Memories.{rider_at}
use Rattle.msi_state.specs.Events.{Event, Nothing, Retires, Accesses}
use Rattle.msi_state.specs.Steps.{enabled, event, retiring, step}
use Rattle.machine_invariant.proofs.StartInvariant.{holds_start}
use Rattle.machine_invariant.proofs.MoveInvariant.{holds_kept}
use Rattle.machine_times.proofs.MetRiders.{meet_alike}
use Rattle.machine_times.proofs.NewMachine.{machine_start}
use Rattle.machine_times.proofs.RiderLaws.{times_absorb, times_fresh, times_notes}
use Rattle.machine_times.proofs.MoveTimes.{timed_step, finds_exact}
use Rattle.machine_times.proofs.NotedRiders.{event_reversed}
use Rattle.machine_times.specs.Retirements.{Retirement, StandsAfter, MachineStandsFor, RiderFits, RiderNotes}
use Rattle.machine_times.specs.Retirements.{with_event}
use Rattle.machine_times.specs.TimedRuns.{TimedMove, TimedState, rider_noted, timed_taking, timed_run, timed_start}
use Rattle.machine_times.specs.TimedRuns.{TimedRunLaw}
use Rattle.machine_times.specs.TimedSteps.{times_parts}

module _ {K : Type 0} where
  noted_fits : (e : Event) (port : Port Times K) (clock : Clock) →
      RiderFits times_parts clock (rider_noted e port clock) e port
  noted_fits Nothing port clock a is = absurd cc
  noted_fits (Retires at) port clock a is = absurd cc
  noted_fits (Accesses b) port clock a is =
      subst (λ (x : Access).
      RiderNotes times_parts (record { access = x; clock = clock }) (rider_at times_riding port x.word)
      (rider_noted (Accesses b) port clock)) same
      (times_notes b clock (rider_at times_riding port b.word))
    where
      same : b ≡ a
      same = cc

  record Stands (carrying : Carrying K) (t : TimedState K) : Type 0 where
    holds : MachineHolds times_riding carrying t.state
    stands : MachineStandsFor times_parts carrying t.list t.state

  taken_stands : (carrying : Carrying K) (t : TimedState K) (m : TimedMove) → Stands carrying t →
      Stands carrying (timed_taking carrying t m)
  taken_stands carrying t m h = by (enabled times_riding carrying t.state m.move) (λ is. moved is)
    where
      e : Event
      e = event times_riding carrying t.state m.move

      rider : Times
      rider = rider_noted e (retiring times_riding carrying t.state m.move) m.clock

      next : TimedState K
      next = record { state = step times_riding carrying rider t.state m.move; list = with_event e m.clock t.list }

      moved : enabled times_riding carrying t.state m.move ≡ true → Stands carrying next
      moved is =
          record {
            holds = holds_kept times_riding carrying t.state m.move rider is h.holds;
            stands = subst (λ (l : List Retirement). StandsAfter times_parts carrying l next.state)
                (event_reversed e m.clock t.list)
                (timed_step times_parts carrying times_absorb (reverse t.list) t.state m.move rider m.clock h.holds is
                (noted_fits e (retiring times_riding carrying t.state m.move) m.clock) h.stands);
          }

      by : (test : Bool) → (test ≡ true → Stands carrying next) → Stands carrying (if test then next else t)
      by true f = f refl
      by false f = h

  run_stands : (carrying : Carrying K) (t : TimedState K) (ms : List TimedMove) → Stands carrying t →
      Stands carrying (timed_run carrying t ms)
  run_stands carrying t [] h = h
  run_stands carrying t (m ∷ ms) h = run_stands carrying (timed_taking carrying t m) ms (taken_stands carrying t m h)

  pub timed_run_law : (carrying : Carrying K) → TimedRunLaw carrying
  timed_run_law carrying image cores limit ms few small =
      let start : TimedState K = timed_start carrying image cores limit in
      let t : TimedState K = timed_run carrying start ms in
      let h = run_stands carrying start ms
      (record {
        holds = holds_start times_riding carrying image cores limit few small;
        stands = machine_start times_parts carrying times_fresh image cores limit;
      }) in
      record {
        stands = h.stands;
        finds = λ m e a is. finds_exact times_parts carrying times_absorb (reverse t.list) t.state m a h.holds e is
            h.stands;
        alike = λ m e. meet_alike times_parts carrying t.list t.state m h.holds e h.stands;
      }
