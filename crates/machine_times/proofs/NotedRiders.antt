-- A clerk that notes with its clocks leaves the rider right.
use Rattle.std.proofs.Common.{◌≡◌, ◌≢◌, ◌∙◌, ap, refl, sym, subst, ℕ, ◌==◌, Bool, true, false, List, [], ◌∷◌, Some}
use Rattle.std.proofs.Common.{None, arith, inl, inr}
use Rattle.std.specs.Prelude.{reverse, if◌then◌else◌}
use Rattle.std.proofs.lemmas.Bool.{cases_eq}
use Rattle.std.proofs.lemmas.Bool.Decides.{nat_tests}
use Rattle.std.proofs.lemmas.List.{reverse-append}
use Rattle.access_times.specs.Riding.{Carrying}
use Rattle.access_times.specs.Times.{times_noted, times_riding}
use Rattle.access_times.specs.declared.times.Times.{Times}
use Rattle.clock_core.specs.declared.clock.Clock.{Clock}
use Rattle.rtr_types.specs.declared.access.Access.{Access}
use Rattle.rtr_types.specs.declared.instr.Instr.{Instr}
use Rattle.msi_memory.specs.declared.port.Port.{Port}
use Rattle.msi_memory.specs.Memories.{rider_at}
use Rattle.msi_state.specs.Events.{Event, Nothing, Retires, Accesses, Tells, rider_of_event}
use Rattle.msi_state.specs.Steps.{event, retiring, step}
use Rattle.machine_times.proofs.RiderLaws.{times_absorb, times_notes}
use Rattle.machine_times.proofs.MoveTimes.{timed_step}
use Rattle.machine_times.specs.Retirements.{Retirement, StandsAfter, after_event, with_event, RiderFits, RiderNotes}
use Rattle.machine_times.specs.TimedSteps.{TimedTold, times_parts, core_of_event, last_clock, ClocksTold}

-- what an event retired, put at the end of the list, comes first when that is turned round
pub event_reversed : (e : Event) (clock : Clock) (list : List Retirement) → after_event e clock (reverse list) ≡ reverse
    (with_event e clock list)
event_reversed Nothing clock list = refl
event_reversed (Retires at) clock list =
    sym (reverse-append list ((record { at = at; access = None; clock = clock }) ∷ []))
event_reversed (Accesses a) clock list =
    sym (reverse-append list ((record { at = a.at; access = Some a; clock = clock }) ∷ []))

module _ {C K : Type 0} where
  told_fits : (told_local : C → Instr → K → C → Type 0) (told_touch : C → Times → Access → K → C → Times →
      Type 0) (clock : C → ℕ → Clock) →
      ((c d : C) (before after : Times) (a : Access) (k : K) → told_touch c before a k d after →
      after ≡ times_noted a before (clock d a.at.core)) →
      (e : Event) (port : Port Times K) (old new : C) (rider : Times) (k : K) →
      Tells told_local told_touch e k old (rider_of_event times_riding e port) new rider →
      RiderFits times_parts (clock new (core_of_event e)) rider e port
  told_fits told_local told_touch clock notes Nothing port old new rider k told a is = absurd cc
  told_fits told_local told_touch clock notes (Retires at) port old new rider k told a is = absurd cc
  told_fits told_local told_touch clock notes (Accesses b) port old new rider k told a is =
      subst (λ (x : Access). RiderNotes times_parts (record { access = x; clock = clock new b.at.core })
      (rider_at times_riding port x.word) rider) same here
    where
      same : b ≡ a
      same = cc

      here : RiderNotes times_parts (record { access = b; clock = clock new b.at.core })
          (rider_at times_riding port b.word) rider
      here = subst (λ (r : Times). RiderNotes times_parts (record { access = b; clock = clock new b.at.core })
          (rider_at times_riding port b.word) r)
          (sym (notes old new (rider_at times_riding port b.word) rider b k told)) (times_notes b (clock new b.at.core)
          (rider_at times_riding port b.word))

  pub timed_told : (told_local : C → Instr → K → C → Type 0) (told_touch : C → Times → Access → K → C → Times →
      Type 0) (clock : C → ℕ → Clock) →
      ((c d : C) (before after : Times) (a : Access) (k : K) → told_touch c before a k d after →
      after ≡ times_noted a before (clock d a.at.core)) →
      (carrying : Carrying K) → TimedTold told_local told_touch clock carrying
  timed_told told_local told_touch clock notes carrying list s m old new rider k p e told f =
      subst (λ (h : List Retirement). StandsAfter times_parts carrying h (step times_riding carrying rider s m))
      (event_reversed (event times_riding carrying s m) (clock new (core_of_event (event times_riding carrying s m)))
      list)
      (timed_step times_parts carrying times_absorb (reverse list) s m rider
      (clock new (core_of_event (event times_riding carrying s m))) p e
      (told_fits told_local told_touch clock notes (event times_riding carrying s m) (retiring times_riding carrying s
      m) old new rider k told) f)

-- ---- the clerk's clocks

clocks_next : (old new : ℕ → Clock) (r : Retirement) (h : List Retirement) → new r.at.core ≡ r.clock →
    ((core : ℕ) → core ≢ r.at.core → new core ≡ old core) →
    ((core : ℕ) → old core ≡ last_clock h core) → (core : ℕ) → new core ≡ last_clock (r ∷ h) core
clocks_next old new r h own others last core = elim (cases_eq core r.at.core) [
  | inl e ↦ let t : (r.at.core == core) ≡ true = grind (arith, nat_tests) in
      ap new e ∙ (own ∙ ap (λ (u : Bool). if u then r.clock else last_clock h core) (sym t))
  | inr n ↦ let t : (r.at.core == core) ≡ false = grind (arith, nat_tests) in
      others core n ∙ (last core ∙ ap (λ (u : Bool). if u then r.clock else last_clock h core) (sym t))
]

pub clocks_told : {C K : Type 0} (told_local : C → Instr → K → C → Type 0) (told_touch : C → Times → Access → K → C →
    Times → Type 0) (clock : C → ℕ → Clock)
    → ((c d : C) (at : Instr) (k : K) → told_local c at k d → (core : ℕ) → core ≢ at.core → clock d core ≡ clock c core)
    → ((c d : C) (before after : Times) (a : Access) (k : K) → told_touch c before a k d after → (core : ℕ) →
    core ≢ a.at.core → clock d core ≡ clock c core)
    → ClocksTold told_local told_touch clock
clocks_told told_local told_touch clock local_keeps touch_keeps list Nothing k old new before after told last =
    λ core. ap (λ (c : _). clock c core) told ∙ last core
clocks_told told_local told_touch clock local_keeps touch_keeps list (Retires at) k old new before after told last =
    let r : Retirement = record { at = at; access = None; clock = clock new at.core } in
    λ core. clocks_next (clock old) (clock new) r (reverse list) refl (local_keeps old new at k told) last core
    ∙ ap (λ (h : List Retirement). last_clock h core) (event_reversed (Retires at) (clock new at.core) list)
clocks_told told_local told_touch clock local_keeps touch_keeps list (Accesses a) k old new before after told last =
    let r : Retirement = record { at = a.at; access = Some a; clock = clock new a.at.core } in
    λ core. clocks_next (clock old) (clock new) r (reverse list) refl (touch_keeps old new before after a k told) last
    core
    ∙ ap (λ (h : List Retirement). last_clock h core) (event_reversed (Accesses a) (clock new a.at.core) list)
