-- What the recorder's clerk accepts, and what it comes to by what a step tells. Of that the first alone may be an
-- access or a logged load, so that room for one of each is enough; the others are next ones of their cores by their
-- counts.
use Rattle.std.proofs.Common.{◌≡◌, ◌∙◌, refl, sym, ap, subst, ℕ, List, [], ◌∷◌, length}
use Rattle.std.specs.Prelude.{IsTrue}
use Rattle.access_times.specs.Riding.{none_carrying}
use Rattle.access_times.specs.Times.{times_noted, times_riding}
use Rattle.access_times.specs.declared.times.Times.{Times}
use Rattle.rtr_types.specs.declared.access.Access.{Access}
use Rattle.rtr_types.specs.declared.instr.Instr.{Instr}
use Rattle.msi_memory.specs.declared.port.Port.{Port}
use Rattle.msi_state.specs.Events.{rider_of_event}
use Rattle.online_reduce.specs.Reduced.{IsNext, Reduced, clock_of, counted}
use Rattle.tso_clerk.specs.Telling.{AcceptsAll, TellsAll}
use Rattle.tso_records.specs.Standings.{ordering_of}
use Rattle.tso_outcome.proofs.Behind.{AreAlone, AloneBehind}
use Rattle.tso_records.specs.Standings.{AreNextOf, reduced_told, times_left}
use Rattle.tso_state.specs.Events.{Event, Nothing, Executes, Buffers, Performs, Drains, Logs, Told, Alone, Ordered}
use Rattle.tso_state.specs.Events.{Logged, tellings}
use Rattle.tso_state.specs.States.{BufferedCore}
use Rattle.tso_recordings.specs.Plays.{AreInside}
use Rattle.tso_record.specs.Clerks.{Accepts, Noted, ToldLocal, ToldLogged, ToldTouch}
use Rattle.tso_record.proofs.ToldValues.{values_behind}

-- what the clerk's calls do, and what it accepts
abbrev pub local : Noted → Instr → Unit {0} → Noted → Type 0
local c i k d = ToldLocal c i d

abbrev pub touch : Noted → Times → Access → Unit {0} → Noted → Times → Type 0
touch c r a k d q = ToldTouch c r a d q

abbrev pub logged : Noted → Instr → ℕ → ℕ → Unit {0} → Noted → Type 0
logged c i w v k d = ToldLogged c i w v d

abbrev pub accepts : Noted → Instr → Type 0
accepts c i = Accepts c i

abbrev pub alone : Noted → Instr → Type 0
alone c i = IsNext c.reduction.state i

-- ---- what it accepts

module _ (found : Times) where
  abbrev AcceptsThese : List Told → Noted → Type 0
  AcceptsThese list c = AcceptsAll accepts alone local touch logged none_carrying list tt c found

  accepts_behind : (list : List Told) → AreAlone list → (r : Reduced) → AreNextOf r found list → (c : Noted) →
      c.reduction.state ≡ r → AcceptsThese list c
  accepts_behind [] are r next c is = tt
  accepts_behind (Alone at ∷ list) are r next c is = (
    subst (λ (u : Reduced). IsNext u at) (sym is) next.0,
    λ after left told. accepts_behind list are _ next.1 after (told.reduction ∙ ap (λ (u : Reduced). counted u at) is),
  )
  accepts_behind (Ordered a ∷ list) are r next c is = absurd are
  accepts_behind (Logged at word value ∷ list) are r next c is = absurd are

  pub accepts_told : (list : List Told) → AloneBehind list → (c : Noted) → AreNextOf c.reduction.state found list →
      AreInside (length c.values) list → IsTrue c.reduction.ready → IsTrue c.roomy → AcceptsThese list c
  accepts_told [] behind c next inside ready roomy = tt
  accepts_told (Alone at ∷ list) behind c next inside ready roomy = (
    next.0,
    λ after left told. accepts_behind list behind _ next.1 after told.reduction,
  )
  accepts_told (Ordered a ∷ list) behind c next inside ready roomy = (
    record { next = next.0; ready = ready; core = inside.0; roomy = roomy },
    λ after left told. accepts_behind list behind _ next.1 after told.reduction,
  )
  accepts_told (Logged at word value ∷ list) behind c next inside ready roomy = (
    record { next = next.0; ready = ready; core = inside.0; roomy = roomy },
    λ after left told. accepts_behind list behind _ next.1 after told.reduction,
  )

  -- ---- what it comes to

  abbrev TellsThese : List Told → Noted → Noted → Times → Type 0
  TellsThese list c d left = TellsAll local touch logged none_carrying list tt c found d left

  pub all_reduced : (list : List Told) (c d : Noted) (left : Times) → TellsThese list c d left →
      d.reduction.state ≡ reduced_told c.reduction.state found list
  all_reduced [] c d left is = ap (λ (n : Noted). n.reduction.state) is
  all_reduced (Alone at ∷ list) c d left told =
      all_reduced list told.0 d left told.2 ∙ ap (λ (r : Reduced). reduced_told r found list) told.1.reduction
  all_reduced (Ordered a ∷ list) c d left told =
      all_reduced list told.0 d left told.2 ∙ ap (λ (r : Reduced). reduced_told r found list) told.1.reduction
  all_reduced (Logged at word value ∷ list) c d left told =
      all_reduced list told.0 d left told.2 ∙ ap (λ (r : Reduced). reduced_told r found list) told.1.reduction

  pub all_values : (list : List Told) (c d : Noted) (left : Times) → TellsThese list c d left →
      d.values ≡ values_behind c.values list
  all_values [] c d left is = ap (λ (n : Noted). n.values) is
  all_values (Alone at ∷ list) c d left told =
      all_values list told.0 d left told.2 ∙ ap (λ (v : List (List (ℕ × ℕ))). values_behind v list) told.1.values
  all_values (Ordered a ∷ list) c d left told =
      all_values list told.0 d left told.2 ∙ ap (λ (v : List (List (ℕ × ℕ))). values_behind v list) told.1.values
  all_values (Logged at word value ∷ list) c d left told =
      all_values list told.0 d left told.2 ∙ ap (λ (v : List (List (ℕ × ℕ))). values_behind v list) told.1.values

-- the times that it leaves are those of the reduction
touched_times : (a : Access) (c d : Noted) (found left : Times) → ToldTouch c found a d left →
    left ≡ times_left c.reduction.state (ordering_of (Performs a)) found
touched_times a c d found left told =
    told.times ∙ ap (λ (r : Reduced). times_noted a found (clock_of r a.at.core)) told.reduction

pub left_is : (t : BufferedCore) (e : Event) (p q : Port Times (Unit {0})) (c d : Noted) →
    TellsAll local touch logged none_carrying (tellings t e) tt c
    (rider_of_event times_riding (ordering_of e) p) d (rider_of_event times_riding (ordering_of e) q) →
    rider_of_event times_riding (ordering_of e) q
    ≡ times_left c.reduction.state (ordering_of e) (rider_of_event times_riding (ordering_of e) p)
left_is t Nothing p q c d told = refl
left_is t (Executes at) p q c d told = refl
left_is t (Buffers at pending) p q c d told = refl
left_is t (Performs a) p q c d told =
    touched_times a c told.0 (rider_of_event times_riding (ordering_of (Performs a)) p)
    (rider_of_event times_riding (ordering_of (Performs a)) q) told.1
left_is t (Drains a) p q c d told =
    touched_times a c told.0 (rider_of_event times_riding (ordering_of (Performs a)) p)
    (rider_of_event times_riding (ordering_of (Performs a)) q) told.1
left_is t (Logs at word value) p q c d told = refl
