-- What the clerk that keeps loads accepts, and what it comes to. Of what is told in a step the first alone may be
-- noted, so that room for one load of each core is enough.
use Rattle.std.proofs.Common.{◌≡◌, ◌∙◌, ap, subst, sym, ℕ, ◌<◌, List, [], ◌∷◌, length, Some}
use Rattle.std.specs.Prelude.{IsTrue}
use Rattle.std.proofs.lemmas.List.FromFn.{length-map-range_with_len}
use Rattle.access_times.specs.Riding.{Carrying, Riding}
use Rattle.rtr_types.specs.declared.access.Access.{Access}
use Rattle.rtr_types.specs.declared.instr.Instr.{Instr}
use Rattle.rv_core.specs.declared.outcome.LoadNote.{LoadNote}
use Rattle.schedule_pick.specs.Choices.{Choices, choice_at}
use Rattle.run_steps.specs.Ways.{IsUnderWay}
use Rattle.load_lists.specs.Lists.{LoadRooms}
use Rattle.tso_clerk.specs.Telling.{AcceptsAll, AcceptsOne, TellsAll, TellsOne}
use Rattle.tso_outcome.specs.Loads.{loads_after, loads_told}
use Rattle.tso_outcome.specs.Outcomes.{StandsAt, told_loads}
use Rattle.tso_outcome.proofs.Behind.{AreAlone, AloneBehind, alone_behind, inside_next}
use Rattle.tso_state.specs.declared.moves.Move.{Move}
use Rattle.tso_state.specs.Events.{Told, Alone, Ordered, Logged, instr_told}
use Rattle.tso_state.specs.Moves.{core_of}
use Rattle.tso_plain.specs.Plain.{plain}
use Rattle.tso_plain.proofs.ForgetfulSteps.{plain_told as forgets_told}
use Rattle.tso_state.specs.Runs.{chosen, plain_told}
use Rattle.tso_state.specs.States.{PlainState, State, core_at}
use Rattle.tso_state.specs.Steps.{event, told}
use Rattle.tso_outcome.proofs.Behind.{AreInside}
use Rattle.run_steps.specs.Clerks.{Accepts, ToldLocal, ToldLogged, ToldTouch}

-- what the clerk's calls do
abbrev pub local : (K : Type 0) → LoadRooms → Instr → K → LoadRooms → Type 0
local K c i k d = ToldLocal c d

abbrev pub touch : (R K : Type 0) → LoadRooms → R → Access → K → LoadRooms → R → Type 0
touch R K c r a k d q = ToldTouch c r a d q

abbrev pub logged : (K : Type 0) → LoadRooms → Instr → ℕ → ℕ → K → LoadRooms → Type 0
logged K c i w v k d = ToldLogged c i w v d

abbrev pub accepts : LoadRooms → Instr → Type 0
accepts c i = Accepts c i

abbrev pub alone : LoadRooms → Instr → Type 0
alone c i = Unit {0}

module _ {R K : Type 0} (carrying : Carrying K) (found : R) where
  accepts_behind : (list : List Told) → AreAlone list → (carry : K) (c : LoadRooms) →
      AcceptsAll accepts alone (local K) (touch R K) (logged K) carrying list carry c found
  accepts_behind [] are carry c = tt
  accepts_behind (Alone at ∷ list) are carry c =
      (tt, λ after left told. accepts_behind list are (carrying.retired carry at) after)
  accepts_behind (Ordered a ∷ list) are carry c = absurd are
  accepts_behind (Logged at word value ∷ list) are carry c = absurd are

  accepts_first : (e : Told) (c : LoadRooms) → (instr_told e).core < length c.lists → IsTrue c.roomy →
      AcceptsOne accepts alone e c
  accepts_first (Alone at) c inside roomy = tt
  accepts_first (Ordered a) c inside roomy = record { core = inside; roomy = roomy }
  accepts_first (Logged at word value) c inside roomy = record { core = inside; roomy = roomy }

  -- the clerk accepts what a step tells
  pub accepts_told : (list : List Told) (carry : K) (c : LoadRooms) → AloneBehind list →
      AreInside (length c.lists) list → IsTrue c.roomy →
      AcceptsAll accepts alone (local K) (touch R K) (logged K) carrying list carry c found
  accepts_told [] carry c behind inside roomy = tt
  accepts_told (e ∷ list) carry c behind inside roomy = (
    accepts_first e c inside.0 roomy,
    λ after left told. accepts_behind list behind (carrying.retired carry (instr_told e)) after,
  )

  one_told : (e : Told) (carry : K) (c d : LoadRooms) (left : R) →
      TellsOne (local K) (touch R K) (logged K) e carry c found d left → d.lists ≡ loads_after c.lists e
  one_told (Alone at) carry c d left told = told
  one_told (Ordered a) carry c d left told = told.loads
  one_told (Logged at word value) carry c d left told = told

  -- and has it noted then
  pub all_told_loads : (list : List Told) (carry : K) (c d : LoadRooms) (left : R) →
      TellsAll (local K) (touch R K) (logged K) carrying list carry c found d left → d.lists ≡ loads_told c.lists list
  all_told_loads [] carry c d left is = ap (λ (l : LoadRooms). l.lists) is
  all_told_loads (e ∷ list) carry c d left told =
      let next = carrying.retired carry (instr_told e) in
      all_told_loads list next told.0 d left told.2
      ∙ ap (λ (lists : List (List LoadNote)). loads_told lists list) (one_told e next c told.0 left told.1)

-- a machine in this state, with these loads told and these choices left, stands at some moment of a run
abbrev pub IsRunning : PlainState → List (List LoadNote) → Choices → Type 0
IsRunning s loads rest = IsUnderWay (λ image params schedule t. StandsAt image params schedule t s loads rest)

-- what the next choice of a run tells is of the clerk's cores
pub running_inside : (s : PlainState) (loads : List (List LoadNote)) (rest : Choices) (m : Move) →
    IsRunning s loads rest → chosen s (choice_at rest 0) ≡ Some m → AreInside (length loads) (plain_told s m)
running_inside s loads rest m running is =
    let stands = running.stands_so in
    subst (λ (n : ℕ). AreInside n (plain_told s m)) (sym (ap length stands.loads_are ∙ counted))
    (inside_next running.image running.params running.schedule running.t s rest m running.fits stands.runs is)
  where
    counted : length (told_loads running.image running.params (choice_at running.schedule) running.t)
        ≡ running.params.cores
    counted = length-map-range_with_len _ 0 running.params.cores

-- so the clerk accepts what that choice tells, while it has room
pub accepts_next : {R K : Type 0} (riding : Riding R) (carrying : Carrying K) (s : State R K) (m : Move) (carry : K)
    (found : R) (c : LoadRooms) (loads : List (List LoadNote)) (rest : Choices) → IsRunning (plain s) loads rest →
    chosen (plain s) (choice_at rest 0) ≡ Some m → c.lists ≡ loads → IsTrue c.roomy →
    AcceptsAll accepts alone (local K) (touch R K) (logged K) carrying (told riding carrying s m) carry c found
accepts_next {R} {K} riding carrying s m carry found c loads rest running is same roomy =
    accepts_told carrying found (told riding carrying s m) carry c
    (alone_behind (core_at s.cores (core_of m)) (event riding carrying s m))
    (subst (λ (lists : List (List LoadNote)). AreInside (length lists) (told riding carrying s m)) (sym same)
    (subst (AreInside (length loads)) (sym (forgets_told riding carrying s m))
    (running_inside (plain s) loads rest m running is)))
    roomy
