-- On cores with store buffers the clerk has the accesses that the run ordered so far, after each choice and at the end.
use Rattle.std.proofs.Common.{◌≡◌, ◌∙◌, ap, sym, ℕ, suc, List, [], ◌∷◌, ◌++◌, true, false, append-nil, append_assoc}
use Rattle.std.specs.Prelude.{IsTrue}
use Rattle.access_times.specs.Riding.{Carrying, Riding}
use Rattle.image_mem.specs.Contents.{Contents}
use Rattle.roomy_lists.specs.Lists.{Listed}
use Rattle.rtr_types.specs.Parameters.{Fits}
use Rattle.rtr_types.specs.declared.access.Access.{Access}
use Rattle.rtr_types.specs.declared.instr.Instr.{Instr}
use Rattle.rtr_types.specs.declared.params.Params.{Params}
use Rattle.schedule_pick.specs.Choices.{Choices, choice_at}
use Rattle.tso_clerk.specs.Telling.{AcceptsAll, TellsAll, TellsOne}
use Rattle.tso_outcome.proofs.Behind.{AloneBehind, AreAlone, alone_behind}
use Rattle.tso_outcome.proofs.RunPlaces.{Steps, runs_end, runs_next, runs_start, told_next}
use Rattle.tso_state.specs.Events.{Told, Alone, Ordered, Logged, instr_told}
use Rattle.tso_state.specs.Moves.{core_of}
use Rattle.tso_state.specs.Runs.{accesses, all_told, opening_state, plain_told}
use Rattle.tso_state.specs.States.{PlainState, State, all_done, core_at}
use Rattle.tso_state.specs.Steps.{event, told}
use Rattle.tso_state.specs.declared.moves.Move.{Move}
use Rattle.tso_told.proofs.OrderedAndLogged.{ordered-append, accesses_told}
use Rattle.tso_told.specs.Played.{ordered_told}
use Rattle.run_accesses.specs.Clerks.{ToldNothing, ToldTouch}
use Rattle.run_accesses.specs.TsoAccesses.{StandsAt, tso_accesses_of}

-- what the clerk's calls do
abbrev pub local : (K : Type 0) → Listed Access → Instr → K → Listed Access → Type 0
local K c i k d = ToldNothing c d

abbrev pub touch : (R K : Type 0) → Listed Access → R → Access → K → Listed Access → R → Type 0
touch R K c r a k d q = ToldTouch c r a d q

abbrev pub logged : (K : Type 0) → Listed Access → Instr → ℕ → ℕ → K → Listed Access → Type 0
logged K c i w v k d = ToldNothing c d

abbrev pub accepts : Listed Access → Instr → Type 0
accepts c i = IsTrue c.ready

abbrev pub alone : Listed Access → Instr → Type 0
alone c i = Unit {0}

module _ {R K : Type 0} (carrying : Carrying K) (found : R) where
  accepts_behind : (list : List Told) → AreAlone list → (carry : K) (c : Listed Access) →
      AcceptsAll accepts alone (local K) (touch R K) (logged K) carrying list carry c found
  accepts_behind [] are carry c = tt
  accepts_behind (Alone at ∷ list) are carry c =
      (tt, λ after left told. accepts_behind list are (carrying.retired carry at) after)
  accepts_behind (Ordered a ∷ list) are carry c = absurd are
  accepts_behind (Logged at word value ∷ list) are carry c = absurd are

  -- the clerk accepts what a step tells
  pub accepts_told : (list : List Told) (carry : K) (c : Listed Access) → AloneBehind list → IsTrue c.ready →
      AcceptsAll accepts alone (local K) (touch R K) (logged K) carrying list carry c found
  accepts_told [] carry c behind roomy = tt
  accepts_told (Alone at ∷ list) carry c behind roomy =
      (tt, λ after left told. accepts_behind list behind (carrying.retired carry at) after)
  accepts_told (Ordered a ∷ list) carry c behind roomy =
      (roomy, λ after left told. accepts_behind list behind (carrying.retired carry a.at) after)
  accepts_told (Logged at word value ∷ list) carry c behind roomy =
      (roomy, λ after left told. accepts_behind list behind (carrying.retired carry at) after)

  -- what the clerk has after one is told, of a list that begins with it
  one_told : (e : Told) (later : List Told) (carry : K) (c d : Listed Access) (left : R) →
      TellsOne (local K) (touch R K) (logged K) e carry c found d left →
      d.items ++ ordered_told later ≡ c.items ++ ordered_told (e ∷ later)
  one_told (Alone at) later carry c d left told = ap (λ (l : List Access). l ++ ordered_told later) told
  one_told (Ordered a) later carry c d left told =
      ap (λ (l : List Access). l ++ ordered_told later) told.kept
      ∙ append_assoc c.items (a ∷ []) (ordered_told later)
  one_told (Logged at word value) later carry c d left told = ap (λ (l : List Access). l ++ ordered_told later) told

  -- and after all of a list are
  pub all_told_kept : (list : List Told) (carry : K) (c d : Listed Access) (left : R) →
      TellsAll (local K) (touch R K) (logged K) carrying list carry c found d left →
      d.items ≡ c.items ++ ordered_told list
  all_told_kept [] carry c d left is = ap (λ (l : Listed Access). l.items) is ∙ sym (append-nil c.items)
  all_told_kept (e ∷ list) carry c d left told =
      let next = carrying.retired carry (instr_told e) in
      all_told_kept list next told.0 d left told.2 ∙ one_told e list next c told.0 left told.1

-- so the clerk accepts what a step tells, while it has room
pub accepts_next : {R K : Type 0} (riding : Riding R) (carrying : Carrying K) (s : State R K) (m : Move) (carry : K)
    (found : R) (c : Listed Access) → IsTrue c.ready →
    AcceptsAll accepts alone (local K) (touch R K) (logged K) carrying (told riding carrying s m) carry c found
accepts_next {R} {K} riding carrying s m carry found c roomy =
    accepts_told carrying found (told riding carrying s m) carry c
    (alone_behind (core_at s.cores (core_of m)) (event riding carrying s m)) roomy

-- before the first choice
pub stands_start : (image : Contents) (params : Params) (schedule : Choices) (s : PlainState) (kept : List Access) →
    s ≡ opening_state image params → kept ≡ [] → StandsAt image params schedule 0 s kept schedule
stands_start image params schedule s kept is none =
    record { runs = runs_start image params schedule s is; kept_are = none }

-- after one more choice
pub stands_next : (image : Contents) (params : Params) (schedule : Choices) (t : ℕ) (s s' : PlainState)
    (kept kept' : List Access) (rest rest' : Choices) (m : Move) →
    all_done s ≡ false → Steps s s' rest rest' m → kept' ≡ kept ++ ordered_told (plain_told s m) →
    StandsAt image params schedule t s kept rest → StandsAt image params schedule (suc t) s' kept' rest'
stands_next image params schedule t s s' kept kept' rest rest' m going steps told stands =
    let choices : ℕ → ℕ = choice_at schedule in
    record {
      runs = runs_next image params schedule t s s' rest rest' m going steps stands.runs;
      kept_are =
          told ∙ ap (λ (list : List Access). list ++ ordered_told (plain_told s m))
          (stands.kept_are ∙ sym (accesses_told image params choices t))
          ∙ sym (ordered-append (all_told image params choices t) (plain_told s m))
          ∙ ap ordered_told (sym (told_next image params schedule t s s' rest rest' m steps stands.runs))
          ∙ accesses_told image params choices (suc t);
    }

-- at the end these are the accesses of the run
pub kept_at_end : (image : Contents) (params : Params) (schedule : Choices) (t : ℕ) (s : PlainState)
    (kept : List Access) (rest : Choices) → Fits params → all_done s ≡ true →
    StandsAt image params schedule t s kept rest → kept ≡ tso_accesses_of image params schedule
kept_at_end image params schedule t s kept rest fits done stands =
    stands.kept_are ∙ ap (accesses image params (choice_at schedule))
    (runs_end image params schedule t s rest fits done stands.runs)
