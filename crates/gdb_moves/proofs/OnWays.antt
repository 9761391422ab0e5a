-- A core before whose place of a way something stopped has a next instruction: it's ready there.
use Rattle.std.proofs.Common.{◌≡◌, ℕ, ◌+◌, ◌<◌, List, ◌∷◌, ◌++◌, length, take, drop, get_or, refl, sym, ap, subst}
use Rattle.std.proofs.Common.{◌∙◌, add-one, arith}
use Rattle.std.specs.Prelude.{Bool, true, Some}
use Rattle.std.proofs.Math.Seq.{drop-cons}
use Rattle.std.proofs.lemmas.List.{take-append-drop}
use Rattle.rtr_types.specs.declared.cut.Cut.{Cut}
use Rattle.rtr_types.specs.declared.pairs.Which.{Which}
use Rattle.rv_core.specs.declared.outcome.Outcome.{Outcome}
use Rattle.race_log.specs.declared.recording.Recording.{Recording}
use Rattle.race_log.specs.Validity.{Valid}
use Rattle.replay_core.specs.Answers.{UnderWay, cut_of}
use Rattle.replay_core.specs.Laws.{PlayKnown}
use Rattle.replay_core.specs.Orders.{Ordered, Ready, counts_in}
use Rattle.replay_core.specs.Plans.{Plan, plan_of}
use Rattle.replay_core.specs.Play.{play}
use Rattle.replay_core.proofs.Lists.{ordered_on}
use Rattle.replay_core.proofs.Places.{play_known}
use Rattle.replay_audit.specs.Audits.{IsInstrOf}
use Rattle.cut_replay.specs.ClosedCuts.{IsClosed, IsContained, count_in}
use Rattle.cut_replay.specs.CutStates.{IsStateAt}
use Rattle.cut_moves.proofs.Along.{way_ordered}
use Rattle.cut_moves.proofs.Fronts.{count_is}
use Rattle.cut_moves.proofs.Rounds.{rounds_ordered}
use Rattle.cut_moves.specs.Rounds.{rounds_of}
use Rattle.cut_moves.specs.Steps.{next_in}
use Rattle.cut_moves.specs.Ways.{ClosedUnder}
use Rattle.debug_place.specs.Backs.{GoesBack, way_back}
use Rattle.debug_place.specs.Places.{IsReplayAt, Placed, Stands, cut_at, plan_at}
use Rattle.debug_place.specs.Stops.{IsFirstStop, way_to}
use Rattle.debug_place.proofs.OwnCuts.{its_counts, known, on_the_way}

-- a closed cut is closed under the log's edges
closed_under : (which : Which) (r : Recording) (cut : Cut) → IsClosed which r cut →
    ClosedUnder (plan_of which r).edges (count_in cut)
closed_under which r cut closed e has holds = closed.sources e.from e.to has holds

-- a core that is ready has a next instruction
ready_next : (which : Which) (r : Recording) (s : Outcome) (core : ℕ) → Valid r →
    Ready (plan_of which r) (counts_in s) core →
    IsInstrOf r (next_in (cut_of (plan_of which r) (counts_in s)) core)
ready_next which r s core valid ready =
    let count = count_is which r valid (counts_in s) core
    (let all = valid.each_core in let inside = ready.inside in omega arith) in
    let below = ready.below in
    record { core = ready.inside; some = omega arith; most = omega arith }

-- and so has a place of the same recording and log, where the core is ready
next_there : (old mid : Placed) (core : ℕ) → Valid old.recording → mid.recording ≡ old.recording →
    mid.which ≡ old.which → Ready (plan_at old) (counts_in mid.state) core →
    IsInstrOf mid.recording (next_in (cut_at mid) core)
next_there old mid core valid same_recording same_which ready =
    let next = ready_next old.which old.recording mid.state core valid ready in
    subst (λ (w : Which).
    IsInstrOf mid.recording (next_in (cut_of (plan_of w mid.recording) (counts_in mid.state)) core))
    (sym same_which)
    (subst (λ (r : Recording). IsInstrOf r (next_in (cut_of (plan_of old.which r) (counts_in mid.state)) core))
    (sym same_recording) next)

-- the place's replay
abbrev as_replay : Placed → UnderWay
as_replay place = record { plan = plan_at place; state = place.state; roomy = true }

stands_at : (place : Placed) → Stands place → IsReplayAt place.which place.recording (cut_at place) (as_replay place)
stands_at place stands = record { plan_is = refl; closed = stands.closed; state = stands.state }

-- at a place of the way to a closed cut the core is ready, by the places before
ready_before : (old : Placed) (to : Cut) (front rest : List ℕ) (core : ℕ) → Stands old → Valid old.recording →
    IsClosed old.which old.recording to → IsContained (cut_at old) to → way_to old to ≡ front ++ core ∷ rest →
    Ready (plan_at old) (counts_in (play (plan_at old) old.state front)) core
ready_before old to front rest core stands valid closed within split =
    let p : Plan = plan_at old in
    let at = stands_at old stands in
    let same : count_in (cut_at old) ≡ counts_in old.state = its_counts at in
    let along : Ordered p (count_in (cut_at old)) (way_to old to) =
    way_ordered p (count_in (cut_at old)) (count_in to) (rounds_of old.which old.recording) (rounds_ordered p)
    (closed_under old.which old.recording to closed) within in
    let parted : Ordered p (counts_in old.state) (front ++ core ∷ rest) =
    subst (λ (f : ℕ → ℕ). Ordered p f (front ++ core ∷ rest)) same
    (subst (λ (l : List ℕ). Ordered p (count_in (cut_at old)) l) split along) in
    let both = (ordered_on p (counts_in old.state) front (core ∷ rest)).0 parted in
    let here : PlayKnown p (counts_in old.state) old.state = known (on_the_way at to valid closed within) in
    let there = play_known p (counts_in old.state) old.state front here both.0 in
    subst (λ (f : ℕ → ℕ). Ready p f core) (sym there.counts) both.1.0

pub next_forward : (test : Plan → Outcome → ℕ → Bool) (old mid : Placed) (to : Cut) (core : ℕ) → Stands old →
    Valid old.recording → IsClosed old.which old.recording to → IsContained (cut_at old) to →
    mid.recording ≡ old.recording → mid.which ≡ old.which →
    IsFirstStop test (plan_at old) old.state (way_to old to) core mid.state →
    IsInstrOf mid.recording (next_in (cut_at mid) core)
next_forward test old mid to core stands valid closed within same_recording same_which first =
    let p : Plan = plan_at old in
    let ready : Ready p (counts_in mid.state) core =
    subst (λ (s : Outcome). Ready p (counts_in s) core) (sym first.state)
    (ready_before old to first.front first.rest core stands valid closed within first.split) in
    next_there old mid core valid same_recording same_which ready

-- and so at a place of the way back to a closed cut, by the places before, from the state there
module _ (old : Placed) (to : Cut) (there : Outcome) (stands : Stands old) (valid : Valid old.recording)
    (closed : IsClosed old.which old.recording to) (within : IsContained to (cut_at old))
    (state : IsStateAt old.which old.recording to there) where
  abbrev begins : UnderWay
  begins = record { plan = plan_at old; state = there; roomy = true }

  at_there : IsReplayAt old.which old.recording to begins
  at_there = record { plan_is = refl; closed = closed; state = state }

  known_there : PlayKnown (plan_at old) (counts_in there) there
  known_there = known (on_the_way at_there (cut_at old) valid stands.closed within)

  ready_behind : (i : ℕ) → i < length (way_back old to) →
      Ready (plan_at old) (counts_in (play (plan_at old) there (take i (way_back old to))))
      (get_or (way_back old to) i 0)
  ready_behind i inside =
      let p : Plan = plan_at old in
      let places : List ℕ = way_back old to in
      let along : Ordered p (count_in to) places =
      way_ordered p (count_in to) (count_in (cut_at old)) (rounds_of old.which old.recording) (rounds_ordered p)
      (closed_under old.which old.recording (cut_at old) stands.closed) within in
      let split : places ≡ take i places ++ get_or places i 0 ∷ drop (i + 1) places =
      sym (take-append-drop i places)
      ∙ ap (λ rest. take i places ++ rest)
      (drop-cons places i 0 inside ∙ ap (λ k. get_or places i 0 ∷ drop k places) (sym (add-one i))) in
      let parted : Ordered p (counts_in there) (take i places ++ get_or places i 0 ∷ drop (i + 1) places) =
      subst (λ (f : ℕ → ℕ). Ordered p f (take i places ++ get_or places i 0 ∷ drop (i + 1) places))
      (its_counts at_there)
      (subst (λ (l : List ℕ). Ordered p (count_in to) l) split along) in
      let both = (ordered_on p (counts_in there) (take i places) (get_or places i 0 ∷ drop (i + 1) places)).0 parted in
      let known = play_known p (counts_in there) there (take i places) known_there both.0 in
      subst (λ (f : ℕ → ℕ). Ready p f (get_or places i 0)) (sym known.counts) both.1.0

pub next_backward : (test : Plan → Outcome → ℕ → Bool) (old mid : Placed) (to : Cut) (core : ℕ) → Stands old →
    Valid old.recording → IsClosed old.which old.recording to → IsContained to (cut_at old) →
    mid.recording ≡ old.recording → mid.which ≡ old.which → GoesBack test old to mid (Some core) →
    IsInstrOf mid.recording (next_in (cut_at mid) core)
next_backward test old mid to core stands valid closed within same_recording same_which goes =
    let p : Plan = plan_at old in
    let last = goes.ends in
    let ready : Ready p (counts_in mid.state) core =
    subst (λ (s : Outcome). Ready p (counts_in s) core) (sym last.state)
    (subst (λ (c : ℕ). Ready p (counts_in (play p goes.there (take last.number (way_back old to)))) c) last.core_is
    (ready_behind old to goes.there stands valid closed within goes.state last.number last.inside)) in
    next_there old mid core valid same_recording same_which ready
