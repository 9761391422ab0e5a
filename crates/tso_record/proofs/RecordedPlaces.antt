-- Where a run stands that is recorded, from its start to its end: at each choice the machine and the clerk are what
-- `standing_at` has, so that the laws of that function hold of them.
use Rattle.std.proofs.Common.{◌≡◌, ◌∙◌, refl, sym, ap, subst, ℕ, suc, true, false, List, []}
use Rattle.std.proofs.Common.{Some, arith, length}
use Rattle.std.specs.Prelude.{IsTrue, map, replicate}
use Rattle.std.proofs.lemmas.List.FromFn.{length-map-range_with_len}
use Rattle.access_times.specs.Riding.{none_carrying}
use Rattle.access_times.specs.Times.{times_riding}
use Rattle.image_mem.specs.Contents.{Contents}
use Rattle.msi_memory.specs.Memories.{port_at}
use Rattle.rtr_types.specs.Parameters.{Fits}
use Rattle.rtr_types.specs.declared.params.Params.{Params}
use Rattle.schedule_pick.specs.Choices.{Choices, choice_at}
use Rattle.online_reduce.specs.Reduced.{Reduced, unreduced}
use Rattle.tso_core.specs.Moving.{AcceptsOf, StepsTo, TellsOf}
use Rattle.tso_outcome.proofs.Behind.{alone_behind, inside_next}
use Rattle.tso_outcome.proofs.ByCore.{no_items}
use Rattle.tso_outcome.specs.Outcomes.{RunsAt}
use Rattle.tso_outcome.proofs.RunPlaces.{Steps, runs_end, runs_next, runs_start, told_next}
use Rattle.tso_plain.specs.Plain.{plain}
use Rattle.tso_plain.proofs.ForgetfulSteps.{plain_start, plain_told as forgets_told}
use Rattle.tso_records.proofs.TimedRuns.{next_told}
use Rattle.tso_records.specs.Standings.{AreNextOf, Standing, TimedState, found_in, moved_by, next_move, reduced_told}
use Rattle.tso_records.specs.Standings.{ordering_of, ordering_port, standing_at, times_left}
use Rattle.tso_state.specs.declared.moves.Move.{Move}
use Rattle.tso_state.specs.Moves.{core_of}
use Rattle.tso_state.specs.Runs.{chosen, plain_told, run, totals, values_at, values_of}
use Rattle.tso_state.specs.States.{BufferedCore, all_done, core_at, state_start}
use Rattle.tso_state.specs.Steps.{event, step, told}
use Rattle.tso_codec.specs.declared.recording.TsoRecording.{TsoRecording}
use Rattle.tso_recordings.specs.Plays.{AreInside}
use Rattle.tso_recordings.specs.Schedules.{end_of, tso_recording_of}
use Rattle.tso_record.specs.Clerks.{Noted}
use Rattle.run_steps.specs.Ways.{IsUnderWay}
use Rattle.tso_record.specs.Standing.{RecordsAt, last_lists}
use Rattle.tso_record.proofs.ClerkTells.{accepts, accepts_told, all_reduced, all_values, alone, left_is, local, logged}
use Rattle.tso_record.proofs.ClerkTells.{touch}
use Rattle.tso_record.proofs.ToldValues.{values_behind, values_next}

-- ---- the start

pub records_start : (image : Contents) (params : Params) (schedule : Choices) (s : TimedState) (c : Noted) →
    s ≡ state_start times_riding none_carrying image params.cores params.limit →
    c.reduction.state ≡ unreduced params.cores → c.values ≡ replicate params.cores [] →
    RecordsAt image params schedule 0 s c schedule
records_start image params schedule s c is reduced none = record {
  runs = runs_start image params schedule (plain s)
      (ap plain is ∙ plain_start times_riding none_carrying image params.cores params.limit);
  state = is;
  reduction = reduced;
  values = none ∙ sym (no_items (λ (core : ℕ). values_of core []) 0 params.cores (λ core. refl));
}

-- ---- one step

-- the state and the reduction that a move leads to
module _ (w : Standing) (s later : TimedState) (c d : Noted) (m : Move) (here : s ≡ w.state)
    (reduced : c.reduction.state ≡ w.reduction)
    (told_is : TellsOf local touch logged times_riding none_carrying s later m c d) where
  moved_state : StepsTo times_riding none_carrying s later m → later ≡ (moved_by w (Some m)).state
  moved_state steps =
      steps
      ∙ ap (λ rider. step times_riding none_carrying rider s m)
      (left_is (core_at s.cores (core_of m)) (event times_riding none_carrying s m)
      (ordering_port times_riding none_carrying s m) (port_at none_carrying later.memory.ports (core_of m)) c d told_is)
      ∙ ap (λ (r : Reduced). step times_riding none_carrying
      (times_left r (ordering_of (event times_riding none_carrying s m)) (found_in s m)) s m) reduced
      ∙ ap (λ (u : TimedState). step times_riding none_carrying
      (times_left w.reduction (ordering_of (event times_riding none_carrying u m)) (found_in u m)) u m) here

  moved_reduction : d.reduction.state ≡ (moved_by w (Some m)).reduction
  moved_reduction =
      all_reduced (found_in s m) (told times_riding none_carrying s m) c d _ told_is
      ∙ ap (λ (r : Reduced). reduced_told r (found_in s m) (told times_riding none_carrying s m)) reduced
      ∙ ap (λ (u : TimedState). reduced_told w.reduction (found_in u m) (told times_riding none_carrying u m)) here

-- the move that the next choice takes is the one that the standing takes
next_there : (image : Contents) (params : Params) (schedule : Choices) (t : ℕ) (s : TimedState) (c : Noted)
    (rest : Choices) (m : Move) → RecordsAt image params schedule t s c rest →
    chosen (plain s) (choice_at rest 0) ≡ Some m →
    next_move (standing_at image params (choice_at schedule) t) (choice_at schedule t) ≡ Some m
next_there image params schedule t s c rest m h is =
    let number : choice_at rest 0 ≡ choice_at schedule t =
    h.runs.rest_is 0 ∙ ap (choice_at schedule) (omega arith) in
    ap (λ (u : TimedState). chosen (plain u) (choice_at schedule t)) (sym h.state) ∙ ap (chosen (plain s)) (sym number)
    ∙ is

pub records_next : (image : Contents) (params : Params) (schedule : Choices) (t : ℕ) (s later : TimedState)
    (c d : Noted) (rest rest' : Choices) (m : Move) → all_done s ≡ false →
    Steps (plain s) (plain later) rest rest' m → StepsTo times_riding none_carrying s later m →
    TellsOf local touch logged times_riding none_carrying s later m c d →
    RecordsAt image params schedule t s c rest → RecordsAt image params schedule (suc t) later d rest'
records_next image params schedule t s later c d rest rest' m going steps moved told_is h =
    let w : Standing = standing_at image params (choice_at schedule) t in
    let next = next_there image params schedule t s c rest m h steps.taken in
    record {
      runs = runs_next image params schedule t (plain s) (plain later) rest rest' m going steps h.runs;
      state = moved_state w s later c d m h.state h.reduction told_is moved
          ∙ ap (λ o. (moved_by w o).state) (sym next);
      reduction = moved_reduction w s later c d m h.state h.reduction told_is
          ∙ ap (λ o. (moved_by w o).reduction) (sym next);
      values = all_values (found_in s m) (told times_riding none_carrying s m) c d _ told_is
          ∙ ap (values_behind c.values) (forgets_told times_riding none_carrying s m)
          ∙ ap (λ (v : List (List (ℕ × ℕ))). values_behind v (plain_told (plain s) m)) h.values
          ∙ values_next image params (choice_at schedule) t (suc t) (plain_told (plain s) m)
          (told_next image params schedule t (plain s) (plain later) rest rest' m steps h.runs);
    }

-- what shows alike stands alike
pub records_same : (image : Contents) (params : Params) (schedule : Choices) (t : ℕ) (s u : TimedState) (c d : Noted)
    (rest : Choices) → u ≡ s → d.reduction.state ≡ c.reduction.state → d.values ≡ c.values →
    RecordsAt image params schedule t s c rest → RecordsAt image params schedule t u d rest
records_same image params schedule t s u c d rest state reduction values h = record {
  runs = subst (λ (v : TimedState). RunsAt image params schedule t (plain v) rest) (sym state) h.runs;
  state = state ∙ h.state;
  reduction = reduction ∙ h.reduction;
  values = values ∙ h.values;
}

-- the machine and the clerk stand at some moment of a run
abbrev pub IsRecording : TimedState → Noted → Choices → Type 0
IsRecording s c rest = IsUnderWay (λ image params schedule t. RecordsAt image params schedule t s c rest)

-- what the clerk is told of the next choice is what it accepts, while it has room
pub accepts_next : (s : TimedState) (c known : Noted) (rest : Choices) (m : Move) → IsRecording s known rest →
    chosen (plain s) (choice_at rest 0) ≡ Some m → c.reduction.state ≡ known.reduction.state →
    c.values ≡ known.values → IsTrue c.reduction.ready → IsTrue c.roomy →
    AcceptsOf accepts alone local touch logged times_riding none_carrying s m c
accepts_next s c known rest m running is reduced values ready roomy =
    accepts_told (found_in s m) (told times_riding none_carrying s m)
    (alone_behind (core_at s.cores (core_of m)) (event times_riding none_carrying s m)) c awaited inside ready roomy
  where
    h : RecordsAt running.image running.params running.schedule running.t s known rest
    h = running.stands_so

    w : Standing
    w = standing_at running.image running.params (choice_at running.schedule) running.t

    there : AreNextOf w.reduction (found_in w.state m) (told times_riding none_carrying w.state m)
    there =
        next_told running.image running.params (choice_at running.schedule) running.t m running.fits.cores
        (let limit = running.fits.limit in omega (arith, limit))
        (next_there running.image running.params running.schedule running.t s known rest m running.stands_so is)

    awaited : AreNextOf c.reduction.state (found_in s m) (told times_riding none_carrying s m)
    awaited =
        subst (λ (r : Reduced). AreNextOf r (found_in s m) (told times_riding none_carrying s m))
        (sym (reduced ∙ h.reduction))
        (subst (λ (u : TimedState). AreNextOf w.reduction (found_in u m) (told times_riding none_carrying u m))
        (sym h.state) there)

    counted : length (values_at running.image running.params (choice_at running.schedule) running.t)
        ≡ running.params.cores
    counted = length-map-range_with_len _ 0 running.params.cores

    inside : AreInside (length c.values) (told times_riding none_carrying s m)
    inside =
        subst (λ (n : ℕ). AreInside n (told times_riding none_carrying s m))
        (sym (ap length (values ∙ h.values) ∙ counted))
        (subst (AreInside running.params.cores) (sym (forgets_told times_riding none_carrying s m))
        (inside_next running.image running.params running.schedule running.t (plain s) rest m running.fits h.runs is))

-- ---- the end

module _ (image : Contents) (params : Params) (schedule : Choices) (t : ℕ) (s : TimedState) (c : Noted) (rest : Choices)
    (fits : Fits params) (done : all_done s ≡ true) (h : RecordsAt image params schedule t s c rest) where
  last : t ≡ end_of image params (choice_at schedule)
  last = runs_end image params schedule t (plain s) rest fits done h.runs

  pub totals_are : map (λ (k : BufferedCore). k.core.count) s.cores ≡ (tso_recording_of image params schedule).totals
  unfolding tso_recording_of
  totals_are =
      ap totals h.runs.state ∙ ap (λ (u : ℕ). totals (run image params (choice_at schedule) u)) last

  pub lists_are : c.reduction.state.lists ≡ last_lists image params schedule
  lists_are =
      ap (λ (r : Reduced). r.lists) h.reduction
      ∙ ap (λ (u : ℕ). (standing_at image params (choice_at schedule) u).reduction.lists) last

  pub values_are : c.values ≡ (tso_recording_of image params schedule).values
  unfolding tso_recording_of
  values_are = h.values ∙ ap (values_at image params (choice_at schedule)) last

-- a recording with these parts is that of the run
pub recording_made : (image : Contents) (params : Params) (schedule : Choices) (bytes totals_made : List ℕ)
    (reduced values : List (List (ℕ × ℕ))) → bytes ≡ image.bytes →
    totals_made ≡ (tso_recording_of image params schedule).totals →
    reduced ≡ (tso_recording_of image params schedule).reduced →
    values ≡ (tso_recording_of image params schedule).values →
    record { params = params; image = bytes; totals = totals_made; reduced = reduced; values = values }
    ≡ tso_recording_of image params schedule
unfolding tso_recording_of
recording_made image params schedule bytes totals_made reduced values bytes_are totals_are reduced_are values_are =
    let made : List ℕ → List ℕ → List (List (ℕ × ℕ)) → List (List (ℕ × ℕ)) → TsoRecording =
    λ b t r v. record { params = params; image = b; totals = t; reduced = r; values = v } in
    let it = tso_recording_of image params schedule in
    ap (λ b. made b totals_made reduced values) bytes_are
    ∙ ap (λ t. made image.bytes t reduced values) totals_are
    ∙ ap (λ r. made image.bytes it.totals r values) reduced_are
    ∙ ap (made image.bytes it.totals it.reduced) values_are
