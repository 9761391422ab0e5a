-- Until its end each run is recorded.
use Rattle.std.proofs.Common.{◌≡◌, ◌∙◌, refl, sym, ap, subst, ℕ, zero, suc, ◌+◌, ◌*◌, ◌<◌, ◌≤◌, ◌^◌, true, false, List}
use Rattle.std.proofs.Common.{length, Option, Some, None}
use Rattle.std.proofs.Common.{arith}
use Rattle.std.specs.Prelude.{reverse}
use Rattle.std.proofs.lemmas.List.Elements.{filter_passes}
use Rattle.access_times.specs.Riding.{none_riding, none_carrying}
use Rattle.access_times.specs.Times.{times_noted, times_riding}
use Rattle.access_times.specs.declared.times.Times.{Times}
use Rattle.image_mem.specs.Contents.{Contents}
use Rattle.rtr_types.specs.Parameters.{Fits}
use Rattle.rtr_types.specs.declared.instr.Instr.{Instr}
use Rattle.rtr_types.specs.declared.params.Params.{Params}
use Rattle.schedule_pick.specs.Choices.{Choices, choice_at, choices_after}
use Rattle.machine_bound.specs.Ends.{end_of}
use Rattle.machine_bound.proofs.RunEnds.{run_ends}
use Rattle.machine_plain.proofs.ForgetfulSteps.{plain_event as forgets_event, plain_step as forgets_step}
use Rattle.machine_plain.proofs.SameMoves.{plain_moves as same_moves}
use Rattle.machine_plain.proofs.Shows.{plain_start}
use Rattle.machine_invariant.proofs.Stuck.{some_move}
use Rattle.machine_invariant.specs.Holds.{MachineHolds}
use Rattle.machine_invariant.proofs.StartInvariant.{chosen_at, holds_run, holds_start}
use Rattle.machine_invariant.proofs.MoveInvariant.{holds_kept}
use Rattle.msi_state.specs.Moves.{candidates}
use Rattle.rtr_types.specs.declared.access.Access.{Access}
use Rattle.msi_state.specs.Events.{Event, Nothing, Retires, Accesses, Tells, instr_of}
use Rattle.machine_plain.specs.Plain.{plain}
use Rattle.msi_state.specs.Runs.{chosen, chosen_of, event_at, event_by, plain_event, plain_moves, run}
use Rattle.msi_state.specs.States.{PlainState, State, all_done, core_at}
use Rattle.msi_state.specs.Steps.{carry_told, enabled, event, moves, rider_found, step}
use Rattle.msi_state.specs.declared.moves.Move.{Move}
use Rattle.machine_times.proofs.RiderLaws.{times_absorb}
use Rattle.machine_times.proofs.MoveTimes.{finds_exact}
use Rattle.machine_times.proofs.NotedRiders.{timed_told}
use Rattle.machine_times.specs.TimedSteps.{times_parts}
use Rattle.online_reduce.proofs.ByPair.{length-by_pair}
use Rattle.online_reduce.specs.Reduced.{IsNext, Reduced, clock_of, count_of}
use Rattle.know_history.specs.Knowledge.{known_carrying}
use Rattle.know_history.specs.Notes.{Notes}
use Rattle.know_history.specs.declared.known.Known.{Known}
use Rattle.edge_regulate.specs.Regulated.{IsRegulation}
use Rattle.edge_regulate.proofs.Regulations.{regulation_is}
use Rattle.run_records.proofs.KnownRuns.{none_chosen}
use Rattle.run_records.proofs.KeptRegulation.{edges_noted}
use Rattle.run_records.proofs.RecordedPlaces.{ReducesBy, Turned, notes_next, notes_start}
use Rattle.run_records.specs.Standing.{NotesAt}
use Rattle.run_outcome.specs.Retirement.{retired_count}
use Rattle.run_outcome.proofs.RetiredCounts.{IsNextOf, run_tells}
use Rattle.run_records.specs.Recorded.{RecordsLaw}
use Rattle.run_records.specs.StandingAt.{Standing, moved_by, next_move, reduction_after, regulation_of, standing_at}
use Rattle.run_records.specs.StandingAt.{standing_start, times_after}

-- the machine holds its invariant and is recorded so far
pub record StandsWell (image : Contents) (params : Params) (schedule : Choices) (t : ℕ) (w : Standing) : Type 0 where
  pub holds : MachineHolds times_riding known_carrying w.state
  pub notes : NotesAt image params schedule t w.state w.reduction w.notes w.rest

-- ---- what a choice takes

-- it can be made
pub enabled_here : (s : State Times Known) (choice : ℕ) (m : Move) → chosen (plain s) choice ≡ Some m
    → enabled times_riding known_carrying s m ≡ true
enabled_here s choice m is =
    chosen_at (moves times_riding known_carrying s) (λ (x : Move). enabled times_riding known_carrying s x ≡ true)
    choice m
    (filter_passes (enabled times_riding known_carrying s) (candidates (length s.cores) (4 * length s.cores)))
    (ap (λ (ms : List Move). chosen_of ms choice) (same_moves times_riding known_carrying s) ∙ is)

-- ---- where the reduction stands

-- its counts are the run's
pub reduction_counts : (image : Contents) (params : Params) (schedule : Choices) (t : ℕ) (s : State Times Known)
    (r : Reduced) (notes : Notes)
    (rest : Choices) → NotesAt image params schedule t s r notes rest → (core : ℕ) → core < params.cores
    → count_of r core ≡ retired_count image params (choice_at schedule) t core
reduction_counts image params schedule t s r notes rest h core lt =
    let few : length s.cores ≡ params.cores = h.run.cores in
    h.reduces.counts core (omega (arith, lt, h.cores))
    ∙ sym (h.machine.counts core (omega (arith, lt, few)))
    ∙ ap (λ (u : PlainState). (core_at u.cores core).count) h.run.state

-- an event is told as it is to be
reduced_by : (e : Event) (r : Reduced) (found : Times) → ((at : Instr) → instr_of e ≡ Some at → IsNext r at)
    → ReducesBy e r found (reduction_after r e found)
reduced_by Nothing r found next = refl
reduced_by (Retires at) r found next = (next at refl, refl)
reduced_by (Accesses a) r found next = (next a.at refl, refl)

-- and its access is noted with the clock
abbrev TellsTimes : Event → Known → Reduced → Times → Reduced → Times → Type 0
TellsTimes e k r found after left =
    Tells (λ (c : Reduced) (at : Instr) (k : Known) (d : Reduced). Unit {0})
    (λ (c : Reduced) (before : Times) (a : Access) (k : Known) (d : Reduced) (q : Times). q ≡ times_noted a before
    (clock_of d a.at.core))
    e k r found after left

times_told : (e : Event) (k : Known) (r : Reduced) (found : Times)
    → TellsTimes e k r found (reduction_after r e found) (times_after (reduction_after r e found) e found)
times_told Nothing k r found = refl
times_told (Retires at) k r found = tt
times_told (Accesses a) k r found = refl

-- the regulation of what is noted
regulation_here : (image : Contents) (params : Params) (schedule : Choices) (t : ℕ) (s : State Times Known)
    (r : Reduced) (notes : Notes)
    (rest : Choices) → NotesAt image params schedule t s r notes rest →
    IsRegulation notes r.lists (regulation_of r notes)
regulation_here image params schedule t s r notes rest h =
    regulation_is notes r.lists (regulation_of r notes) (ap length h.reduces.reduction.by_pairs
    ∙ length-by_pair r.cores h.edges)
    (edges_noted image params schedule t s r notes rest h) refl

-- ---- one choice

module _ (image : Contents) (params : Params) (schedule : Choices) (fits : Fits params) where
  small : params.limit < 2 ^ 32
  small = omega (arith, fits.limit)

  move_stands : (t : ℕ) (w : Standing) (m : Move) → next_move w ≡ Some m
      → all_done (run image params (choice_at schedule) t) ≡ false → StandsWell image params schedule t w
      → StandsWell image params schedule (suc t) (moved_by w (Some m))
  move_stands t w m is going h =
      let choices : ℕ → ℕ = choice_at schedule in
      let s : State Times Known = w.state in
      let r : Reduced = w.reduction in
      let e : Event = event times_riding known_carrying s m in
      let found : Times = rider_found times_riding known_carrying s m in
      let k : Known = carry_told times_riding known_carrying s m in
      let after : Reduced = reduction_after r e found in
      let left : Times = times_after after e found in
      let later : State Times Known = step times_riding known_carrying left s m in
      let notes : NotesAt image params schedule t w.state w.reduction w.notes w.rest = h.notes in
      let can : enabled times_riding known_carrying s m ≡ true = enabled_here s (choice_at w.rest 0) m is in
      let number : choice_at w.rest 0 ≡ choices t = notes.run.rest_is 0 ∙ ap choices (omega arith) in
      let taken : chosen (run image params choices t) (choices t) ≡ Some m =
      ap (λ (u : PlainState). chosen u (choices t)) (sym notes.run.state) ∙ ap (chosen (plain s)) (sym number) ∙ is in
      let same : e ≡ event_at image params choices t =
      forgets_event times_riding known_carrying s m
      ∙ ap (λ (u : PlainState). plain_event u m) notes.run.state
      ∙ sym (ap (event_by (run image params choices t)) taken) in
      let next : (at : Instr) → instr_of e ≡ Some at → IsNext r at = λ at retires.
      let it : IsNextOf params.cores (retired_count image params choices t) at =
      (run_tells image params choices t fits.cores small).next at (ap instr_of (sym same) ∙ retires) in
      record {
        core = omega (arith, it.core, notes.cores);
        count = it.count ∙ ap (λ i. i + 1) (sym (reduction_counts image params schedule t s r w.notes w.rest notes
            at.core it.core));
      } in
      let turned : Turned s later m r after w.rest (choices_after w.rest) = record {
        steps = record {
          taken = is;
          state = forgets_step times_riding known_carrying left s m;
          left = refl;
        };
        event_is = forgets_event times_riding known_carrying s m;
        rider = left;
        state = refl;
        told = reduced_by e r found next;
        stands = λ list f.
            timed_told (λ (c : Reduced) (at : Instr) (k : Known) (d : Reduced). Unit {0})
            (λ (c : Reduced) (before : Times) (a : Access) (k : Known) (d : Reduced) (q : Times). q ≡ times_noted a
            before (clock_of d a.at.core))
            (λ (c : Reduced) core. clock_of c core) (λ c d before after a k told. told) known_carrying list s m
            r after left k h.holds can (times_told e k r found) f;
        finds = λ list f a is_a. finds_exact times_parts known_carrying times_absorb (reverse list) s m a h.holds can
            is_a f;
      } in
      record {
        holds = holds_kept times_riding known_carrying s m left can h.holds;
        notes = notes_next image params schedule t s later m r after w.notes w.rest (choices_after w.rest)
            (ap all_done notes.run.state ∙ going)
            turned notes;
      }

  next_stands : (t : ℕ) (w : Standing) → all_done (run image params (choice_at schedule) t) ≡ false
      → StandsWell image params schedule t w → StandsWell image params schedule (suc t) (moved_by w (next_move w))
  next_stands t w going h = by (next_move w) refl
    where
      s : PlainState
      s = run image params (choice_at schedule) t

      some : 0 < length (plain_moves (run image params (choice_at schedule) t))
      some = some_move none_riding none_carrying s (holds_run image params (choice_at schedule) t fits.cores small)
          going

      by : (o : Option Move) → next_move w ≡ o → StandsWell image params schedule (suc t) (moved_by w o)
      by None is = absurd (none_chosen (plain_moves (plain w.state)) (choice_at w.rest 0) is
          (subst (λ (u : PlainState). 0 < length (plain_moves u)) (sym h.notes.run.state) some))
      by (Some m) is = move_stands t w m is going h

  pub stands_at : (t : ℕ) → t ≤ end_of image params (choice_at schedule)
      → StandsWell image params schedule t (standing_at image params schedule t)
  stands_at zero le =
      let w : Standing = standing_start image params schedule in
      record {
        holds = holds_start times_riding known_carrying image params.cores params.limit fits.cores small;
        notes = notes_start image params schedule w.state w.reduction w.notes fits refl
            (plain_start times_riding known_carrying image params.cores params.limit) refl refl;
      }
  stands_at (suc t) le =
      let ends = run_ends image params (choice_at schedule) (record { cores = fits.cores; limit = small }) in
      next_stands t (standing_at image params schedule t) (ends.first t (omega (arith, le)))
      (stands_at t (omega (arith, le)))

pub records_law : RecordsLaw
records_law image params schedule t fits le =
    let w : Standing = standing_at image params schedule t in
    let h = (stands_at image params schedule fits t le).notes in
    record { notes = h; regulation = regulation_here image params schedule t w.state w.reduction w.notes w.rest h }
