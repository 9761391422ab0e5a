-- The laws, at the run's end and for its recordings.
use Rattle.std.proofs.Common.{◌≡◌, ◌∙◌, refl, sym, ap, subst, ℕ, ◌<◌, ◌^◌, List, arith}
use Rattle.std.specs.Prelude.{map}
use Rattle.image_mem.specs.Contents.{Contents}
use Rattle.rtr_types.specs.Parameters.{Fits}
use Rattle.rtr_types.specs.declared.instr.Edge.{Edge}
use Rattle.rtr_types.specs.declared.pairs.Which.{Which}
use Rattle.rtr_types.specs.declared.pairs.Which.TheVariants.{Reduced}
use Rattle.rtr_types.specs.declared.params.Params.{Params}
use Rattle.rv_core.specs.declared.outcome.Outcome.{Outcome}
use Rattle.schedule_pick.specs.Choices.{Choices, choice_at}
use Rattle.clock_core.proofs.EdgeLists.{contains_among}
use Rattle.race_log.specs.Sources.{log_edges}
use Rattle.race_log.specs.declared.recording.Recording.{Recording}
use Rattle.machine_bound.specs.Ends.{end_of}
use Rattle.machine_bound.proofs.RunEnds.{run_ends}
use Rattle.machine_data.proofs.Remembers.{final_values}
use Rattle.msi_state.specs.Runs.{outcome_at}
use Rattle.run_outcome.specs.Outcomes.{outcome_of}
use Rattle.run_records.specs.Recordings.{run_accesses, recording_of}
use Rattle.replay_core.specs.Plans.{Plan, plan_of}
use Rattle.replay_core.specs.Orders.{IsReplayOrder}
use Rattle.run_outcome.proofs.Later.{small_limit}
use Rattle.run_records.proofs.Recordings.{least}
use Rattle.run_replays.specs.Orders.{order_of}
use Rattle.run_replays.specs.Plays.{IsOfRun, OfRunLaw, PlaysRun, RunIsPlayLaw}
use Rattle.run_replays.specs.ReplayOrders.{ConflictsForwardLaw, ForwardLaw, ReducedForwardLaw, ReducedOrderLaw}
use Rattle.run_replays.proofs.RetirementOrder.{GoForward, conflicts_forward, order_full, order_ordered}
use Rattle.run_replays.proofs.RetirementOrder.{totals_at, totals_long}
use Rattle.run_replays.proofs.RunPlay.{left_at, played_to, run_plan}

-- ---- at the end

-- the moment at which the run ends
abbrev last : Contents → Params → Choices → ℕ
last image params schedule = end_of image params (choice_at schedule)

-- each core's total
abbrev run_totals : Contents → Params → Choices → List ℕ
run_totals image params schedule = totals_at image params (choice_at schedule) (last image params schedule)

totals_are : (image : Contents) (params : Params) (schedule : Choices)
    → map (λ k. k.count) (outcome_of image params schedule).cores ≡ run_totals image params schedule
unfolding outcome_of
totals_are image params schedule = refl

-- what the run's recordings are played as
plan_is : (image : Contents) (params : Params) (schedule : Choices) (r : Recording) (which : Which)
    → image.words ≡ params.words → IsOfRun image params schedule r
    → plan_of which r ≡ run_plan image params (run_totals image params schedule) (log_edges which r)
plan_is image params schedule r which words h =
    ap (λ (bytes : List ℕ). made bytes r.params.words r.params.limit r.totals) h.image_is
    ∙ ap (λ (ps : Params). made image.bytes ps.words ps.limit r.totals) h.params_are
    ∙ ap (λ (totals : List ℕ). made image.bytes params.words params.limit totals)
    (h.totals_are ∙ totals_are image params schedule)
    ∙ ap (λ (n : ℕ). made image.bytes n params.limit (run_totals image params schedule)) (sym words)
  where
    made : List ℕ → (words limit : ℕ) → List ℕ → Plan
    made bytes n limit totals = record {
      image = record { bytes = bytes; words = n };
      limit = limit;
      totals = totals;
      edges = log_edges which r;
    }

module _ (image : Contents) (params : Params) (schedule : Choices) (fits : Fits params) where
  abbrev choices : ℕ → ℕ
  choices = choice_at schedule

  small : params.limit < 2 ^ 32
  small = small_limit params fits

  -- what the choices left is the outcome
  left_is : left_at image params (choice_at schedule) (last image params schedule) ≡ outcome_of image params schedule
  unfolding outcome_of
  left_is =
      let t : ℕ = last image params schedule in
      let o : Outcome = outcome_at image params choices t in
      let ends = run_ends image params choices (record { cores = fits.cores; limit = small }) in
      ap (λ (words : List ℕ). let made : Outcome = record { cores = o.cores; words = words; loads = o.loads } in made)
      (sym (final_values image params choices t fits.cores small ends.done))

  plays_run : (edges : List Edge)
      → PlaysRun image params schedule (run_plan image params (run_totals image params schedule) edges)
      (order_of image params schedule)
  unfolding order_of run_accesses
  plays_run edges =
      let t : ℕ = last image params schedule in
      let totals : List ℕ = run_totals image params schedule in
      let h = played_to image params choices totals edges t fits.cores small (totals_long image params choices t) in
      record {
        whole = order_full image params choices t edges fits.cores small;
        plays = h.plays;
        outcome = h.state ∙ left_is;
        accesses = h.accesses_are;
      }

  ordered_run : (edges : List Edge) → GoForward image params (choice_at schedule) (last image params schedule) edges
      → IsReplayOrder (run_plan image params (run_totals image params schedule) edges) (order_of image params schedule)
  unfolding order_of
  ordered_run edges forward =
      let t : ℕ = last image params schedule in
      order_ordered image params choices t edges fits.cores small forward t (omega arith)

pub run_is_play : RunIsPlayLaw
run_is_play image params schedule r which fits words h =
    subst (λ (p : Plan). PlaysRun image params schedule p (order_of image params schedule))
    (sym (plan_is image params schedule r which words h)) (plays_run image params schedule fits (log_edges which r))

pub of_run : OfRunLaw
unfolding recording_of
of_run image params schedule = record { params_are = refl; image_is = refl; totals_are = refl }

-- ---- replay orders

pub conflicts_forward_law : ConflictsForwardLaw
unfolding run_accesses
conflicts_forward_law image params schedule fits x y pair t lt retires =
    conflicts_forward image params (choice_at schedule) t (last image params schedule) fits.cores
    (small_limit params fits) lt
    x y pair retires

pub forward_law : ForwardLaw
forward_law image params schedule r which fits words h forward =
    subst (λ (p : Plan). IsReplayOrder p (order_of image params schedule))
    (sym (plan_is image params schedule r which words h))
    (ordered_run image params schedule fits (log_edges which r)
    (λ x y has. forward x y (contains_among (log_edges which r) x y has)))

pub reduced_forward : ReducedForwardLaw
reduced_forward image params schedule fits x y edge =
    conflicts_forward_law image params schedule fits x y ((least image params schedule fits).conflict x y edge)

pub reduced_order : ReducedOrderLaw
reduced_order image params schedule fits words =
    forward_law image params schedule (recording_of image params schedule) Reduced fits words
    (of_run image params schedule)
    (reduced_forward image params schedule fits)
