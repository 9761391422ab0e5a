-- Both logs of what a run records replay it.
use Rattle.std.proofs.Common.{◌≡◌, ◌∙◌, refl, sym, ap, subst, ℕ, zero, suc, ◌*◌, ◌<◌, ◌≤◌, List, [], ◌++◌, length}
use Rattle.std.proofs.Common.{Option, arith}
use Rattle.std.specs.Prelude.{slice_index, slice_index_or}
use Rattle.std.proofs.lemmas.List.{map-append}
use Rattle.access_times.specs.Riding.{none_riding}
use Rattle.image_mem.specs.Contents.{Contents}
use Rattle.rtr_types.specs.Parameters.{Fits}
use Rattle.rtr_types.specs.declared.instr.Instr.{Instr}
use Rattle.rtr_types.specs.declared.pairs.Which.TheVariants.{Reduced, Regulated}
use Rattle.rtr_types.specs.declared.params.Params.{Params}
use Rattle.schedule_pick.specs.Choices.{Choices, choice_at}
use Rattle.clock_core.specs.Order.{Among, Before}
use Rattle.clock_core.proofs.EdgeLists.{among_contains}
use Rattle.know_history.specs.Happenings.{Happening}
use Rattle.know_history.specs.Knowing.{retired_in}
use Rattle.know_history.proofs.CarryCounts.{retired_there}
use Rattle.edge_regulate.specs.Regulated.{Knowledge}
use Rattle.race_log.specs.Sources.{HasEdge, log_edges}
use Rattle.race_log.specs.Validity.{Valid}
use Rattle.race_log.specs.declared.recording.Recording.{Recording}
use Rattle.race_log.proofs.SourceLaws.{edges-within}
use Rattle.machine_bound.specs.Ends.{end_of}
use Rattle.machine_known.specs.Events.{happening_at}
use Rattle.machine_known.specs.Known.{RetiresEarlier}
use Rattle.machine_known.proofs.KnownRuns.{run_orderly_law, run_plain, run_retires_law}
use Rattle.msi_state.specs.Events.{Event, Nothing, Retires, Accesses, instr_of}
use Rattle.msi_state.specs.Runs.{event_at, retired_in as retired_by, retirements}
use Rattle.msi_state.specs.States.{PlainState, core_at}
use Rattle.replay_core.specs.Orders.{counts, nought}
use Rattle.replay_core.specs.Plans.{plan_of}
use Rattle.replay_audit.specs.Determinate.{Decides}
use Rattle.regulated_log.specs.Happened.{core_of}
use Rattle.regulated_log.specs.Happened as happened
use Rattle.regulated_log.specs.Laws.{IsGood}
use Rattle.regulated_log.specs.Logs.{IsPast, with_regulated}
use Rattle.regulated_log.specs.Logs as ordered
use Rattle.regulated_log.proofs.KnownRetired.{EventOf, counts_are, event_of}
use Rattle.regulated_log.proofs.InOrder.{regulated_law}
use Rattle.run_records.specs.Recordings.{recording_of, run_knowledge}
use Rattle.run_records.proofs.KnownRuns.{knows_run, long, run_past}
use Rattle.run_outcome.specs.Retirement.{RetiresAt, RetiresBefore, retired_count}
use Rattle.run_outcome.proofs.Later.{retires_once}
use Rattle.run_replays.specs.Orders.{cores_of, order_of}
use Rattle.run_replays.specs.ReplayOrders.{GoForward}
use Rattle.run_replays.proofs.RunLaws.{of_run}
use Rattle.run_records.proofs.Recordings.{recording_valid_law, regulated_log_law}
use Rattle.run_replays.specs.BothLogs.{BothReplayLaw, RunRegulatedLaw}
use Rattle.run_replays.specs.Deciding.{CoversRun}
use Rattle.run_replays.proofs.DecidingOrder.{reduced_decides, run_decides}
use Rattle.run_replays.proofs.RecordedReplays.{reduced_replays, run_replays}

-- ---- the order of retirement, by what happens

one_core : (e : Event) → core_of (instr_of e) ≡ cores_of (retired_by e)
one_core Nothing = refl
one_core (Retires at) = refl
one_core (Accesses a) = refl

order_happened : (image : Contents) (params : Params) (choices : ℕ → ℕ) (t : ℕ)
    → happened.retirements (happening_at image params choices) t ≡ cores_of (retirements image params choices t)
order_happened image params choices zero = refl
order_happened image params choices (suc t) =
    ap (λ (l : List ℕ). l ++ core_of (happening_at image params choices t).retires) (order_happened image params choices
    t)
    ∙ ap (λ (o : Option Instr). cores_of (retirements image params choices t) ++ core_of o)
    (run_retires_law image params choices t)
    ∙ ap (λ (l : List ℕ). cores_of (retirements image params choices t) ++ l)
    (one_core (event_at image params choices t))
    ∙ sym (map-append (λ (at : Instr). at.core) (retirements image params choices t)
    (retired_by (event_at image params choices t)))

order_is : (image : Contents) (params : Params) (schedule : Choices)
    → happened.retirements (happening_at image params (choice_at schedule))
    (end_of image params (choice_at schedule)) ≡ order_of image params schedule
unfolding order_of
order_is image params schedule = order_happened image params (choice_at schedule)
    (end_of image params (choice_at schedule))

-- the vectors are those by what is known in the run
same_recording : (image : Contents) (params : Params) (schedule : Choices)
    → with_regulated (run_knowledge image params schedule) (recording_of image params schedule) ≡ recording_of image
    params schedule
unfolding recording_of
same_recording image params schedule = refl

module _ (image : Contents) (params : Params) (schedule : Choices) (fits : Fits params) where
  abbrev choices : ℕ → ℕ
  choices = choice_at schedule

  abbrev events : ℕ → Happening
  events = happening_at image params (choice_at schedule)

  -- the retirements of a core are as many as its count
  retired_is : (t core : ℕ) → t ≤ end_of image params (choice_at schedule) → core < params.cores
      → retired_in (happening_at image params (choice_at schedule)) t core ≡ retired_count image params
      (choice_at schedule) t core
  retired_is t core le lt =
      let h = knows_run image params schedule fits t le in
      let within = long image params schedule fits t in
      sym (h.retired.counts core (omega (arith, lt, within)))
      ∙ ap (λ (u : PlainState). (core_at u.cores core).count) (run_plain none_riding image params choices (λ u. tt) t)

  -- what retires before in the order of retirement has retired whenever the other retires
  before_is : (x y : Instr) → x.core < params.cores → ordered.RetiresBefore (order_of image params schedule) x y
      → RetiresBefore image params (choice_at schedule) x y
  before_is x y core p t lt retires =
      let e : EventOf events (end_of image params choices) p.front y.core =
      event_of events (end_of image params choices) p.front y.core p.rest (order_is image params schedule ∙ p.place) in
      let here : counts nought p.front y.core ≡ retired_in events e.u y.core =
      ap (λ (l : List ℕ). counts nought l y.core) e.before ∙ counts_are events e.u y.core in
      let there : counts nought p.front x.core ≡ retired_in events e.u x.core =
      ap (λ (l : List ℕ). counts nought l x.core) e.before ∙ counts_are events e.u x.core in
      let own : retired_in events e.u e.y.core ≡ retired_in events e.u y.core = ap (retired_in events e.u) e.core_is in
      let next = (run_orderly_law image params choices fits.cores e.u e.y e.retires).count in
      let target = p.target in
      let count : e.y.count ≡ y.count = omega arith in
      let same : e.y ≡ y = made e.core_is count in
      let also : RetiresAt image params choices e.u y =
      subst (λ (z : Instr). RetiresAt image params choices e.u z) same (sym (run_retires_law image params choices e.u)
      ∙ e.retires) in
      let moment : t ≡ e.u = retires_once image params choices t e.u y fits retires also in
      let within = e.within in
      let counted = retired_is e.u x.core (omega arith) core in
      let as_then : retired_count image params choices t x.core ≡ retired_count image params choices e.u x.core =
      ap (λ (u : ℕ). retired_count image params choices u x.core) moment in
      let source = p.source in
      omega arith
    where
      made : {a b : Instr} → a.core ≡ b.core → a.count ≡ b.count → a ≡ b
      made {a} {b} core count =
          ap (λ (c : ℕ). (let i : Instr = record { core = c; count = a.count } in i)) core
          ∙ ap (λ (n : ℕ). (let i : Instr = record { core = b.core; count = n } in i)) count

  module _ (words : image.words ≡ params.words) (room : length image.bytes ≤ 4 * params.words) where
    abbrev r : Recording
    r = recording_of image params schedule

    abbrev known : Knowledge
    known = run_knowledge image params schedule

    abbrev order : List ℕ
    order = order_of image params schedule

    valid : Valid (recording_of image params schedule)
    valid = recording_valid_law image params schedule fits words room

    cores_are : (recording_of image params schedule).params.cores ≡ params.cores
    cores_are = ap (λ (p : Params). p.cores) (of_run image params schedule).params_are

    past : IsPast (recording_of image params schedule).params.cores (order_of image params schedule)
        (run_knowledge image params schedule)
    past =
        subst (λ (n : ℕ). IsPast n (order_of image params schedule) (run_knowledge image params schedule))
        (sym cores_are)
        (subst (λ (l : List ℕ). IsPast params.cores l (run_knowledge image params schedule))
        (order_is image params schedule)
        (run_past image params schedule fits))

    by_reduced : Decides (plan_of Reduced (recording_of image params schedule)) (order_of image params schedule)
    by_reduced = reduced_decides image params schedule fits words

    good : IsGood (run_knowledge image params schedule) (order_of image params schedule)
        (recording_of image params schedule)
    good = regulated_law known order r valid past by_reduced.ordered by_reduced.whole

    forward : GoForward image params schedule (Among (log_edges Regulated (recording_of image params schedule)))
    forward x y edge =
        let has : HasEdge Regulated (recording_of image params schedule) x y =
        among_contains (log_edges Regulated r) x y edge in
        let lies = edges-within Regulated r x y valid has in
        let source = lies.pair.source in
        let cores = cores_are in
        before_is x y (omega arith)
        (good.forward x y (subst (λ (q : Recording). HasEdge Regulated q x y)
        (sym (same_recording image params schedule)) has))

    pub covers_run : CoversRun image params schedule Regulated (recording_of image params schedule)
    covers_run = record {
      forward = forward;
      implied = λ x y edge.
          subst (λ (q : Recording). Before (Among (log_edges Regulated q)) x y) (same_recording image params schedule)
          (good.implies.each x y (among_contains (log_edges Reduced r) x y edge));
    }

    -- as many of a core's instructions retire in the whole run as its total says
    all_retire : (c : ℕ) → c < length (recording_of image params schedule).totals
        → retired_in (happening_at image params (choice_at schedule)) (end_of image params (choice_at schedule)) c
        ≡ slice_index (recording_of image params schedule).totals c
    all_retire c within =
        sym (counts_are events (end_of image params choices) c)
        ∙ ap (λ (l : List ℕ). counts nought l c) (order_is image params schedule)
        ∙ by_reduced.whole.each c within

    -- so an edge's target retires, and its source in an event before
    earlier : (x y : Instr) → Among (log_edges Regulated (recording_of image params schedule)) x y
        → RetiresEarlier image params (choice_at schedule) x y
    earlier x y edge =
        let lies = edges-within Regulated r x y valid (among_contains (log_edges Regulated r) x y edge) in
        let source_core = lies.pair.source in
        let target_core = lies.pair.target in
        let whole = valid.each_core in
        let all = all_retire y.core (omega arith) in
        let most = lies.target_most in
        let there = retired_there events (end_of image params choices)
        (λ u lt. run_orderly_law image params choices fits.cores u) y
        lies.some_target (omega arith) in
        let t : ℕ = there.0 in
        let within : t < end_of image params choices = there.1 in
        let retires : RetiresAt image params choices t y = sym (run_retires_law image params choices t) ∙ there.2 in
        let cores = cores_are in
        let counted = retired_is t x.core (omega arith) (omega arith) in
        let has = forward x y edge t within retires in
        let before = retired_there events t (λ u lt. run_orderly_law image params choices fits.cores u) x
        lies.some_source (omega arith) in
        record {
          first = before.0;
          second = t;
          before = before.1;
          retires_first = sym (run_retires_law image params choices before.0) ∙ before.2;
          retires_second = retires;
        }

    few : (place : ℕ) → length (slice_index_or (recording_of image params schedule).regulated place [])
        ≤ length (slice_index_or (recording_of image params schedule).reduced place [])
    few place =
        subst (λ (q : Recording). length (slice_index_or q.regulated place []) ≤ length
        (slice_index_or r.reduced place []))
        (same_recording image params schedule) (good.implies.few place)

pub run_regulated : RunRegulatedLaw
run_regulated image params schedule fits words room = record {
  vectors = λ known counts. regulated_log_law image params schedule known fits counts;
  covers = covers_run image params schedule fits words room;
  earlier = earlier image params schedule fits words room;
  few = few image params schedule fits words room;
}

pub both_replay : BothReplayLaw
both_replay image params schedule Reduced fits words room = reduced_replays image params schedule fits words room
both_replay image params schedule Regulated fits words room =
    run_replays image params schedule (recording_of image params schedule) Regulated fits words
    (recording_valid_law image params schedule fits words room) (of_run image params schedule)
    (run_decides image params schedule (recording_of image params schedule) Regulated fits words
    (of_run image params schedule)
    (covers_run image params schedule fits words room))
