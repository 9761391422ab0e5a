-- The machine whose riders record times stands along every run as the reduction says. One state is carried along the
-- run: the machine whose riders record times, the reduction and the edges so far. Its plain part is the run, its riders
-- have the times of the accesses that the reduction was told of, and the reduction stands for them; each is kept by one
-- choice.
use Rattle.std.proofs.Common.{◌≡◌, ◌∙◌, refl, sym, ap, subst, ℕ, zero, suc, ◌+◌, ◌*◌, ◌<◌, ◌≤◌, ◌==◌, ◌^◌, true, List}
use Rattle.std.proofs.Common.{[], ◌++◌, append-nil, length, Option, Some, None, zero-add}
use Rattle.std.specs.Prelude.{reverse}
use Rattle.std.proofs.lemmas.List.Elements.{filter-append, filter_passes}
use Rattle.std.proofs.lemmas.List.{length-append}
use Rattle.access_times.specs.Riding.{none_carrying}
use Rattle.access_times.specs.Times.{times_riding}
use Rattle.access_times.specs.declared.times.Times.{Times}
use Rattle.image_mem.specs.Contents.{Contents}
use Rattle.rtr_types.specs.declared.TheConstants.{CORES_MAX}
use Rattle.rtr_types.specs.declared.access.Access.{Access}
use Rattle.rtr_types.specs.declared.params.Params.{Params}
use Rattle.rv_core.specs.States.{starting}
use Rattle.rv_core.proofs.LawLemmas.{start_law}
use Rattle.machine_times.proofs.RiderLaws.{times_absorb, times_fresh}
use Rattle.machine_times.specs.History.{NotedAccess}
use Rattle.machine_times.specs.Retirements.{Retirement, noted_accesses}
use Rattle.machine_times.specs.TimedSteps.{times_parts}
use Rattle.msi_memory.specs.declared.port.Port.{Port}
use Rattle.msi_state.specs.Events.{Event as ClerkEvent, Accesses}
use Rattle.online_reduce.proofs.Reductions.{begin_law, least_law, none_before}
use Rattle.online_reduce.specs.Exact.{AreExactFor}
use Rattle.online_reduce.specs.Reduced.{count_of}
use Rattle.tso_invariant.specs.Holds.{TsoHolds}
use Rattle.tso_invariant.proofs.StartInvariant.{chosen_at, holds_start}
use Rattle.tso_invariant.proofs.MoveInvariant.{holds_kept}
use Rattle.tso_plain.specs.Plain.{plain}
use Rattle.tso_plain.proofs.Events.{plain_event as forgets_event, plain_moves as same_moves}
use Rattle.tso_plain.proofs.ForgetfulSteps.{plain_start, plain_step as forgets_step, plain_told as forgets_told}
use Rattle.tso_state.specs.declared.moves.Move.{Move}
use Rattle.tso_state.specs.Moves.{candidates, core_of}
use Rattle.tso_state.specs.States.{PlainState, core_at}
use Rattle.tso_state.specs.Events.{Event, Told, instr_told}
use Rattle.tso_state.specs.Steps.{enabled, event, moves, step, told}
use Rattle.tso_state.specs.Runs.{accesses, all_told, chosen, chosen_of, event_by, ordered_in, plain_event}
use Rattle.tso_state.specs.Runs.{plain_step, plain_told, run, stepped_by, told_by}
use Rattle.tso_times.specs.Timed.{StandsAfter, ordering_of, ordering_port}
use Rattle.tso_times.proofs.NoAccessYet.{buffered_start}
use Rattle.tso_times.proofs.MoveTimes.{finds_exact, timed_step}
use Rattle.tso_told.specs.Played.{AreInside, told_of}
use Rattle.tso_told.proofs.InOrder.{CountFrom, counts_behind, counts_from}
use Rattle.tso_told.proofs.OrderedAndLogged.{event_ordered}
use Rattle.tso_told.proofs.ToldRuns.{told_inside, told_right}
use Rattle.tso_told.proofs.Tellings.{inside_last}
use Rattle.tso_records.specs.Records.{FoundTimesLaw, LeastEdgesLaw, NextToldLaw, ReductionLaw}
use Rattle.exact_reduction.specs.Reducing.{ReducesExactly}
use Rattle.tso_records.specs.Standings.{Standing, TimedState, clock_told, edges_told, found_by, found_in, moved_by}
use Rattle.tso_records.specs.Standings.{next_move, reduced_told, standing_at, standing_start, times_left}
use Rattle.exact_reduction.proofs.RetirementReduction.{event_exact}
use Rattle.tso_records.proofs.ToldReduction.{After, Awaits, finds_exact_by, local_behind, noted_by_event, told_after}
use Rattle.tso_records.proofs.ToldReduction.{times_fit}

-- what stands where the plain run does, after these accesses and what was told
record Stands (params : Params) (s : PlainState) (all : List Access) (list : List Told) (w : Standing) : Type 0 where
  holds : TsoHolds times_riding none_carrying w.state
  plain_is : plain w.state ≡ s
  notes : List Retirement
  stands : StandsAfter times_parts none_carrying (noted_accesses (reverse notes)) w.state
  reduces : ReducesExactly notes all w.reduction w.edges
  cores : w.reduction.cores ≡ params.cores
  counts : (c : ℕ) → c < params.cores → count_of w.reduction c ≡ length (told_of c list)

-- ---- the start

stands_start : (image : Contents) (params : Params) → params.cores ≤ CORES_MAX → params.limit < 2 ^ 32 →
    Stands params (run image params (λ c. c) 0) [] [] (standing_start image params)
stands_start image params few small = record {
  holds = holds_start times_riding none_carrying image params.cores params.limit few small;
  plain_is = plain_start times_riding none_carrying image params.cores params.limit;
  notes = [];
  stands = buffered_start times_parts none_carrying times_fresh image params.cores params.limit;
  reduces = record { accesses_are = refl; exact = tt; reduction = begin_law params.cores few };
  cores = refl;
  counts = λ c lt. none_before params.cores c;
}

-- ---- one step

-- a move that a choice takes can be made
enabled_here : (s : TimedState) (choice : ℕ) (m : Move) → chosen (plain s) choice ≡ Some m →
    enabled times_riding none_carrying s m ≡ true
enabled_here s choice m is =
    chosen_at (moves times_riding none_carrying s) (λ (x : Move). enabled times_riding none_carrying s x ≡ true) choice
    m
    (filter_passes (enabled times_riding none_carrying s) (candidates (length s.cores) (5 * length s.cores)))
    (ap (λ (ms : List Move). chosen_of ms choice) (same_moves times_riding none_carrying s) ∙ is)

module _ (params : Params) (s : PlainState) (all : List Access) (list : List Told) (w : Standing)
    (h : Stands params s all list w) where
  move_exact : (m : Move) → enabled times_riding none_carrying w.state m ≡ true → (a : Access) →
      ordering_of (event times_riding none_carrying w.state m) ≡ Accesses a → AreExactFor all a (found_in w.state m)
  move_exact m can =
      event_exact (ordering_of (event times_riding none_carrying w.state m))
      (ordering_port times_riding none_carrying w.state m) h.notes all
      h.reduces.accesses_are h.reduces.exact
      (λ a is. finds_exact times_parts none_carrying times_absorb (noted_accesses (reverse h.notes)) w.state m a h.holds
      can is h.stands)

  -- what is told in a move goes on from what the reduction was told
  after_move : (m : Move) → enabled times_riding none_carrying w.state m ≡ true →
      AreInside params.cores (list ++ plain_told s m) →
      ((c : ℕ) → c < params.cores → CountFrom 0 (told_of c (list ++ plain_told s m))) →
      After h.notes all w.reduction w.edges (found_in w.state m) (told times_riding none_carrying w.state m)
  after_move m can inside counts =
      told_after h.notes all w.reduction w.edges (found_in w.state m) more
      (local_behind (core_at w.state.cores (core_of m)) e)
      (finds_exact_by (core_at w.state.cores (core_of m)) e all (found_in w.state m) (move_exact m can)) inside_more
      awaits h.reduces
    where
      e : Event
      e = event times_riding none_carrying w.state m

      more : List Told
      more = told times_riding none_carrying w.state m

      more_is : more ≡ plain_told s m
      more_is = forgets_told times_riding none_carrying w.state m ∙ ap (λ (u : PlainState). plain_told u m) h.plain_is

      inside_more : AreInside w.reduction.cores more
      inside_more =
          subst (λ (n : ℕ). AreInside n more) (sym h.cores)
          (subst (AreInside params.cores) (sym more_is) (inside_last params.cores list (plain_told s m) inside))

      awaits : Awaits w.reduction more
      awaits c lt =
          let below : c < params.cores = subst (λ (n : ℕ). c < n) h.cores lt in
          let whole : CountFrom 0 (told_of c list ++ told_of c more) =
          subst (CountFrom 0) (filter-append (λ (x : Told). (instr_told x).core == c) list more)
          (subst (λ (l : List Told). CountFrom 0 (told_of c (list ++ l))) (sym more_is) (counts c below)) in
          subst (λ (n : ℕ). CountFrom n (told_of c more)) (sym (h.counts c below))
          (subst (λ (n : ℕ). CountFrom n (told_of c more)) (zero-add (length (told_of c list)))
          (counts_behind 0 (told_of c list) (told_of c more) whole))

  stands_next : (o : Option Move) → ((m : Move) → o ≡ Some m → enabled times_riding none_carrying w.state m ≡ true) →
      AreInside params.cores (list ++ told_by s o) →
      ((c : ℕ) → c < params.cores → CountFrom 0 (told_of c (list ++ told_by s o))) →
      Stands params (stepped_by s o) (all ++ ordered_in (event_by s o)) (list ++ told_by s o) (moved_by w o)
  stands_next None can inside counts =
      subst (λ (l : List Access). Stands params s l (list ++ []) w) (sym (append-nil all))
      (subst (λ (l : List Told). Stands params s all l w) (sym (append-nil list)) h)
  stands_next (Some m) can inside counts = record {
    holds = holds_kept times_riding none_carrying w.state m (times_left w.reduction now found) (can m refl) h.holds;
    plain_is = forgets_step times_riding none_carrying (times_left w.reduction now found) w.state m
        ∙ ap (λ (u : PlainState). plain_step u m) h.plain_is;
    notes = after.later;
    stands = subst (λ (n : List NotedAccess). StandsAfter times_parts none_carrying n
        (step times_riding none_carrying (times_left w.reduction now found) w.state m))
        (sym (after.noted ∙ noted_by_event (core_at w.state.cores (core_of m)) e w.reduction found
        (noted_accesses (reverse h.notes))))
        (timed_step times_parts none_carrying times_absorb (noted_accesses (reverse h.notes)) w.state m
        (times_left w.reduction now found)
        (clock_told w.reduction now found) h.holds (can m refl) (times_fit now port w.reduction) h.stands);
    reduces = subst (λ (l : List Access). ReducesExactly after.later l (reduced_told w.reduction found more)
        (w.edges ++ edges_told w.reduction found more))
        (ap (λ (l : List Access). all ++ l) (event_ordered (core_at w.state.cores (core_of m)) e ∙ ap ordered_in e_is))
        after.reduces;
    cores = after.cores ∙ h.cores;
    counts = λ c lt.
        after.counts c
        ∙ ap (λ (n : ℕ). n + length (told_of c more)) (h.counts c lt)
        ∙ sym (length-append (told_of c list) (told_of c more))
        ∙ ap length (sym (told_more c))
        ∙ ap (λ (l : List Told). length (told_of c (list ++ l))) more_is;
  }
    where
      e : Event
      e = event times_riding none_carrying w.state m

      now : ClerkEvent
      now = ordering_of e

      port : Port Times (Unit {0})
      port = ordering_port times_riding none_carrying w.state m

      found : Times
      found = found_in w.state m

      more : List Told
      more = told times_riding none_carrying w.state m

      e_is : e ≡ plain_event s m
      e_is = forgets_event times_riding none_carrying w.state m ∙ ap (λ (u : PlainState). plain_event u m) h.plain_is

      more_is : more ≡ plain_told s m
      more_is = forgets_told times_riding none_carrying w.state m ∙ ap (λ (u : PlainState). plain_told u m) h.plain_is

      told_more : (c : ℕ) → told_of c (list ++ more) ≡ told_of c list ++ told_of c more
      told_more c = filter-append (λ (x : Told). (instr_told x).core == c) list more

      after : After h.notes all w.reduction w.edges found more
      after = after_move m (can m refl) inside counts

-- ---- along a run

-- what was told of each core counts on from its first instruction
run_counts : (image : Contents) (params : Params) (choices : ℕ → ℕ) (t : ℕ) → params.cores ≤ CORES_MAX →
    params.limit < 2 ^ 32 → (c : ℕ) → c < params.cores → CountFrom 0 (told_of c (all_told image params choices t))
run_counts image params choices t few small c lt =
    subst (λ (n : ℕ). CountFrom n (told_of c (all_told image params choices t))) (start_law c params.limit).2
    (counts_from image (starting c params.limit) (told_of c (all_told image params choices t))
    (told_right image params choices t c few small lt))

stands_more : (image : Contents) (params : Params) (choices : ℕ → ℕ) (t : ℕ) → params.cores ≤ CORES_MAX →
    params.limit < 2 ^ 32 →
    Stands params (run image params choices t) (accesses image params choices t) (all_told image params choices t)
    (standing_at image params choices t) →
    Stands params (run image params choices (suc t)) (accesses image params choices (suc t))
    (all_told image params choices (suc t))
    (standing_at image params choices (suc t))
stands_more image params choices t few small h =
    subst (λ (o : Option Move). Stands params (stepped_by s o)
    (accesses image params choices t ++ ordered_in (event_by s o))
    (all_told image params choices t ++ told_by s o) (moved_by w (next_move w (choices t)))) same
    (stands_next params s (accesses image params choices t)
    (all_told image params choices t) w h (next_move w (choices t))
    (λ m is. enabled_here w.state (choices t) m is)
    (subst (λ (o : Option Move). AreInside params.cores (all_told image params choices t ++ told_by s o)) (sym same)
    (told_inside image params choices (suc t) few small))
    (λ c lt. subst (λ (o : Option Move). CountFrom 0 (told_of c (all_told image params choices t ++ told_by s o)))
    (sym same) (run_counts image params choices (suc t) few small c lt)))
  where
    s : PlainState
    s = run image params choices t

    w : Standing
    w = standing_at image params choices t

    same : next_move (standing_at image params choices t) (choices t) ≡ chosen (run image params choices t) (choices t)
    same = ap (λ (u : PlainState). chosen u (choices t)) h.plain_is

stands_at : (image : Contents) (params : Params) (choices : ℕ → ℕ) (t : ℕ) → params.cores ≤ CORES_MAX →
    params.limit < 2 ^ 32 →
    Stands params (run image params choices t) (accesses image params choices t) (all_told image params choices t)
    (standing_at image params choices t)
stands_at image params choices zero few small = stands_start image params few small
stands_at image params choices (suc t) few small =
    stands_more image params choices t few small (stands_at image params choices t few small)

-- ---- the laws

pub next_told : NextToldLaw
next_told image params choices t m few small is =
    (after_move params s (accesses image params choices t) (all_told image params choices t) w h m
    (enabled_here w.state (choices t) m is)
    (subst (λ (o : Option Move). AreInside params.cores (all_told image params choices t ++ told_by s o)) taken
    (told_inside image params choices (suc t) few small))
    (λ c lt. subst (λ (o : Option Move). CountFrom 0 (told_of c (all_told image params choices t ++ told_by s o))) taken
    (run_counts image params choices (suc t) few small c lt))).next
  where
    s : PlainState
    s = run image params choices t

    w : Standing
    w = standing_at image params choices t

    h : Stands params (run image params choices t) (accesses image params choices t)
        (all_told image params choices t) (standing_at image params choices t)
    h = stands_at image params choices t few small

    taken : chosen (run image params choices t) (choices t) ≡ Some m
    taken = ap (λ (u : PlainState). chosen u (choices t)) (sym h.plain_is) ∙ is

pub reduction_is : ReductionLaw
reduction_is image params choices t few small =
    let h = stands_at image params choices t few small in
    record { cores = h.cores; counts = h.counts; reduction = h.reduces.reduction }

pub least_edges : LeastEdgesLaw
least_edges image params choices t few small =
    let w : Standing = standing_at image params choices t in
    least_law (accesses image params choices t) w.reduction w.edges
    (stands_at image params choices t few small).reduces.reduction

-- where no move is taken nothing is ordered
none_ordered_by : (s : PlainState) (o : Option Move) (a : Access) → o ≡ None → ordering_of (event_by s o) ≡ Accesses a →
    ⊥
none_ordered_by s None a none is = absurd cc
none_ordered_by s (Some m) a none is = absurd cc

pub found_times : FoundTimesLaw
found_times image params choices t a few small is = by (next_move w (choices t)) refl
  where
    s : PlainState
    s = run image params choices t

    w : Standing
    w = standing_at image params choices t

    h : Stands params (run image params choices t) (accesses image params choices t) (all_told image params choices t)
        (standing_at image params choices t)
    h = stands_at image params choices t few small

    same : next_move (standing_at image params choices t) (choices t) ≡ chosen (run image params choices t) (choices t)
    same = ap (λ (u : PlainState). chosen u (choices t)) h.plain_is

    by : (o : Option Move) → next_move (standing_at image params choices t) (choices t) ≡ o →
        AreExactFor (accesses image params choices t) a (found_by (standing_at image params choices t) o)
    by None none = absurd (none_ordered_by s (chosen s (choices t)) a (sym same ∙ none) is)
    by (Some m) some =
        move_exact params s (accesses image params choices t)
        (all_told image params choices t) w h m (enabled_here w.state (choices t) m some) a
        (ap ordering_of (forgets_event times_riding none_carrying w.state m
        ∙ ap (λ (u : PlainState). plain_event u m) h.plain_is)
        ∙ ap (λ (o : Option Move). ordering_of (event_by s o)) (sym (sym same ∙ some)) ∙ is)
