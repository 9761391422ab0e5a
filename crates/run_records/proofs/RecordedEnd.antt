-- What is recorded at the end of a run: the recording that the definition names, and it is valid.
use Rattle.std.proofs.Common.{◌≡◌, ◌∙◌, sym, ap, subst, ℕ, ◌<◌, ◌≤◌, ◌*◌, List, [], length, arith, true}
use Rattle.std.specs.Prelude.{All, replicate, slice_index, slice_index_or}
use Rattle.std.specs.List.{AllByRecursion}
use Rattle.std.proofs.lemmas.List.{get_or-map, get_or-replicate, length-map, length-replicate}
use Rattle.std.proofs.lemmas.List.Elements.{All-map}
use Rattle.access_times.specs.declared.times.Times.{Times}
use Rattle.image_mem.specs.Contents.{Contents}
use Rattle.rtr_types.specs.Parameters.{Fits}
use Rattle.rtr_types.specs.Pairs.{pair_count, source_at, target_at}
use Rattle.rtr_types.proofs.PairPlaces.{places-paired}
use Rattle.rtr_types.specs.declared.access.Access.{Access}
use Rattle.rtr_types.specs.declared.instr.Edge.{Edge}
use Rattle.rtr_types.specs.declared.pairs.Which.TheVariants.{Reduced as ReducedLog}
use Rattle.rtr_types.specs.declared.params.Params.{Params}
use Rattle.rv_core.specs.States.{starting}
use Rattle.rv_core.specs.declared.core_state.Core.{Core}
use Rattle.schedule_pick.specs.Choices.{Choices, choice_at}
use Rattle.rtr_types.specs.PairEdges.{AreEdges}
use Rattle.race_log.specs.Validity.{AreVectors, Valid, bound_at}
use Rattle.race_log.specs.declared.recording.Recording.{Recording}
use Rattle.stride_vector.specs.declared.StrideVector.{StrideVector}
use Rattle.machine_bound.specs.Ends.{end_of}
use Rattle.msi_state.specs.Runs.{accesses}
use Rattle.msi_state.specs.States.{State, all_done}
use Rattle.know_history.specs.Notes.{Notes, known_at, noted_count}
use Rattle.know_history.specs.declared.known.Known.{Known}
use Rattle.edge_regulate.specs.Regulated.{Knowledge, regulated}
use Rattle.edge_regulate.proofs.Regulations.{end_law, up_to_law}
use Rattle.machine_known.specs.Events.{happening_at}
use Rattle.machine_known.specs.RunHistory.{IsHistoryOf}
use Rattle.online_reduce.proofs.ByPair.{length-by_pair}
use Rattle.online_reduce.specs.Exact.{IsReduction}
use Rattle.online_reduce.specs.Reduced.{Reduced, count_of}
use Rattle.regulated_log.proofs.AllPairs.{valid_law}
use Rattle.regulated_log.proofs.KnownRetired as happened
use Rattle.regulated_log.proofs.InOrder.{within_law}
use Rattle.regulated_log.specs.Happened.{retirements}
use Rattle.replay_core.specs.Orders.{IsWhole}
use Rattle.replay_core.specs.Plans.{plan_of}
use Rattle.run_outcome.proofs.OutcomeFits.{run_fits_law}
use Rattle.run_outcome.proofs.RunPlaces.{at_end, cores_are}
use Rattle.run_outcome.specs.Outcomes.{RunFits, outcome_of}
use Rattle.run_records.proofs.KnownRuns.{counts_known, known_counted, known_same, run_past}
use Rattle.run_records.proofs.KeptRegulation.{edges_noted}
use Rattle.run_records.proofs.RecordedPlaces.{counts_noted}
use Rattle.least_lists.proofs.LeastLists.{reduced_lists}
use Rattle.least_lists.specs.LeastLists.{least_lists}
use Rattle.run_records.specs.Recordings.{recording_from, recording_of, reduced_of, regulated_of, run_accesses}
use Rattle.run_records.specs.Recordings.{run_knowledge, totals_of}
use Rattle.run_records.specs.WhatIsKnown.{CountsKnown}
use Rattle.run_records.specs.Clerks.{Noted}
use Rattle.run_records.specs.Standing.{NotesAt, Regulates}

-- ---- validity

-- what is recorded of a run that left these cores, with these edges and no vectors
abbrev pub bare : Params → Contents → List Core → List (List (ℕ × ℕ)) → Recording
bare params image cores lists =
    recording_from params image cores lists (replicate {A = List StrideVector} (pair_count params.cores) [])

-- where cores and reduction fit each other it is valid
pub valid_from : (params : Params) (image : Contents) (left : List Core) (list : List Access) (r : Reduced)
    (edges : List Edge) → Fits params →
    length image.bytes ≤ 4 * params.words → length left ≡ params.cores → All (λ k. k.count ≤ params.limit) left →
    r.cores ≡ params.cores →
    ((core : ℕ) → core < params.cores → slice_index (totals_of left) core ≡ count_of r core) →
    IsReduction list r edges →
    Valid (bare params image left r.lists)
valid_from params image left list r edges fits room few limited cores counts h = record {
  params = fits;
  image = room;
  each_core = each;
  totals = All-map (λ t. t ≤ params.limit) (λ (k : Core). k.count) left limited;
  each_reduced = ap length h.by_pairs ∙ length-by_pair r.cores edges ∙ ap pair_count cores;
  reduced = λ place lt.
      let below : place < pair_count r.cores = rw cores lt in
      let pair = (places-paired r.cores place below).0 in
      subst (λ (most : ℕ × ℕ). AreEdges most (slice_index_or r.lists place [])) (bound place pair.source pair.target)
      (h.rising place below);
  each_regulated = length-replicate {A = List StrideVector} (pair_count params.cores) [];
  regulated = λ place lt.
      subst (λ (vs : List StrideVector). AreVectors (bound_at totals place) vs)
      (sym (get_or-replicate {A = List StrideVector} (pair_count params.cores) place [] [] lt)) tt;
}
  where
    totals : List ℕ
    totals = totals_of left

    each : length (totals_of left) ≡ params.cores
    each = length-map left (λ (k : Core). k.count) ∙ few

    bound : (place : ℕ) → source_at r.cores place < r.cores → target_at r.cores place < r.cores →
        ◌≡◌ {A = ℕ × ℕ} (count_of r (source_at r.cores place), count_of r (target_at r.cores place))
        (bound_at (totals_of left) place)
    bound place source target =
        let long : length (totals_of left) ≡ r.cores = each ∙ sym cores in
        let first : slice_index (totals_of left) (source_at r.cores place) ≡ count_of r (source_at r.cores place) =
        counts (source_at r.cores place) (omega (arith, source, cores)) in
        let second : slice_index (totals_of left) (target_at r.cores place) ≡ count_of r (target_at r.cores place) =
        counts (target_at r.cores place) (omega (arith, target, cores)) in
        rw long (pair_is (sym first) (sym second))
      where
        pair_is : {a b c d : ℕ} → a ≡ c → b ≡ d → ◌≡◌ {A = ℕ × ℕ} (a, b) (c, d)
        pair_is p q = cc

-- ---- the parts of the recording

-- a recording with these parts is that of the run
pub recording_made : (image : Contents) (params : Params) (schedule : Choices) (bytes totals : List ℕ)
    (reduced : List (List (ℕ × ℕ)))
    (vectors : List (List StrideVector)) → bytes ≡ image.bytes →
    totals ≡ totals_of (outcome_of image params schedule).cores →
    reduced ≡ reduced_of image params schedule → vectors ≡ regulated_of image params schedule →
    record {
      params = params;
      image = bytes;
      totals = totals;
      reduced = reduced;
      regulated =
          vectors;
    } ≡ recording_of image params schedule
unfolding recording_of
recording_made image params schedule bytes totals reduced vectors bytes_are totals_are reduced_are vectors_are =
    let made : List ℕ → List ℕ → List (List (ℕ × ℕ)) → List (List StrideVector) → Recording =
    λ b t r v. record { params = params; image = b; totals = t; reduced = r; regulated = v } in
    ap (λ b. made b totals reduced vectors) bytes_are
    ∙ ap (λ t. made image.bytes t reduced vectors) totals_are
    ∙ ap (λ r. made image.bytes (totals_of (outcome_of image params schedule).cores) r vectors) reduced_are
    ∙ ap (made image.bytes (totals_of (outcome_of image params schedule).cores) (reduced_of image params schedule))
    vectors_are

-- ---- the end of a run

-- the counts of the cores are the reduction's
counts_are : (image : Contents) (params : Params) (schedule : Choices) (t : ℕ) (s : State Times Known) (r : Reduced)
    (notes : Notes)
    (rest : Choices) → NotesAt image params schedule t s r notes rest → (core : ℕ) → core < params.cores →
    slice_index (totals_of s.cores) core ≡ count_of r core
counts_are image params schedule t s r notes rest h core lt =
    let few : length s.cores ≡ params.cores = h.run.cores in
    let within : core < length s.cores = omega (arith, lt, few) in
    get_or-map (λ (k : Core). k.count) s.cores core (starting 0 0) 0 within
    ∙ h.machine.counts core within
    ∙ sym (h.reduces.counts core (omega (arith, lt, h.cores)))

-- what holds at the end
pub record Ended (image : Contents) (params : Params) (schedule : Choices) (s : State Times Known) (r : Reduced)
    (notes : Notes)
    : Type 0 where
  pub cores_are : s.cores ≡ (outcome_of image params schedule).cores
  pub edges : List Edge
  pub reduction : IsReduction (run_accesses image params schedule) r edges
  pub cores : r.cores ≡ params.cores
  pub counts : (core : ℕ) → core < params.cores → slice_index (totals_of s.cores) core ≡ count_of r core
  pub noted : (core : ℕ) → core < r.cores → count_of r core ≡ noted_count notes core
  pub within : (place : ℕ) → place < pair_count r.cores →
      AllByRecursion (λ (e : ℕ × ℕ). e.1 ≤ noted_count notes (target_at r.cores place))
      (slice_index_or r.lists place [])
  pub history : IsHistoryOf image params (choice_at schedule) (end_of image params (choice_at schedule)) notes

pub ended : (image : Contents) (params : Params) (schedule : Choices) (t : ℕ) (s : State Times Known) (r : Reduced)
    (notes : Notes)
    (rest : Choices) → Fits params → all_done s ≡ true → NotesAt image params schedule t s r notes rest →
    Ended image params schedule s r notes
unfolding run_accesses
ended image params schedule t s r notes rest fits done n =
    let last : t ≡ end_of image params (choice_at schedule) =
    at_end image params schedule t s rest fits done n.run in
    let few : length s.cores ≡ params.cores = n.run.cores in
    record {
      cores_are = cores_are image params schedule t s rest fits done n.run;
      edges = n.edges;
      reduction = subst (λ (u : ℕ). IsReduction (accesses image params (choice_at schedule) u) r n.edges) last
          n.reduces.reduction;
      cores = n.cores;
      counts = counts_are image params schedule t s r notes rest n;
      noted = counts_noted image params schedule t s r notes rest n;
      within = edges_noted image params schedule t s r notes rest n;
      history = subst (λ (u : ℕ). IsHistoryOf image params (choice_at schedule) u notes) last
          (record {
            noted = λ core lt. n.knows.noted core (subst (λ (k : ℕ). core < k) (sym few) lt);
            knows =
                n.knows.history;
          });
    }

-- the clerk's vectors are those by what is noted
pub regulated_by : (notes : Notes) (c : Noted) → Regulates notes c →
    c.regulation.regulation.vectors ≡ regulated c.reduction.state.cores (known_at notes) c.reduction.state.lists
regulated_by notes c h =
    end_law notes c.reduction.state.lists c.regulation.regulation h.follows.regulation
    ∙ ap (λ (n : ℕ). regulated n (known_at notes) c.reduction.state.lists) h.cores

-- what is recorded there, with these vectors
abbrev pub recording_left : Params → State Times Known → Reduced → List (List StrideVector) → Recording
recording_left params s r vectors = recording_from params s.image s.cores r.lists vectors

module _ (image : Contents) (params : Params) (schedule : Choices) (s : State Times Known) (r : Reduced) (notes : Notes)
    (vectors : List (List StrideVector)) (fits : Fits params) (same : s.image ≡ image) (h : Ended image params schedule
    s r notes)
    (vectors_here : vectors ≡ regulated r.cores (known_at notes) r.lists) where
  abbrev run_known : Knowledge
  run_known = run_knowledge image params schedule

  -- the lists are those of the covering pairs
  pub lists_are : r.lists ≡ least_lists params.cores (run_accesses image params schedule)
  lists_are = reduced_lists (run_accesses image params schedule) r h.edges h.reduction
      ∙ ap (λ (n : ℕ). least_lists n (run_accesses image params schedule)) h.cores

  -- the vectors are those of the edges by whatever counts what is known
  pub vectors_by : (known : Knowledge) → CountsKnown image params schedule known →
      vectors ≡ regulated params.cores known r.lists
  vectors_by known counts =
      vectors_here
      ∙ ap (λ (n : ℕ). regulated n (known_at notes) r.lists) h.cores
      ∙ up_to_law params.cores (known_at notes) known r.lists (noted_count notes)
      (λ core count «of» pair le.
      let noted = h.history.noted core pair.target in
      known_same image params schedule fits (known_at notes) known (counts_known image params schedule fits notes
      h.history) counts
      core count «of» pair (omega arith))
      (subst (λ (n : ℕ). (place : ℕ) → place < pair_count n →
      AllByRecursion (λ (e : ℕ × ℕ). e.1 ≤ noted_count notes (target_at n place)) (slice_index_or r.lists place []))
      h.cores h.within)

  -- so those by what is known in the run
  vectors_are : vectors ≡ regulated params.cores (run_knowledge image params schedule) r.lists
  vectors_are =
      vectors_by run_known (known_counted image params schedule fits)

  -- and they are the run's regulated log
  pub regulated_are : vectors ≡ regulated_of image params schedule
  regulated_are = vectors_are ∙ ap (λ (ls : List (List (ℕ × ℕ))). regulated params.cores run_known ls) lists_are

  -- the recording is the one that the definition names
  pub recording_is : recording_left params s r vectors ≡ recording_of image params schedule
  unfolding recording_of
  recording_is =
      ap (λ (i : Contents). recording_from params i s.cores r.lists vectors) same
      ∙ ap (λ (ks : List Core). recording_from params image ks r.lists vectors) h.cores_are
      ∙ ap (λ (ls : List (List (ℕ × ℕ))). recording_from params image (outcome_of image params schedule).cores ls
      vectors) lists_are
      ∙ ap (λ (vs : List (List StrideVector)). recording_from params image (outcome_of image params schedule).cores
      (reduced_of image params schedule) vs)
      regulated_are

  -- what is recorded but for the vectors is valid
  bare_valid : image.words ≡ params.words → length image.bytes ≤ 4 * params.words →
      Valid (bare params image s.cores r.lists)
  bare_valid words room =
      let run : RunFits image params (outcome_of image params schedule) =
      run_fits_law image params schedule fits words in
      valid_from params image s.cores (run_accesses image params schedule) r h.edges fits room (ap length h.cores_are
      ∙ run.cores)
      (subst (λ (ks : List Core). All (λ k. k.count ≤ params.limit) ks) (sym h.cores_are) run.counts) h.cores h.counts
      h.reduction

  -- the order of retirement is whole
  order_whole : length (totals_of s.cores) ≡ params.cores →
      IsWhole (plan_of ReducedLog (bare params image s.cores r.lists))
      (retirements (happening_at image params (choice_at schedule)) (end_of image params (choice_at schedule)))
  order_whole long = record {
    each = λ core lt.
        let within : core < params.cores = omega (arith, lt, long) in
        happened.counts_are (happening_at image params (choice_at schedule)) (end_of image params (choice_at schedule))
        core
        ∙ sym (h.history.noted core within) ∙ sym (h.noted core (omega (arith, within, h.cores)))
        ∙ sym (h.counts core within);
  }

  pub recording_valid : image.words ≡ params.words → length image.bytes ≤ 4 * params.words →
      Valid (recording_left params s r vectors)
  recording_valid words room =
      let valid = bare_valid words room in
      let order = retirements (happening_at image params (choice_at schedule))
      (end_of image params (choice_at schedule)) in
      let within = within_law run_known order (bare params image s.cores r.lists) valid
      (run_past image params schedule fits) (order_whole valid.each_core) in
      subst (λ (i : Contents). Valid (recording_from params i s.cores r.lists vectors)) (sym same)
      (subst (λ (vs : List (List StrideVector)). Valid (recording_from params image s.cores r.lists vs))
      (sym vectors_are) (valid_law run_known (bare params image s.cores r.lists) valid within))
