-- What a run is recorded as: it is valid, and its reduced log is the least set.
use Rattle.std.proofs.Common.{◌≡◌, ◌∙◌, refl, sym, ap, subst, ℕ, ◌<◌, ◌≤◌, ◌^◌, true, List, [], length}
use Rattle.std.proofs.Common.{zero-add, arith}
use Rattle.std.specs.Prelude.{map, slice_index, slice_index_or}
use Rattle.std.specs.List.{range_with_len}
use Rattle.std.proofs.lemmas.List.{get_or-replicate, length-replicate}
use Rattle.image_mem.specs.Contents.{Contents}
use Rattle.rtr_types.specs.Pairs.{pair_count, source_at, target_at}
use Rattle.rtr_types.specs.PairEdges.{AreEdges}
use Rattle.rtr_types.proofs.PairPlaces.{places-paired}
use Rattle.rtr_types.specs.declared.TheConstants.{CORES_MAX}
use Rattle.rtr_types.specs.declared.params.Params.{Params}
use Rattle.least_lists.proofs.LeastLists.{reduced_lists}
use Rattle.least_lists.proofs.Logs.{least_log}
use Rattle.least_lists.specs.LeastLists.{AreOf, least_lists}
use Rattle.race_log.specs.Validity.{AreVectors, Valid, bound_at}
use Rattle.online_reduce.proofs.ByPair.{length-by_pair}
use Rattle.online_reduce.specs.Reduced.{Reduced, count_of}
use Rattle.replay_core.specs.Orders.{nought}
use Rattle.stride_vector.specs.declared.StrideVector.{StrideVector}
use Rattle.tso_codec.specs.Validity.{IsTso, plain_of}
use Rattle.tso_recordings.proofs.ValidValues.{values_valid}
use Rattle.tso_recordings.specs.Plays.{InProgramOrder}
use Rattle.tso_recordings.proofs.Values.{values_by_core}
use Rattle.tso_records.proofs.TimedRuns.{reduction_is}
use Rattle.tso_records.specs.Records.{IsReductionOf}
use Rattle.tso_records.specs.Standings.{standing_at}
use Rattle.tso_replay.specs.Laws.{Inside}
use Rattle.tso_recordings.specs.Tells.{cores_told}
use Rattle.tso_state.specs.Runs.{LoggedLoad, accesses, all_told, run, totals, values_at, values_of}
use Rattle.tso_state.specs.States.{all_done}
use Rattle.tso_told.specs.Played.{told_of}
pub use Rattle.tso_told.proofs.OrderedAndLogged.{loads_told}
use Rattle.tso_told.proofs.ToldRuns.{told_inside, told_right}
use Rattle.tso_recordings.specs.Plays.{AreToldOf}
use Rattle.tso_recordings.proofs.Orders.{in_order, told_counts}
use Rattle.tso_recordings.specs.Recordings.{CanRun, tso_recording_at}
use Rattle.tso_recordings.specs.RunLaws.{IsRecorded, RecordedLaw, ValidLaw}
pub use Rattle.tso_data.proofs.ByteWords.{opens_small}
use Rattle.tso_data.proofs.LoggedWords.{small_told}
use Rattle.tso_recordings.proofs.Totals.{all_totals, total_told, totals_fit}

-- ---- what was told

module _ (image : Contents) (params : Params) (choices : ℕ → ℕ) (t : ℕ) (few : params.cores ≤ CORES_MAX)
    (small : params.limit < 2 ^ 32) where
  pub run_told : AreToldOf image params.limit params.cores (all_told image params choices t)
  run_told = record {
    inside = told_inside image params choices t few small;
    next = λ c lt. told_right image params choices t c few small lt;
  }

  pub run_order : InProgramOrder nought (all_told image params choices t) × Inside params.cores
      (cores_told (all_told image params choices t))
  run_order = in_order image params.limit params.cores (all_told image params choices t) run_told

  -- the recorded words are those that were told
  pub run_values : values_at image params choices t
      ≡ values_by_core params.cores (all_told image params choices t)
  run_values =
      ap (λ (l : List LoggedLoad). map (λ c. values_of c l) (range_with_len 0 params.cores))
      (sym (loads_told image params choices t))

-- ---- the recording

module _ (image : Contents) (params : Params) (choices : ℕ → ℕ) (t : ℕ) (can : CanRun image params)
    (done : all_done (run image params choices t) ≡ true) where
  few : params.cores ≤ CORES_MAX
  few = can.fits.cores

  small : params.limit < 2 ^ 32
  small = omega (arith, can.fits.limit)

  abbrev reduction : Reduced
  reduction = (standing_at image params choices t).reduction

  reduces : IsReductionOf image params choices t (standing_at image params choices t).reduction
      (standing_at image params choices t).edges
  reduces = reduction_is image params choices t few small

  of_cores : AreOf params.cores (accesses image params choices t)
  of_cores a stands = subst (λ (n : ℕ). a.at.core < n) reduces.cores (reduces.reduction.exact.within a stands).0

  lists : (standing_at image params choices t).reduction.lists
      ≡ least_lists params.cores (accesses image params choices t)
  lists =
      reduced_lists (accesses image params choices t) reduction
      (standing_at image params choices t).edges reduces.reduction
      ∙ ap (λ (n : ℕ). least_lists n (accesses image params choices t)) reduces.cores

  counts_are : (c : ℕ) → c < params.cores →
      count_of (standing_at image params choices t).reduction c ≡ slice_index (totals (run image params choices t)) c
  counts_are c lt = reduces.counts c lt ∙ sym (total_told image params choices t few small done c lt)

  bound : (place : ℕ) → source_at (standing_at image params choices t).reduction.cores place < params.cores →
      target_at (standing_at image params choices t).reduction.cores place < params.cores →
      ◌≡◌ {A = ℕ × ℕ} (
        count_of (standing_at image params choices t).reduction
            (source_at (standing_at image params choices t).reduction.cores place),
        count_of (standing_at image params choices t).reduction
            (target_at (standing_at image params choices t).reduction.cores place),
      )
      (bound_at (totals (run image params choices t)) place)
  bound place source target =
      let long : length (totals (run image params choices t)) ≡ reduction.cores =
      all_totals image params choices t ∙ sym reduces.cores in
      let first = counts_are (source_at reduction.cores place) source in
      let second = counts_are (target_at reduction.cores place) target in
      rw long (pair_is first second)
    where
      pair_is : {a b c d : ℕ} → a ≡ c → b ≡ d → ◌≡◌ {A = ℕ × ℕ} (a, b) (c, d)
      pair_is p q = cc

  plain : Valid (plain_of (tso_recording_at image params choices t))
  plain = record {
    params = can.fits;
    image = can.room;
    each_core = all_totals image params choices t;
    totals = totals_fit image params choices t few small done;
    each_reduced =
        ap length (sym lists) ∙ ap length reduces.reduction.by_pairs
        ∙ length-by_pair reduction.cores (standing_at image params choices t).edges
        ∙ ap pair_count reduces.cores;
    reduced = λ place lt.
        let below : place < pair_count reduction.cores =
        subst (λ (n : ℕ). place < pair_count n) (sym reduces.cores) lt in
        let pair = (places-paired reduction.cores place below).0 in
        let source : source_at reduction.cores place < params.cores =
        subst (λ (n : ℕ). source_at reduction.cores place < n) reduces.cores pair.source in
        let target : target_at reduction.cores place < params.cores =
        subst (λ (n : ℕ). target_at reduction.cores place < n) reduces.cores pair.target in
        subst (λ (ls : List (List (ℕ × ℕ))). AreEdges (bound_at (totals (run image params choices t)) place)
        (slice_index_or ls place [])) lists
        (subst (λ (most : ℕ × ℕ). AreEdges most (slice_index_or reduction.lists place [])) (bound place source target)
        (reduces.reduction.rising place below));
    each_regulated = length-replicate {A = List StrideVector} (pair_count params.cores) [];
    regulated = λ place lt.
        subst (λ (vs : List StrideVector). AreVectors (bound_at (totals (run image params choices t)) place) vs)
        (sym (get_or-replicate {A = List StrideVector} (pair_count params.cores) place [] [] lt)) tt;
  }

  pub recorded_here : IsRecorded image params choices t
  recorded_here = record {
    plain = plain;
    least =
        least_log (plain_of (tso_recording_at image params choices t))
        (accesses image params choices t) reduces.reduction.exact.rise of_cores refl;
    lists = lists;
  }

  pub valid_here : IsTso (tso_recording_at image params choices t)
  valid_here =
      let n = all_totals image params choices t in
      values_valid (tso_recording_at image params choices t) (all_told image params choices t) plain
      (run_order image params choices t few small).0
      (λ c lt.
      let inside : c < params.cores = subst (λ (m : ℕ). c < m) n lt in
      told_counts nought (all_told image params choices t) c
      ∙ zero-add (length (told_of c (all_told image params choices t)))
      ∙ sym (total_told image params choices t few small done c inside))
      (small_told image params choices t few small can.words)
      (run_values image params choices t few small
      ∙ ap (λ (m : ℕ). values_by_core m (all_told image params choices t)) (sym n))

pub recorded : RecordedLaw
recorded image params choices t can done = recorded_here image params choices t can done

pub is_valid : ValidLaw
is_valid image params choices t can done = valid_here image params choices t can done
