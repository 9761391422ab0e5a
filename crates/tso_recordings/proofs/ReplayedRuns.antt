-- Every replay order of what is recorded of a run replays the run.
use Rattle.std.proofs.Common.{◌≡◌, ◌∙◌, sym, ap, subst, ℕ, ◌<◌, ◌^◌, true, List, [], ◌++◌}
use Rattle.std.proofs.Common.{length, zero-add, arith}
use Rattle.std.specs.Prelude.{map}
use Rattle.std.specs.List.{range_with_len}
use Rattle.std.proofs.lemmas.List.{ext_get_or, get_or-map, length-map}
use Rattle.std.proofs.lemmas.List.FromFn.{length-map-range_with_len, get_or-map-range_with_len}
use Rattle.access_times.specs.Riding.{none_riding, none_carrying}
use Rattle.image_mem.specs.Contents.{Contents}
use Rattle.rtr_types.specs.declared.access.Access.{Access}
use Rattle.rtr_types.specs.declared.params.Params.{Params}
use Rattle.rtr_types.specs.declared.pairs.Which.TheVariants.{Reduced as ReducedLog}
use Rattle.rv_core.specs.declared.outcome.LoadNote.{LoadNote}
use Rattle.rv_core.specs.declared.outcome.Outcome.{Outcome}
use Rattle.rv_core.specs.States.{starting}
use Rattle.rv_core.proofs.Outcomes.{outcome_eq}
use Rattle.conflict_edge.specs.Least.{IsLeast}
use Rattle.race_log.specs.Sources.{log_edges}
use Rattle.machine_data.specs.LastValues.{EachFindsLast, memory_left}
use Rattle.replay_core.specs.Orders.{IsWhole, nought}
use Rattle.replay_core.specs.Plans.{Plan}
use Rattle.replay_core.specs.Play.{core_at as play_core, given_by, start, valued_accesses, valued_played}
use Rattle.replay_core.proofs.Places.{play_start_law, start_known}
use Rattle.tso_codec.specs.declared.recording.TsoRecording.{TsoRecording}
use Rattle.tso_codec.specs.Validity.{plain_of}
use Rattle.tso_data.proofs.Remembers.{each_finds_last, final_values}
use Rattle.tso_recordings.proofs.Loads.{loads_length, loads_told as play_loads}
use Rattle.tso_recordings.proofs.Values.{values_given}
use Rattle.tso_replay.specs.Laws.{Inside, ReplaysTold}
use Rattle.tso_replay.specs.Replays.{tso_given, tso_plan}
use Rattle.tso_recordings.specs.Replays.{IsToldRun}
use Rattle.tso_recordings.specs.Tells.{cores_told}
use Rattle.tso_replay.proofs.Forward.{counted_play, counted_start}
use Rattle.tso_recordings.proofs.Replays.{least_replays}
use Rattle.tso_recordings.proofs.Tells.{told_plays}
use Rattle.tso_state.specs.Events.{Told}
use Rattle.tso_state.specs.FinalMemory.{final_memory}
use Rattle.tso_state.specs.Runs.{accesses, all_told, outcome_at, reads, run, totals}
use Rattle.tso_state.specs.States.{BufferedCore, all_done, buffered_start, core_at}
use Rattle.tso_told.specs.Played.{ordered_told, reads_told, told_core, told_of}
use Rattle.tso_told.proofs.OrderedAndLogged.{accesses_told as run_accesses_told}
use Rattle.tso_told.proofs.ToldRuns.{run_cores, told_all_reads, told_whole}
use Rattle.tso_recordings.specs.Plays.{AreGiven, AreToldOf, IsPlayed}
use Rattle.tso_recordings.proofs.Orders.{told_counts}
use Rattle.tso_recordings.proofs.Plays.{played}
use Rattle.tso_recordings.specs.Recordings.{CanRun, tso_recording_at}
use Rattle.tso_recordings.specs.RunLaws.{RunReplaysLaw, RunToldLaw, told_order}
use Rattle.tso_recordings.proofs.Totals.{all_totals, total_told}
use Rattle.tso_recordings.proofs.Valid.{recorded_here, run_order, run_told, run_values, valid_here}

-- the order plays by these accesses and to this outcome
pub record PlaysAs (r : TsoRecording) (order : List ℕ) (list : List Access) (outcome : Outcome) : Type 0 where
  pub accesses : valued_accesses (tso_given r) (tso_plan r) order ≡ list
  pub outcome_is : valued_played (tso_given r) (tso_plan r) order ≡ outcome

module _ (image : Contents) (params : Params) (choices : ℕ → ℕ) (t : ℕ) (can : CanRun image params)
    (done : all_done (run image params choices t) ≡ true) where
  small : params.limit < 2 ^ 32
  small = omega (arith, can.fits.limit)

  abbrev r : TsoRecording
  r = tso_recording_at image params choices t

  abbrev p : Plan
  p = tso_plan (tso_recording_at image params choices t)

  abbrev list : List Told
  list = all_told image params choices t

  abbrev order : List ℕ
  order = cores_told (all_told image params choices t)

  all : length (totals (run image params choices t)) ≡ params.cores
  all = all_totals image params choices t

  image_is : image ≡ (tso_plan (tso_recording_at image params choices t)).image
  image_is = ap (λ (n : ℕ). image_with n) can.memory
    where
      image_with : ℕ → Contents
      image_with n = record { bytes = image.bytes; words = n }

  told : AreToldOf (tso_plan (tso_recording_at image params choices t)).image params.limit
      (length (totals (run image params choices t))) (all_told image params choices t)
  told =
      subst (λ (n : ℕ). AreToldOf (tso_plan (tso_recording_at image params choices t)).image params.limit n
      (all_told image params choices t)) (sym all)
      (subst (λ (i : Contents). AreToldOf i params.limit params.cores (all_told image params choices t)) image_is
      (run_told image params choices t can.fits.cores small))

  finds : EachFindsLast (tso_plan (tso_recording_at image params choices t)).image
      (ordered_told (all_told image params choices t))
  finds =
      subst (λ (l : List Access). EachFindsLast (tso_plan (tso_recording_at image params choices t)).image l)
      (sym (run_accesses_told image params choices t))
      (subst (λ (i : Contents). EachFindsLast i (accesses image params choices t)) image_is
      (each_finds_last image params choices t can.fits.cores small))

  inside : Inside (length (totals (run image params choices t)))
      (cores_told (all_told image params choices t))
  inside =
      subst (λ (n : ℕ). Inside n (cores_told (all_told image params choices t))) (sym all)
      (run_order image params choices t can.fits.cores small).1

  given : AreGiven (tso_given (tso_recording_at image params choices t)) (all_told image params choices t)
  given =
      subst (λ (v : List (List (ℕ × ℕ))). AreGiven (given_by v) (all_told image params choices t))
      (sym (run_values image params choices t can.fits.cores small))
      (values_given params.cores (all_told image params choices t)
      (run_order image params choices t can.fits.cores small).0
      (run_order image params choices t can.fits.cores small).1)

  plays : IsPlayed (tso_given (tso_recording_at image params choices t))
      (tso_plan (tso_recording_at image params choices t)) (all_told image params choices t)
  plays =
      played (tso_given (tso_recording_at image params choices t)) (tso_plan (tso_recording_at image params choices t))
      (all_told image params choices t) told finds given

  abbrev play : Outcome
  play =
      valued_played (tso_given (tso_recording_at image params choices t))
      (tso_plan (tso_recording_at image params choices t))
      (cores_told (all_told image params choices t))

  whole : IsWhole (tso_plan (tso_recording_at image params choices t))
      (cores_told (all_told image params choices t))
  whole = record {
    each = λ c lt.
        told_counts nought (all_told image params choices t) c
        ∙ zero-add (length (told_of c (all_told image params choices t)))
        ∙ sym (total_told image params choices t can.fits.cores small done c (subst (λ (n : ℕ). c < n) all lt));
  }

  -- ---- what it comes to

  all_cores : length
      (valued_played (tso_given (tso_recording_at image params choices t))
      (tso_plan (tso_recording_at image params choices t))
      (cores_told (all_told image params choices t))).cores ≡ params.cores
  all_cores =
      (counted_play (tso_given r) p nought (start p) order (counted_start p) inside).cores ∙ all

  core_is : (c : ℕ) → c < params.cores →
      play_core
      (valued_played (tso_given (tso_recording_at image params choices t))
      (tso_plan (tso_recording_at image params choices t))
      (cores_told (all_told image params choices t))) c
      ≡ (core_at (run image params choices t).cores c).core
  core_is c lt =
      plays.core c (subst (λ (n : ℕ). c < n) (sym all) lt)
      ∙ ap (λ (i : Contents). told_core i (starting c params.limit) (told_of c list)) (sym image_is)
      ∙ told_whole image params choices t c can.fits.cores small lt done

  cores_same :
      (valued_played (tso_given (tso_recording_at image params choices t))
      (tso_plan (tso_recording_at image params choices t))
      (cores_told (all_told image params choices t))).cores
      ≡ map (λ (x : BufferedCore). x.core) (run image params choices t).cores
  cores_same =
      let n = run_cores image params choices t in
      let m = all_cores in
      let long : length (map (λ (x : BufferedCore). x.core) (run image params choices t).cores) ≡ params.cores =
      length-map (run image params choices t).cores (λ (x : BufferedCore). x.core) ∙ n in
      ext_get_or (starting 0 0) play.cores (map (λ (x : BufferedCore). x.core) (run image params choices t).cores)
      (m ∙ sym long)
      (λ i lt.
      core_is i (omega arith)
      ∙ sym (get_or-map (λ (x : BufferedCore). x.core) (run image params choices t).cores i (buffered_start 0 0)
      (starting 0 0) (omega arith)))

  words_same :
      (valued_played (tso_given (tso_recording_at image params choices t))
      (tso_plan (tso_recording_at image params choices t))
      (cores_told (all_told image params choices t))).words
      ≡ final_memory none_riding none_carrying (run image params choices t)
  words_same =
      plays.words
      ∙ ap (λ (i : Contents). memory_left i (ordered_told list)) (sym image_is)
      ∙ ap (memory_left image) (run_accesses_told image params choices t)
      ∙ sym (final_values image params choices t can.fits.cores small done)

  loads_same :
      (valued_played (tso_given (tso_recording_at image params choices t))
      (tso_plan (tso_recording_at image params choices t))
      (cores_told (all_told image params choices t))).loads
      ≡ map (λ (c : ℕ). reads image params choices t c) (range_with_len 0 params.cores)
  loads_same =
      let some : length (start p).loads ≡ params.cores = (start_known p).all_loads ∙ all in
      let long : length play.loads ≡ params.cores = loads_length (tso_given r) p (start p) order ∙ some in
      let other : length (map (λ (c : ℕ). reads image params choices t c) (range_with_len 0 params.cores))
      ≡ params.cores =
      length-map-range_with_len (λ (c : ℕ). reads image params choices t c) 0 params.cores in
      ext_get_or [] play.loads (map (λ (c : ℕ). reads image params choices t c) (range_with_len 0 params.cores))
      (long ∙ sym other)
      (λ i lt.
      let below : i < params.cores = omega arith in
      play_loads (tso_given r) p (start p) list i (omega arith) plays.tells
      ∙ ap (λ (l : List LoadNote). l ++ reads_told (told_of i list)) ((play_start_law p).loads i)
      ∙ sym (told_all_reads image params choices t i can.fits.cores small below done)
      ∙ sym (get_or-map-range_with_len (λ (c : ℕ). reads image params choices t c) 0 params.cores i i [] below
      (omega arith)))

  outcome_is : valued_played (tso_given (tso_recording_at image params choices t))
      (tso_plan (tso_recording_at image params choices t))
      (cores_told (all_told image params choices t)) ≡ outcome_at image params choices t
  outcome_is = outcome_eq play (outcome_at image params choices t) cores_same words_same loads_same

  -- by the accesses that the run ordered
  accesses_same : valued_accesses (tso_given (tso_recording_at image params choices t))
      (tso_plan (tso_recording_at image params choices t))
      (cores_told (all_told image params choices t)) ≡ accesses image params choices t
  accesses_same =
      (told_plays (tso_given r) p (start p) list plays.tells).1 ∙ run_accesses_told image params choices t

  pub told_here : IsToldRun (tso_recording_at image params choices t) (all_told image params choices t)
      (outcome_at image params choices t)
  told_here = record {
    inside = inside;
    whole = whole;
    tells = plays.tells;
    outcome_is = outcome_is;
    least =
        subst (λ (l : List Access). IsLeast l
        (log_edges ReducedLog (plain_of (tso_recording_at image params choices t))))
        (sym (run_accesses_told image params choices t))
        (recorded_here image params choices t can done).least;
  }

  pub replays_here : ReplaysTold (tso_recording_at image params choices t) (told_order image params choices t)
      (outcome_at image params choices t)
  replays_here =
      least_replays r list (outcome_at image params choices t) (valid_here image params choices t can done) told_here

  -- the order in which the run told its instructions plays as the run did
  pub plays_here : PlaysAs (tso_recording_at image params choices t) (told_order image params choices t)
      (accesses image params choices t) (outcome_at image params choices t)
  plays_here = record { accesses = accesses_same; outcome_is = outcome_is }

pub run_told_so : RunToldLaw
run_told_so image params choices t can done = told_here image params choices t can done

pub run_replays : RunReplaysLaw
run_replays image params choices t can done = replays_here image params choices t can done
