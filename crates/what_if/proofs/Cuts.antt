-- The timeline as far as a cut is kept whole, and comes to the cut's state.
use Rattle.std.proofs.Common.{◌≡◌, ℕ, ◌+◌, ◌<◌, ◌≤◌, Bool, true, false, List, [], ◌∷◌, ◌++◌, length, get_or, replicate}
use Rattle.std.proofs.Common.{◌⊎◌, inl, inr, refl, sym, ap, subst, ◌∙◌, arith}
use Rattle.std.proofs.Math.Path.{fun_ext}
use Rattle.std.proofs.lemmas.Bool.{cases_lt}
use Rattle.std.proofs.lemmas.List.{get_or-replicate, get_or_past, length-replicate}
use Rattle.std.specs.Prelude.{map, slice_index, slice_index_or}
use Rattle.std.specs.List.{flat_map, range_with_len}
use Rattle.rtr_types.specs.Pairs.{pair_count, source_at, target_at}
use Rattle.rtr_types.specs.declared.cut.Cut.{Cut}
use Rattle.rtr_types.specs.declared.instr.Edge.{Edge}
use Rattle.rtr_types.specs.declared.pairs.Which.{Which}
use Rattle.rtr_types.specs.declared.pairs.Which.TheVariants.{Reduced}
use Rattle.race_log.specs.Sources.{edge_between, edges_at, log_edges}
use Rattle.race_log.specs.declared.recording.Recording.{Recording}
use Rattle.race_log.specs.Validity.{Valid}
use Rattle.rv_core.specs.declared.outcome.Outcome.{Outcome}
use Rattle.rv_core.specs.Steps.{is_done}
use Rattle.replay_core.specs.Laws.{PlayKnown}
use Rattle.replay_core.specs.Plans.{Plan, plan_of}
use Rattle.replay_core.specs.Orders.{Ordered, Ready, Sourced, bump, counts, counts_in, is_ready, nought}
use Rattle.replay_core.specs.Play.{Plays, need_at, place, play, start}
use Rattle.replay_core.proofs.Images.{by_image, same_start}
use Rattle.replay_core.proofs.Places.{place_known, start_known}
use Rattle.replay_core.proofs.Ready.{ready_is}
use Rattle.replay_audit.specs.Determinate.{IsDeterminate}
use Rattle.cut_replay.specs.ClosedCuts.{IsClosed, IsContained, count_in}
use Rattle.cut_replay.specs.CutStates.{IsStateAt, PlaysTo}
use Rattle.cut_moves.specs.Rounds.{rounds_of}
use Rattle.cut_moves.specs.Ways.{LeadsTo, way_of}
use Rattle.cut_moves.proofs.Hulls.{empty_cut, none_in}
use Rattle.cut_moves.proofs.TakenWay.{leading_way, ordered_way}
use Rattle.what_if.specs.Laws.{CutFirstLaw}
use Rattle.what_if.specs.Others.{free_of, free_plan, goes_on, left_by, tried}
use Rattle.what_if.proofs.Tries.{going_goes, tried_goes}

-- ---- there is no edge

no_pair : (n place : ℕ) → (place < n) ⊎ (n ≤ place) → slice_index_or (replicate {A = List (ℕ × ℕ)} n []) place [] ≡ []
no_pair n place (inl lt) = get_or-replicate n place [] [] lt
no_pair n place (inr past) = get_or_past (replicate {A = List (ℕ × ℕ)} n []) place []
    (let long = length-replicate {A = List (ℕ × ℕ)} n [] in omega arith)

flat_none : (f : ℕ → List Edge) → ((place : ℕ) → f place ≡ []) → (places : List ℕ) → flat_map f places ≡ []
flat_none f none [] = refl
flat_none f none (place ∷ places) =
    ap (λ (l : List Edge). l ++ flat_map f places) (none place) ∙ flat_none f none places

pub no_log : (r : Recording) → log_edges Reduced (free_of r) ≡ []
unfolding log_edges
no_log r = flat_none (edges_at Reduced (free_of r))
    (λ place. let n = pair_count r.params.cores in
    ap (λ (l : List (ℕ × ℕ)). map (edge_between (source_at r.params.cores place) (target_at r.params.cores place)) l)
    (no_pair n place (cases_lt place n)))
    (range_with_len 0 (pair_count r.params.cores))

-- ---- each place of a play goes on

module _ (which : Which) (r : Recording) (valid : Valid r) where
  abbrev p : Plan
  p = plan_of which r

  abbrev q : Plan
  q = free_plan r

  pub cores_are : length q.totals ≡ r.params.cores
  cores_are = length-replicate r.params.cores r.params.limit

  pub ready_free : (f : ℕ → ℕ) (s : Outcome) (c : ℕ) → counts_in s ≡ f → Ready p f c → is_ready q (counts_in s) c ≡ true
  ready_free f s c same ready =
      let inside = ready.inside in
      let all = valid.each_core in
      let few = cores_are in
      let below = ready.below in
      let most : slice_index r.totals c ≤ r.params.limit = valid.totals c 0 inside in
      let limit : slice_index q.totals c ≡ r.params.limit =
      get_or-replicate r.params.cores c r.params.limit 0 (omega arith) in
      let count : counts_in s c ≡ f c = ap (λ (g : ℕ → ℕ). g c) same in
      ready_is q (counts_in s) c (record {
        inside = omega arith;
        below = omega arith;
        sourced = subst (λ (es : List Edge). Sourced es (counts_in s) c (counts_in s c + 1)) (sym (no_log r)) tt;
      })

  pub all_go : (f : ℕ → ℕ) (s : Outcome) (order : List ℕ) → PlayKnown p f s → Ordered p f order → Plays p s order →
      left_by q s order ≡ play p s order
  unfolding left_by
  all_go f s [] known ordered plays = refl
  all_go f s (c ∷ cs) known ordered plays =
      let goes : goes_on q s c ≡ true = going_goes q s c (ready_free f s c known.counts ordered.0) plays.0 in
      let there : tried q s c ≡ place p s c =
      tried_goes q s c goes ∙ (by_image q p s (c ∷ []) refl).outcome in
      ap (λ (t : Outcome). left_by q t cs) there
      ∙ all_go (bump f c) (place p s c) cs (place_known p f s c known ordered.0) ordered.1 plays.1

  pub same_beginning : start q ≡ start p
  same_beginning = same_start q p refl refl (cores_are ∙ sym valid.each_core)

  -- ---- the timeline as far as a cut

  module _ (determinate : IsDeterminate which r) (cut : Cut) (closed : IsClosed which r cut) (state : Outcome)
      (is : IsStateAt which r cut state) where
    abbrev front : List ℕ
    front = way_of nought (count_in cut) (rounds_of which r)

    empty : count_in (empty_cut r.params.cores) ≡ nought
    empty = fun_ext (λ i. none_in r.params.cores i)

    front_is : front ≡ way_of (count_in (empty_cut r.params.cores)) (count_in cut) (rounds_of which r)
    front_is = ap (λ (f : ℕ → ℕ). way_of f (count_in cut) (rounds_of which r)) (sym empty)

    within : IsContained (empty_cut r.params.cores) cut
    within core = let none = none_in r.params.cores core in omega arith

    pub ordered : Ordered p nought front
    ordered = subst (λ (f : ℕ → ℕ). Ordered p f front) empty
        (ordered_way which r valid determinate (empty_cut r.params.cores) cut within closed front front_is)

    pub leads : LeadsTo nought (count_in cut) front
    leads = subst (λ (f : ℕ → ℕ). LeadsTo f (count_in cut) front) empty
        (leading_way which r valid determinate (empty_cut r.params.cores) cut within closed front front_is)

    pub plays_to : PlaysTo which r front state
    plays_to = is.every_order front (record { ordered = ordered; counts_are = leads })

    comes_to : left_by q (start q) front ≡ state
    comes_to =
        ap (λ (s : Outcome). left_by q s front) same_beginning
        ∙ all_go nought (start p) front (start_known p) ordered plays_to.plays
        ∙ sym plays_to.outcome_is

pub cut_first : CutFirstLaw
cut_first which r cut state valid determinate closed is = comes_to which r valid determinate cut closed state is
