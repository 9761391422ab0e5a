-- What a test says of a place of a way is told by the core's count there. So the first place of the timeline before
-- which it stops on the way is the way's first stop, and the last one its last.
use Rattle.std.proofs.Common.{inl, inr, ◌≡◌, ◌⊎◌, ℕ, zero, suc, ◌+◌, ◌<◌, ◌≤◌, Bool, true, false, ◌&&◌, List, [], ◌∷◌}
use Rattle.std.proofs.Common.{length, take, drop, refl, sym, ap, subst, ◌∙◌, arith}
use Rattle.std.specs.Prelude.{slice_index, nat_le, nat_lt, None, Some}
use Rattle.std.proofs.lemmas.Bool.{cases_lt, leb-true, ltb-true}
use Rattle.std.proofs.lemmas.List.{drop_more, get_or-take, get_or_past, take-append-drop, take-take}
use Rattle.rtr_types.specs.declared.TheConstants.{CORES_MAX}
use Rattle.rtr_types.specs.declared.cut.Cut.{Cut}
use Rattle.rtr_types.specs.declared.pairs.Which.{Which}
use Rattle.rv_core.specs.declared.core_state.Core.{Core}
use Rattle.rv_core.specs.declared.outcome.Outcome.{Outcome}
use Rattle.race_log.specs.declared.recording.Recording.{Recording}
use Rattle.race_log.specs.Validity.{Valid}
use Rattle.replay_core.specs.Answers.{cut_of}
use Rattle.replay_core.specs.Orders.{Ordered, Ready, counts, counts_in, nought}
use Rattle.replay_core.specs.Plans.{Plan, plan_of, recorded_image}
use Rattle.replay_core.specs.Play.{core_at, place, play}
use Rattle.replay_core.proofs.Lists.{ordered_on}
use Rattle.replay_audit.specs.Determinate.{IsDeterminate}
use Rattle.cut_replay.specs.ClosedCuts.{count_in, IsClosed, IsContained, IsCutOf}
use Rattle.cut_replay.specs.CutStates.{IsStateAt}
use Rattle.cut_replay.proofs.Unique.{one_cut, one_state_law}
use Rattle.cut_moves.specs.Rounds.{rounds_of}
use Rattle.cut_moves.specs.Ways.{ClosedUnder, is_on_way, way_before, way_of}
use Rattle.cut_moves.proofs.Fronts.{count_is}
use Rattle.cut_moves.proofs.Rounds.{rounds_ordered}
use Rattle.cut_moves.proofs.TakenWay.{in_totals}
use Rattle.cut_moves.proofs.WayPlaces.{before_ordered, both, count_on, counts_before, front_taken}
use Rattle.cut_moves.proofs.WayPlaces.{place_inside, place_of, place_there, rest_behind, way_grows, way_split}
use Rattle.cut_moves.proofs.WayPlaces.{way_gains, way_whole}
use Rattle.cut_moves.proofs.Along.{on_is}
use Rattle.cut_index.specs.AloneLaws.{alone_at}
use Rattle.cut_index.specs.Runs.{next_of}
use Rattle.cut_index.specs.Standings.{reached}
use Rattle.cut_index.proofs.AtCuts.{reached_at, reached_count}
use Rattle.cut_index.proofs.CoresAlone.{alone_at_law}
use Rattle.debug_place.specs.Backs.{GoesBack, IsLastStop, NoneBelow, stops_before}
use Rattle.debug_place.specs.Hits.{Hits, IsFirst, IsLast, NoneIn, hit, hit_in, stops_before_place, stops_on}
use Rattle.debug_place.specs.Places.{Placed}
use Rattle.debug_place.specs.Stops.{GoesOn, IsFirstStop, NoneStops}
use Rattle.debug_place.proofs.AtCuts.{cut_is, stands_at}
use Rattle.debug_place.proofs.OwnCuts.{its_counts}
use Rattle.debug_place.proofs.StateAtStop.{cut_behind, state_behind}

-- where it stops before no number of a list, it stops before none of its places
none_stops : (stops : Plan → Outcome → ℕ → Bool) (p : Plan) (s : Outcome) (places : List ℕ) →
    ((i : ℕ) → i < length places → stops_before stops p s places i ≡ false) → NoneStops stops p s places
none_stops stops p s [] none = tt
none_stops stops p s (core ∷ rest) none =
    (none 0 (omega arith), none_stops stops p (place p s core) rest (λ i lt. none (suc i) (omega arith)))

none_listed : (stops : Plan → Outcome → ℕ → Bool) (p : Plan) (s : Outcome) (places : List ℕ) →
    NoneStops stops p s places → NoneBelow stops p s places (length places)
none_listed stops p s [] none i lt = absurd (omega arith)
none_listed stops p s (core ∷ rest) none zero lt = none.0
none_listed stops p s (core ∷ rest) none (suc i) lt = none_listed stops p (place p s core) rest none.1 i (omega arith)

-- the core of each place of the timeline is ready there, and is one of the recording's
pub ready_at : (which : Which) (r : Recording) (n : ℕ) → n < length (rounds_of which r) →
    Ready (plan_of which r) (counts nought (take n (rounds_of which r))) (slice_index (rounds_of which r) n)
ready_at which r n lt =
    let p = plan_of which r in
    let line = rounds_of which r in
    (subst (λ (l : List ℕ). Ordered p (counts nought (take n line)) l) (drop_more line n 0 lt)
    ((ordered_on p nought (take n line) (drop n line)).0
    (subst (λ (l : List ℕ). Ordered p nought l) (sym (take-append-drop n line)) (rounds_ordered p))).1).0

pub line_cores : (which : Which) (r : Recording) → Valid r → (n : ℕ) → n < length (rounds_of which r) →
    slice_index (rounds_of which r) n < r.params.cores
line_cores which r valid n lt = let all = valid.each_core in let i = (ready_at which r n lt).inside in omega arith

-- the state at a closed cut, as a place has it
abbrev pub placed_at : Which → Recording → Cut → Placed
placed_at which r cut = record { recording = r; which = which; state = reached which r cut }

-- the cut has the way's counts before a place
pub record IsCutBefore (which : Which) (r : Recording) (low high : Cut) (n : ℕ) (cut : Cut) : Type 0 where
  pub cores : cut.cores ≡ low.cores
  pub places : length cut.counts ≡ CORES_MAX
  pub counts_are : (core : ℕ) → core < CORES_MAX → count_in cut core
      ≡ counts (count_in low) (way_before (count_in low) (count_in high) (rounds_of which r) n) core

-- the timeline has as many of each core's instructions as a closed cut
pub in_line : (which : Which) (r : Recording) → Valid r → IsDeterminate which r → (low high : Cut) →
    IsContained low high → IsClosed which r high → (core : ℕ) →
    count_in high core ≤ counts nought (rounds_of which r) core
in_line which r valid determinate low high within closed core =
    in_totals which r valid determinate low high within closed
    (way_of (count_in low) (count_in high) (rounds_of which r)) refl core

module _ (stops : Plan → Outcome → ℕ → Bool) (hits : Hits)
    (own : (p : Plan) (s : Outcome) (core : ℕ) → stops p s core ≡ hit_in hits p s core) (which : Which)
    (r : Recording) (valid : Valid r) (determinate : IsDeterminate which r) (low high : Cut)
    (begins : IsClosed which r low) (ends : IsClosed which r high) (within : IsContained low high) where
  abbrev p : Plan
  p = plan_of which r

  abbrev line : List ℕ
  line = rounds_of which r

  abbrev s : Outcome
  s = reached which r low

  abbrev way : List ℕ
  way = way_of (count_in low) (count_in high) (rounds_of which r)

  abbrev front : (n : ℕ) → List ℕ
  front n = way_before (count_in low) (count_in high) (rounds_of which r) n

  abbrev on : (n : ℕ) → Bool
  on n = is_on_way (count_in low) (count_in high) (rounds_of which r) n

  low_counts : count_in low ≡ counts_in (reached which r low)
  low_counts = its_counts (stands_at which r valid determinate low begins)

  closed_under : ClosedUnder (plan_of which r).edges (count_in high)
  closed_under e has holds = ends.sources e.from e.to has holds

  front_ordered : (n : ℕ) → Ordered (plan_of which r) (counts_in (reached which r low))
      (way_before (count_in low) (count_in high) (rounds_of which r) n)
  front_ordered n = subst (λ (f : ℕ → ℕ). Ordered p f (front n)) low_counts
      (before_ordered (count_in low) (count_in high) line p (rounds_ordered p) closed_under within n)

  at_low : IsStateAt which r low (reached which r low)
  at_low = reached_at which r valid determinate low begins

  -- the cut that the way has come to before a place
  abbrev pub cut_there : (n : ℕ) → Cut
  cut_there n = cut_of (plan_of which r) (counts (counts_in (reached which r low))
      (way_before (count_in low) (count_in high) (rounds_of which r) n))

  closed_there : (n : ℕ) → IsClosed which r (cut_there n)
  closed_there n = cut_behind which r low s at_low (front n) (front_ordered n) valid

  state_there : (n : ℕ) → reached which r (cut_there n) ≡ play (plan_of which r) (reached which r low)
      (way_before (count_in low) (count_in high) (rounds_of which r) n)
  state_there n =
      state_behind which r low s at_low (front n) (front_ordered n) valid (cut_there n)
      (reached which r (cut_there n)) (reached_at which r valid determinate (cut_there n) (closed_there n)) refl

  -- ---- a place that is on the way

  module _ (n : ℕ) (lt : n < length (rounds_of which r))
      (is_on : is_on_way (count_in low) (count_in high) (rounds_of which r) n ≡ true) where
    abbrev core : ℕ
    core = slice_index (rounds_of which r) n

    abbrev count : ℕ
    count = counts nought (take n (rounds_of which r)) (slice_index (rounds_of which r) n)

    inside : slice_index (rounds_of which r) n < r.params.cores
    inside = line_cores which r valid n lt

    cut_count : count_in (cut_there n) (slice_index (rounds_of which r) n)
        ≡ counts nought (take n (rounds_of which r)) (slice_index (rounds_of which r) n)
    cut_count =
        count_is which r valid (counts (counts_in s) (front n)) core inside
        ∙ ap (λ (f : ℕ → ℕ). counts f (front n) core) (sym low_counts)
        ∙ count_on (count_in low) (count_in high) line within n is_on

    counted : counts_in (reached which r (cut_there n)) (slice_index (rounds_of which r) n)
        ≡ counts nought (take n (rounds_of which r)) (slice_index (rounds_of which r) n)
    counted = reached_count which r valid determinate (cut_there n) (closed_there n) core ∙ cut_count

    alone : core_at (reached which r (cut_there n)) (slice_index (rounds_of which r) n)
        ≡ (alone_at which r (slice_index (rounds_of which r) n)
        (counts nought (take n (rounds_of which r)) (slice_index (rounds_of which r) n))).core
    alone =
        alone_at_law which r (cut_there n) (reached which r (cut_there n)) core valid determinate
        (reached_at which r valid determinate (cut_there n) (closed_there n)) inside
        ∙ ap (λ (k : ℕ). (alone_at which r core k).core) cut_count

    -- the test is told by the core's count
    test_there : stops (plan_of which r)
        (play (plan_of which r) (reached which r low)
        (way_before (count_in low) (count_in high) (rounds_of which r) n)) (slice_index (rounds_of which r) n)
        ≡ stops_before_place hits which r (rounds_of which r) n
    test_there =
        ap (λ (t : Outcome). stops p t core) (sym (state_there n))
        ∙ own p (reached which r (cut_there n)) core
        ∙ ap (λ (k : ℕ). hit hits core k (slice_index r.totals core)
        (next_of (recorded_image r) (core_at (reached which r (cut_there n)) core))) counted
        ∙ ap (λ (k : Core). hit hits core count (slice_index r.totals core) (next_of (recorded_image r) k)) alone

    stop_there : stops_before stops (plan_of which r) (reached which r low)
        (way_of (count_in low) (count_in high) (rounds_of which r))
        (length (way_before (count_in low) (count_in high) (rounds_of which r) n))
        ≡ stops_before_place hits which r (rounds_of which r) n
    stop_there =
        ap (λ (l : List ℕ). stops p (play p s l) (slice_index way (length (front n))))
        (front_taken (count_in low) (count_in high) line n lt is_on)
        ∙ ap (λ (c : ℕ). stops p (play p s (front n)) c)
        (place_there (count_in low) (count_in high) line n lt is_on)
        ∙ test_there

    no_stop : stops_on hits which r low high (rounds_of which r) n ≡ false →
        stops_before stops (plan_of which r) (reached which r low)
        (way_of (count_in low) (count_in high) (rounds_of which r))
        (length (way_before (count_in low) (count_in high) (rounds_of which r) n)) ≡ false
    no_stop not_so =
        stop_there ∙ sym (ap (λ (b : Bool). b && stops_before_place hits which r line n) is_on) ∙ not_so

  -- ---- numbers of the way

  -- it stops before none of the places so far
  none_below : (n : ℕ) → n ≤ length (rounds_of which r) →
      NoneIn (stops_on hits which r low high (rounds_of which r)) 0 n →
      NoneBelow stops (plan_of which r) (reached which r low)
      (way_of (count_in low) (count_in high) (rounds_of which r))
      (length (way_before (count_in low) (count_in high) (rounds_of which r) n))
  none_below n le none i lt =
      let found = place_of (count_in low) (count_in high) line n le i lt in
      let m = found.number in
      let below = found.below in
      ap (λ (k : ℕ). stops_before stops p s way k) (sym found.before)
      ∙ no_stop m (omega arith) found.on_way (none m (omega arith) below)

  none_front : (n : ℕ) → n < length (rounds_of which r) →
      is_on_way (count_in low) (count_in high) (rounds_of which r) n ≡ true →
      NoneIn (stops_on hits which r low high (rounds_of which r)) 0 n →
      NoneStops stops (plan_of which r) (reached which r low)
      (way_before (count_in low) (count_in high) (rounds_of which r) n)
  none_front n lt is_on none =
      let some = length (front n) in
      let taken : take some way ≡ front n = front_taken (count_in low) (count_in high) line n lt is_on in
      none_stops stops p s (front n) (λ i below.
      ap (λ (l : List ℕ). stops_before stops p s l i) (sym taken)
      ∙ ap (λ (l : List ℕ). stops p (play p s l) (slice_index (take some way) i)) (take-take i some way (omega arith))
      ∙ ap (λ (c : ℕ). stops p (play p s (take i way)) c) (get_or-take some way i 0 below)
      ∙ none_below n (omega arith) none i below)

  none_all : NoneIn (stops_on hits which r low high (rounds_of which r)) 0 (length (rounds_of which r)) →
      NoneBelow stops (plan_of which r) (reached which r low)
      (way_of (count_in low) (count_in high) (rounds_of which r))
      (length (way_of (count_in low) (count_in high) (rounds_of which r)))
  none_all none = subst (λ (l : List ℕ). NoneBelow stops p s way (length l))
      (way_whole (count_in low) (count_in high) line) (none_below (length line) (omega arith) none)

  -- ---- the cut that the code makes

  module _ (n : ℕ) (cut : Cut) (is : IsCutBefore which r low high n cut) where
    same_count : (i : ℕ) → count_in cut i ≡ count_in (cut_there n) i
    same_count i = by (cases_lt i CORES_MAX) (cases_lt i r.params.cores)
      where
        few : r.params.cores ≤ CORES_MAX
        few = valid.params.cores

        by : (i < CORES_MAX) ⊎ (CORES_MAX ≤ i) → (i < r.params.cores) ⊎ (r.params.cores ≤ i) →
            count_in cut i ≡ count_in (cut_there n) i
        by (inl place) (inl below) =
            is.counts_are i place ∙ ap (λ (f : ℕ → ℕ). counts f (front n) i) low_counts
            ∙ sym (count_is which r valid (counts (counts_in s) (front n)) i below)
        by (inl place) (inr past) =
            let least = begins.is_cut.rest i past in
            let most = ends.is_cut.rest i past in
            let there = (closed_there n).is_cut.rest i past in
            let counted = counts_before (count_in low) (count_in high) line within n i in
            is.counts_are i place ∙ counted ∙ omega arith
        by (inr past) (inl below) = absurd (omega arith)
        by (inr past) (inr rest) =
            get_or_past cut.counts i 0 (let all = is.places in omega arith)
            ∙ sym ((closed_there n).is_cut.rest i rest)

    is_cut : IsCutOf r cut
    is_cut = record {
      cores = is.cores ∙ begins.is_cut.cores;
      places = is.places;
      most = λ core below.
          let e = same_count core in let m = (closed_there n).is_cut.most core below in omega arith;
      rest = λ core past. same_count core ∙ (closed_there n).is_cut.rest core past;
    }

    pub is_there : cut ≡ cut_there n
    is_there = one_cut r cut (cut_there n) is_cut (closed_there n).is_cut
        (λ core. let e = same_count core in omega arith) (λ core. let e = same_count core in omega arith)

    pub closed_here : IsClosed which r cut
    closed_here = subst (λ (k : Cut). IsClosed which r k) (sym is_there) (closed_there n)

    state_here : reached which r cut ≡ play (plan_of which r) (reached which r low)
        (way_before (count_in low) (count_in high) (rounds_of which r) n)
    state_here = ap (λ (k : Cut). reached which r k) is_there ∙ state_there n

  -- ---- going on

  low_own : cut_of (plan_of which r) (counts_in (reached which r low)) ≡ low
  low_own = cut_is which r valid determinate low begins

  high_own : cut_of (plan_of which r) (counts_in (reached which r high)) ≡ high
  high_own = cut_is which r valid determinate high ends

  pub goes_all : NoneIn (stops_on hits which r low high (rounds_of which r)) 0 (length (rounds_of which r)) →
      GoesOn stops (placed_at which r low) high (placed_at which r high) None
  goes_all none = (
    subst (λ (k : Cut). NoneStops stops p s (way_of (count_in k) (count_in high) line)) (sym low_own)
        (none_stops stops p s way (none_all none)),
    high_own,
  )

  pub goes_to : (n : ℕ) →
      IsFirst (stops_on hits which r low high (rounds_of which r)) 0 (length (rounds_of which r)) n → (cut : Cut) →
      IsCutBefore which r low high n cut →
      GoesOn stops (placed_at which r low) high (placed_at which r cut) (Some (slice_index (rounds_of which r) n))
  goes_to n first cut is =
      let lt = first.most in
      let tests = both (on n) (stops_before_place hits which r line n) first.here in
      let stop : IsFirstStop stops p s way (slice_index line n) (reached which r cut) = record {
        front = front n;
        rest = rest_behind (count_in low) (count_in high) line n;
        split = way_split (count_in low) (count_in high) line n lt tests.0;
        before = none_front n lt tests.0 first.before;
        state = state_here n cut is;
        here = ap (λ (t : Outcome). stops p t (slice_index line n)) (state_here n cut is)
            ∙ test_there n lt tests.0 ∙ tests.1;
      } in
      subst (λ (k : Cut). IsFirstStop stops p s (way_of (count_in k) (count_in high) line) (slice_index line n)
      (reached which r cut)) (sym low_own) stop

  -- ---- where nothing stopped it, nothing stops it

  none_from : NoneBelow stops (plan_of which r) (reached which r low)
      (way_of (count_in low) (count_in high) (rounds_of which r))
      (length (way_of (count_in low) (count_in high) (rounds_of which r))) →
      NoneIn (stops_on hits which r low high (rounds_of which r)) 0 (length (rounds_of which r))
  none_from none n least lt = by (on n) refl
    where
      by : (b : Bool) → is_on_way (count_in low) (count_in high) (rounds_of which r) n ≡ b →
          stops_on hits which r low high (rounds_of which r) n ≡ false
      by false off = ap (λ (b : Bool). b && stops_before_place hits which r line n) off
      by true is_on =
          let gains = way_gains (count_in low) (count_in high) line n (length line) lt lt is_on in
          let all = ap (λ (l : List ℕ). length l) (way_whole (count_in low) (count_in high) line) in
          ap (λ (b : Bool). b && stops_before_place hits which r line n) is_on
          ∙ sym (stop_there n lt is_on) ∙ none (length (front n)) (omega arith)

  pub none_going : (new : Placed) → GoesOn stops (placed_at which r low) high new None →
      NoneIn (stops_on hits which r low high (rounds_of which r)) 0 (length (rounds_of which r))
  none_going new goes = none_from (none_listed stops p s way
      (subst (λ (k : Cut). NoneStops stops p s (way_of (count_in k) (count_in high) line)) low_own goes.0))

  pub none_backing : (new : Placed) → GoesBack stops (placed_at which r high) low new None →
      NoneIn (stops_on hits which r low high (rounds_of which r)) 0 (length (rounds_of which r))
  none_backing new goes = none_from
      (subst (λ (k : Cut). NoneBelow stops p s (way_of (count_in low) (count_in k) line)
      (length (way_of (count_in low) (count_in k) line))) high_own
      (subst (λ (t : Outcome). NoneBelow stops p t
      (way_of (count_in low) (count_in (cut_of p (counts_in (reached which r high)))) line)
      (length (way_of (count_in low) (count_in (cut_of p (counts_in (reached which r high)))) line)))
      (one_state_law which r low goes.there s goes.state at_low) goes.ends.0))

  -- ---- going back

  pub backs_all : NoneIn (stops_on hits which r low high (rounds_of which r)) 0 (length (rounds_of which r)) →
      GoesBack stops (placed_at which r high) low (placed_at which r low) None
  backs_all none = record {
    there = s;
    state = at_low;
    ends = (
      subst (λ (k : Cut). NoneBelow stops p s (way_of (count_in low) (count_in k) line)
          (length (way_of (count_in low) (count_in k) line))) (sym high_own) (none_all none),
      low_own,
    );
  }

  pub backs_to : (n : ℕ) →
      IsLast (stops_on hits which r low high (rounds_of which r)) 0 (length (rounds_of which r)) n → (cut : Cut) →
      IsCutBefore which r low high n cut →
      GoesBack stops (placed_at which r high) low (placed_at which r cut) (Some (slice_index (rounds_of which r) n))
  backs_to n last cut is =
      let lt = last.most in
      let tests = both (on n) (stops_before_place hits which r line n) last.here in
      let number = length (front n) in
      let behind : (i : ℕ) → number < i → i < length way → stops_before stops p s way i ≡ false = λ i above below.
      let found = place_of (count_in low) (count_in high) line (length line) (omega arith) i
      (subst (λ (l : List ℕ). i < length l) (sym (way_whole (count_in low) (count_in high) line)) below) in
      let m = found.number in
      let farther : n + 1 ≤ m = elim (cases_lt n m) [
        | inl more ↦ omega arith
        | inr le ↦
            let grows = way_grows (count_in low) (count_in high) line m n le in
            let b = found.before in
            absurd (omega arith)
      ] in
      ap (λ (k : ℕ). stops_before stops p s way k) (sym found.before)
      ∙ no_stop m found.below found.on_way (last.behind m farther found.below) in
      record {
        there = s;
        state = at_low;
        ends = subst (λ (k : Cut). IsLastStop stops p s (way_of (count_in low) (count_in k) line)
            (length (way_of (count_in low) (count_in k) line)) (slice_index line n) (reached which r cut))
            (sym high_own) (record {
              number = number;
              inside = place_inside (count_in low) (count_in high) line n lt tests.0;
              core_is = place_there (count_in low) (count_in high) line n lt tests.0;
              here = stop_there n lt tests.0 ∙ tests.1;
              behind = behind;
              state = state_here n cut is
                  ∙ ap (λ (l : List ℕ). play p s l)
                  (sym (front_taken (count_in low) (count_in high) line n lt tests.0));
            });
      }

-- on a way between two cuts of another way no more places stop it
pub none_between : (hits : Hits) (which : Which) (r : Recording) (low high first last : Cut) → IsContained low first →
    IsContained last high → NoneIn (stops_on hits which r low high (rounds_of which r)) 0 (length (rounds_of which r)) →
    NoneIn (stops_on hits which r first last (rounds_of which r)) 0 (length (rounds_of which r))
none_between hits which r low high first last above below none n least lt =
    by (is_on_way (count_in first) (count_in last) (rounds_of which r) n) refl
  where
    core : ℕ
    core = slice_index (rounds_of which r) n

    at : ℕ
    at = counts nought (take n (rounds_of which r)) (slice_index (rounds_of which r) n)

    by : (b : Bool) → is_on_way (count_in first) (count_in last) (rounds_of which r) n ≡ b →
        stops_on hits which r first last (rounds_of which r) n ≡ false
    by false off = ap (λ (b : Bool). b && stops_before_place hits which r (rounds_of which r) n) off
    by true on =
        let tests = both (nat_le (count_in first (slice_index (rounds_of which r) n))
        (counts nought (take n (rounds_of which r)) (slice_index (rounds_of which r) n)))
        (nat_lt (counts nought (take n (rounds_of which r)) (slice_index (rounds_of which r) n))
        (count_in last (slice_index (rounds_of which r) n))) on in
        let more = leb-true (count_in first (slice_index (rounds_of which r) n))
        (counts nought (take n (rounds_of which r)) (slice_index (rounds_of which r) n)) tests.0 in
        let less = ltb-true (counts nought (take n (rounds_of which r)) (slice_index (rounds_of which r) n))
        (count_in last (slice_index (rounds_of which r) n)) tests.1 in
        let a = above (slice_index (rounds_of which r) n) in
        let b = below (slice_index (rounds_of which r) n) in
        let wide : is_on_way (count_in low) (count_in high) (rounds_of which r) n ≡ true =
        on_is (count_in low (slice_index (rounds_of which r) n)) (count_in high (slice_index (rounds_of which r) n))
        (counts nought (take n (rounds_of which r)) (slice_index (rounds_of which r) n)) (omega arith) (omega arith) in
        ap (λ (b : Bool). b && stops_before_place hits which r (rounds_of which r) n) on
        ∙ sym (ap (λ (b : Bool). b && stops_before_place hits which r (rounds_of which r) n) wide)
        ∙ none n least lt
