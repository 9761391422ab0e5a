-- The cuts to which all turns lead, core by core.
use Rattle.std.proofs.Common.{inl, inr, ◌≡◌, ◌⊎◌, ℕ, ◌+◌, ◌<◌, ◌≤◌, true, List, length, take, max, replicate, refl, sym}
use Rattle.std.proofs.Common.{ap, subst, ◌∙◌, arith, length-set, get_or-set_same, get_or-set_other}
use Rattle.std.specs.Prelude.{slice_index, slice_set, IfOk, IsOkAnd, Result, Ok, Err}
use Rattle.std.proofs.lemmas.Bool.{cases_lt}
use Rattle.std.proofs.lemmas.List.{get_or_past, length-replicate, take_all}
use native.Mathlib.Decide.{ℕ_discrete}
use Rattle.rtr_types.proofs.Ranges.{zero_at}
use Rattle.rtr_types.specs.CoreSets.{has}
use Rattle.rtr_types.specs.declared.TheConstants.{CORES_MAX}
use Rattle.rtr_types.specs.declared.core_set.CoreSet.{CoreSet}
use Rattle.rtr_types.specs.declared.cut.Cut.{Cut}
use Rattle.rtr_types.specs.declared.pairs.Which.{Which}
use Rattle.race_log.specs.declared.recording.Recording.{Recording}
use Rattle.race_log.specs.Validity.{Valid}
use Rattle.replay_audit.specs.Audits.{Findings}
use Rattle.replay_core.specs.Orders.{counts, nought}
use Rattle.replay_core.specs.Play.{instr}
use Rattle.replay_core.proofs.Places.{play_law}
use Rattle.cut_replay.specs.ClosedCuts.{IsClosed, IsContained, IsCutOf, IsGreatestWithout, count_in}
use Rattle.cut_moves.specs.Steps.{IsHull}
use Rattle.cut_moves.specs.Unions.{intersection_of}
use Rattle.cut_moves.proofs.SeatCounts.{among_grows}
use Rattle.cut_moves.proofs.Rounds.{rounds_ordered}
use Rattle.cut_moves.proofs.Unions.{intersection_closed, intersection_greatest}
use Rattle.debug_place.specs.Places.{Placed, Stands, cut_at, plan_at}
use Rattle.gdb_moves.specs.declared.direction.Direction.TheVariants.{Forward, Back}
use Rattle.gdb_moves.specs.Leaps.{HaveReached, IsCounted, IsGone, IsLeft}
use Rattle.gdb_moves.specs.Sights.{IsOf}
use Rattle.gdb_moves.specs.Turns.{timeline_at}

-- of the first cores
pub record IsCountedTo (place : Placed) (number past : ℕ) (at : List ℕ) : Type 0 where
  pub wide : length at ≡ CORES_MAX
  pub each : (core : ℕ) → core < past → slice_index at core ≡ counts nought (take number (timeline_at place)) core
  pub rest : (core : ℕ) → past ≤ core → slice_index at core ≡ 0

pub counted_start : (place : Placed) (number : ℕ) → IsCountedTo place number 0 (replicate CORES_MAX 0)
counted_start place number = record {
  wide = length-replicate {A = ℕ} CORES_MAX 0;
  each = λ core lt. absurd (omega arith);
  rest = λ core le. zero_at CORES_MAX core;
}

pub counted_on : (place : Placed) (number core value : ℕ) (at : List ℕ) → IsCountedTo place number core at →
    core < CORES_MAX → value ≡ counts nought (take number (timeline_at place)) core →
    IsCountedTo place number (core + 1) (slice_set at core value)
counted_on place number core value at h few is = record {
  wide = length-set at core value ∙ h.wide;
  each = λ c lt. elim (ℕ_discrete c core) [
    | yes same ↦
        ap (λ (k : ℕ). slice_index (slice_set at core value) k) same
        ∙ get_or-set_same at core value 0 (let w = h.wide in omega arith) ∙ is
        ∙ ap (λ (k : ℕ). counts nought (take number (timeline_at place)) k) (sym same)
    | no other ↦ get_or-set_other at core c value 0 other ∙ h.each c (omega arith)
  ];
  rest = λ c le. get_or-set_other at core c value 0 (λ e. omega arith) ∙ h.rest c (omega arith);
}

-- no more of a core's instructions stand among the first places than in all
among_most : (line : List ℕ) (number core : ℕ) → counts nought (take number line) core ≤ counts nought line core
among_most line number core = elim (cases_lt number (length line)) [
  | inl inside ↦
      let grows = among_grows line number (length line) core (omega arith) in
      let all : counts nought (take (length line) line) core ≡ counts nought line core =
      ap (λ (l : List ℕ). counts nought l core) (take_all (length line) line (omega arith)) in
      omega arith
  | inr past ↦
      let all : counts nought (take number line) core ≡ counts nought line core =
      ap (λ (l : List ℕ). counts nought l core) (take_all number line past) in
      omega arith
]

pub few_among : (place : Placed) (number core : ℕ) →
    counts nought (take number (timeline_at place)) core ≤ slice_index place.recording.totals core
few_among place number core =
    let most = among_most (timeline_at place) number core in
    let within = (play_law (plan_at place) (timeline_at place) (rounds_ordered (plan_at place))).within core in
    omega arith

pub ok_too : {E : Type 0} (result : Result Cut E) (P : Cut → Type 0) → IsOkAnd result P → IfOk result P
ok_too (Ok to) P is = is
ok_too (Err e) P is = absurd is

-- no other core stands in the timeline
pub others_none : (place : Placed) (number core : ℕ) → Valid place.recording → place.recording.params.cores ≤ core →
    counts nought (take number (timeline_at place)) core ≡ 0
others_none place number core valid past =
    let most = among_most (timeline_at place) number core in
    let line = timeline_at place in
    let within = (play_law (plan_at place) line (rounds_ordered (plan_at place))).within core in
    let outside : slice_index place.recording.totals core ≡ 0 =
    get_or_past place.recording.totals core 0 (let all = valid.each_core in omega arith) in
    omega arith

-- ---- forwards

-- the place's counts, and of the first cores what they do at the first places
pub record IsGathered (cores : CoreSet) (place : Placed) (number past : ℕ) (gathered : Cut) : Type 0 where
  pub is_cut : IsCutOf place.recording gathered
  pub contains : IsContained (cut_at place) gathered
  pub got : (core : ℕ) → core < past → has cores core ≡ true →
      counts nought (take number (timeline_at place)) core ≤ count_in gathered core
  pub least : (other : Cut) → IsContained (cut_at place) other →
      HaveReached Forward cores (timeline_at place) number other → IsContained gathered other

pub gathered_start : (cores : CoreSet) (place : Placed) (number : ℕ) (cut : Cut) → Stands place → cut ≡ cut_at place →
    IsGathered cores place number 0 cut
gathered_start cores place number cut stands is =
    subst (λ (k : Cut). IsGathered cores place number 0 k) (sym is) (record {
      is_cut = stands.closed.is_cut;
      contains = λ core. omega arith;
      got = λ core lt one. absurd (omega arith);
      least = λ other contains reached. contains;
    })

module _ (cores : CoreSet) (place : Placed) (number core : ℕ) (gathered : Cut)
    (h : IsGathered cores place number core gathered) where
  -- the core doesn't move
  pub gathered_by : (has cores core ≡ true → ⊥) → IsGathered cores place number (core + 1) gathered
  gathered_by not_one = record {
    is_cut = h.is_cut;
    contains = h.contains;
    got = λ c lt one. elim (ℕ_discrete c core) [
      | yes same ↦ absurd (not_one (subst (λ (k : ℕ). has cores k ≡ true) same one))
      | no other ↦ h.got c (omega arith) one
    ];
    least = h.least;
  }

  -- or it has as much as it does there
  pub gathered_on : (new : Cut) (value : ℕ) → has cores core ≡ true → core < place.recording.params.cores →
      Valid place.recording → counts nought (take number (timeline_at place)) core
      ≤ slice_index place.recording.totals core → new.cores ≡ gathered.cores →
      new.counts ≡ slice_set gathered.counts core value →
      value ≡ max (count_in gathered core) (counts nought (take number (timeline_at place)) core) →
      IsGathered cores place number (core + 1) new
  gathered_on new value one inside valid most same_cores counts_is value_is = record {
    is_cut = record {
      cores = same_cores ∙ h.is_cut.cores;
      places = ap (λ (l : List ℕ). length l) counts_is ∙ length-set gathered.counts core value ∙ h.is_cut.places;
      most = λ c lt. elim (ℕ_discrete c core) [
        | yes same ↦
            subst (λ (k : ℕ). count_in new k ≤ slice_index place.recording.totals k) (sym same)
            (let was = h.is_cut.most core inside in let is = here in omega arith)
        | no other ↦ let was = h.is_cut.most c lt in let is = there c other in omega arith
      ];
      rest = λ c le. there c (λ e. omega arith) ∙ h.is_cut.rest c le;
    };
    contains = λ c. elim (ℕ_discrete c core) [
      | yes same ↦
          subst (λ (k : ℕ). count_in (cut_at place) k ≤ count_in new k) (sym same)
          (let was = h.contains core in let is = here in omega arith)
      | no other ↦ let was = h.contains c in let is = there c other in omega arith
    ];
    got = λ c lt one_c. elim (ℕ_discrete c core) [
      | yes same ↦
          subst (λ (k : ℕ). counts nought (take number (timeline_at place)) k ≤ count_in new k) (sym same)
          (let is = here in omega arith)
      | no other ↦ let was = h.got c (omega arith) one_c in let is = there c other in omega arith
    ];
    least = λ to contains reached c. elim (ℕ_discrete c core) [
      | yes same ↦
          subst (λ (k : ℕ). count_in new k ≤ count_in to k) (sym same)
          (let was = h.least to contains reached core in let more = reached core one in let is = here in omega arith)
      | no other ↦ let was = h.least to contains reached c in let is = there c other in omega arith
    ];
  }
    where
      here : count_in new core ≡ max (count_in gathered core) (counts nought (take number (timeline_at place)) core)
      here =
          ap (λ (l : List ℕ). slice_index l core) counts_is
          ∙ get_or-set_same gathered.counts core value 0
          (let w = h.is_cut.places in let few = valid.params.cores in omega arith)
          ∙ value_is

      there : (c : ℕ) → (c ≡ core → ⊥) → count_in new c ≡ count_in gathered c
      there c other = ap (λ (l : List ℕ). slice_index l c) counts_is ∙ get_or-set_other gathered.counts core c value 0 other

pub gathered_end : (cores : CoreSet) (place : Placed) (number past : ℕ) (gathered to : Cut) →
    IsGathered cores place number past gathered → Valid place.recording → place.recording.params.cores ≤ past →
    IsHull place.which place.recording gathered to → IsGone cores place number to
gathered_end cores place number past gathered to h valid all hull = record {
  closed = hull.closed;
  contains = λ core. let a = h.contains core in let b = hull.contains core in omega arith;
  reached = λ core one. elim (cases_lt core past) [
    | inl lt ↦ let a = h.got core lt one in let b = hull.contains core in omega arith
    | inr le ↦ let none = others_none place number core valid (omega arith) in omega arith
  ];
  least = λ other closed contains reached. hull.least other closed (h.least other contains reached);
}

-- ---- backwards

-- the greatest closed cut within the place's in which the first cores have come so far back
pub record IsLeftTo (cores : CoreSet) (place : Placed) (number past : ℕ) (cut : Cut) : Type 0 where
  pub closed : IsClosed place.which place.recording cut
  pub contained : IsContained cut (cut_at place)
  pub got : (core : ℕ) → core < past → has cores core ≡ true →
      count_in cut core ≤ counts nought (take number (timeline_at place)) core
  pub greatest : (other : Cut) → IsClosed place.which place.recording other → IsContained other (cut_at place) →
      HaveReached Back cores (timeline_at place) number other → IsContained other cut

pub left_start : (cores : CoreSet) (place : Placed) (number : ℕ) (cut : Cut) → Stands place → cut ≡ cut_at place →
    IsLeftTo cores place number 0 cut
left_start cores place number cut stands is =
    subst (λ (k : Cut). IsLeftTo cores place number 0 k) (sym is) (record {
      closed = stands.closed;
      contained = λ core. omega arith;
      got = λ core lt one. absurd (omega arith);
      greatest = λ other closed contained reached. contained;
    })

module _ (cores : CoreSet) (place : Placed) (number core : ℕ) (cut : Cut)
    (h : IsLeftTo cores place number core cut) where
  -- the core doesn't move, or has come so far
  pub left_by : (has cores core ≡ true → count_in cut core ≤ counts nought (take number (timeline_at place)) core) →
      IsLeftTo cores place number (core + 1) cut
  left_by here = record {
    closed = h.closed;
    contained = h.contained;
    got = λ c lt one. elim (ℕ_discrete c core) [
      | yes same ↦
          subst (λ (k : ℕ). count_in cut k ≤ counts nought (take number (timeline_at place)) k) (sym same)
          (here (subst (λ (k : ℕ). has cores k ≡ true) same one))
      | no other ↦ h.got c (omega arith) one
    ];
    greatest = h.greatest;
  }

  -- it goes back so far
  pub left_on : (without : Cut) (count : ℕ) → has cores core ≡ true →
      count ≡ counts nought (take number (timeline_at place)) core + 1 →
      IsGreatestWithout place.which place.recording (instr core count) without →
      IsLeftTo cores place number (core + 1) (intersection_of cut without)
  left_on without count one is greatest =
      let common = intersection_greatest place.recording cut without h.closed.is_cut greatest.closed.is_cut in
      record {
        closed = intersection_closed place.which place.recording cut without h.closed greatest.closed;
        contained = λ c. let a = common.first c in let b = h.contained c in omega arith;
        got = λ c lt one_c. elim (ℕ_discrete c core) [
          | yes same ↦
              subst (λ (k : ℕ). count_in (intersection_of cut without) k
              ≤ counts nought (take number (timeline_at place)) k) (sym same)
              (let b = common.second core in elim (cases_lt (count_in without core) count) [
                | inl lt ↦ omega arith
                | inr le ↦ absurd (greatest.without le)
              ])
          | no other ↦ let a = common.first c in let b = h.got c (omega arith) one_c in omega arith
        ];
        greatest = λ other closed contained reached.
            common.greatest other (h.greatest other closed contained reached)
            (greatest.greatest other closed (λ holds. let most = reached core one in absurd (omega arith)));
      }

pub left_end : (cores : CoreSet) (place : Placed) (number past : ℕ) (cut : Cut) →
    IsLeftTo cores place number past cut → place.recording.params.cores ≤ past → IsLeft cores place number cut
left_end cores place number past cut h all = record {
  closed = h.closed;
  contained = h.contained;
  reached = λ core one. elim (cases_lt core past) [
    | inl lt ↦ h.got core lt one
    | inr le ↦ let none = h.closed.is_cut.rest core (omega arith) in omega arith
  ];
  greatest = h.greatest;
}

-- ---- what an audit says of its place

pub without_there : (a : Findings) (place : Placed) → IsOf a place → (core count : ℕ) (cut : Cut) →
    IsGreatestWithout a.which a.recording (instr core count) cut →
    IsGreatestWithout place.which place.recording (instr core count) cut
without_there a place of core count cut is =
    subst (λ (w : Which). IsGreatestWithout w place.recording (instr core count) cut) of.which
    (subst (λ (r : Recording). IsGreatestWithout a.which r (instr core count) cut) of.recording is)

pub hull_there : (a : Findings) (place : Placed) → IsOf a place → (counts to : Cut) →
    IsHull a.which a.recording counts to → IsHull place.which place.recording counts to
hull_there a place of counts to is =
    subst (λ (w : Which). IsHull w place.recording counts to) of.which
    (subst (λ (r : Recording). IsHull a.which r counts to) of.recording is)
