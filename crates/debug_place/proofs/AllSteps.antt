-- Each instruction of a determinate recording has a clock. So from each closed cut there is a step to each instruction,
-- and a step back from each.
use Rattle.std.proofs.Common.{inl, inr, ◌≡◌, ◌⊎◌, ◌↔◌, ℕ, zero, suc, ◌+◌, ◌-◌, ◌<◌, ◌≤◌, Bool, true, false, ◌&&◌, List}
use Rattle.std.proofs.Common.{[], ◌∷◌, cond, length, take, refl, sym, ap, subst, ◌∙◌, arith}
use Rattle.std.specs.Prelude.{nat_eq, nat_lt, slice_index}
use Rattle.std.proofs.lemmas.Bool.{cases_lt, eqb-true}
use Rattle.std.proofs.lemmas.Bool.Decides.{nat_tests}
use Rattle.std.proofs.lemmas.List.{get_or_past, take_all}
use Rattle.std.proofs.lemmas.List.FromFn.{length-map-range_with_len}
use native.Mathlib.Decide.{ℕ_discrete}
use Rattle.rtr_types.proofs.Instrs.{instr_eq}
use Rattle.rtr_types.specs.declared.TheConstants.{CORES_MAX}
use Rattle.rtr_types.specs.declared.cut.Cut.{Cut}
use Rattle.rtr_types.specs.declared.instr.Edge.{Edge}
use Rattle.rtr_types.specs.declared.instr.Instr.{Instr}
use Rattle.rtr_types.specs.declared.pairs.Which.{Which}
use Rattle.clock_core.specs.Order.{Among, IsOrLeads, Relation, previous}
use Rattle.clock_core.specs.Reach.{IsClock, IsOneOf, merged_over, with_own}
use Rattle.clock_core.proofs.Reach.{merge_law}
use Rattle.race_log.specs.declared.recording.Recording.{Recording}
use Rattle.race_log.specs.Sources.{log_edges}
use Rattle.race_log.specs.Validity.{Valid}
use Rattle.replay_core.specs.Answers.{cut_of}
use Rattle.replay_core.specs.Orders.{Ready, bump, counts, nought}
use Rattle.replay_core.specs.Plans.{plan_of}
use Rattle.replay_core.specs.Play.{instr}
use Rattle.replay_core.proofs.Counts.{bump_else, bump_here, bump_same}
use Rattle.replay_core.proofs.Sources.{edge_within}
use Rattle.replay_audit.specs.Audits.{IsInstrOf}
use Rattle.replay_audit.specs.Determinate.{IsDeterminate}
use Rattle.replay_audit.proofs.Logs.{acyclic_law, closed_none, leads_back, sourced_among}
use Rattle.cut_replay.specs.ClosedCuts.{count_in, IsClosed, IsGreatestWithout, IsLeastWith}
use Rattle.cut_replay.specs.Frees.{AreBetween, AreFree, IsNeededBy}
use Rattle.cut_replay.proofs.Cuts.{IsCountsOf, between_end, between_free, between_need, between_start, greatest_without}
use Rattle.cut_replay.proofs.Cuts.{least_with}
use Rattle.cut_moves.specs.Rounds.{rounds_of}
use Rattle.cut_moves.specs.Steps.{IsStep, IsStepBack}
use Rattle.cut_moves.specs.Unions.{intersection_of, union_of}
use Rattle.cut_moves.proofs.Fronts.{count_is, made_at}
use Rattle.cut_moves.proofs.OneStep.{back_by_intersection, step_by_union}
use Rattle.cut_moves.proofs.Rounds.{rounds_ordered, rounds_whole}
use Rattle.cut_moves.proofs.SeatCounts.{among_next}
use Rattle.debug_place.proofs.StopPlaces.{ready_at}

-- ---- the sources of an instruction

abbrev is_it : (core count : ℕ) → Instr → Bool
is_it core count z = nat_eq z.core core && nat_eq z.count count

both : (a b : Bool) → (a && b) ≡ true → (a ≡ true) × (b ≡ true)
both true b is = (refl, is)
both false b is = absurd cc

it_is : (core count : ℕ) (z : Instr) → is_it core count z ≡ true → z ≡ instr core count
it_is core count z is =
    let each = both (nat_eq z.core core) (nat_eq z.count count) is in
    instr_eq z (instr core count) (eqb-true z.core core each.0) (eqb-true z.count count each.1)

it_was : (core count : ℕ) (z : Instr) → z ≡ instr core count → is_it core count z ≡ true
it_was core count z is =
    let one : nat_eq core core ≡ true = grind (arith, nat_tests) in
    let two : nat_eq count count ≡ true = grind (arith, nat_tests) in
    ap (λ (x : Instr). is_it core count x) is ∙ ap (λ (b : Bool). b && nat_eq count count) one ∙ two

abbrev with_source : Bool → Instr → List Instr → List Instr
with_source true z zs = z ∷ zs
with_source false z zs = zs

abbrev sources : List Edge → (core count : ℕ) → List Instr
sources [] core count = []
sources (e ∷ edges) core count = with_source (is_it core count e.to) e.from (sources edges core count)

module _ (core count : ℕ) where
  to_source : (edges : List Edge) (z : Instr) → Among edges z (instr core count) → IsOneOf (sources edges core count) z
  to_source [] z x = absurd x
  to_source (e ∷ edges) z (inl here) =
      subst (λ (b : Bool). IsOneOf (with_source b e.from (sources edges core count)) z)
      (sym (it_was core count e.to here.1)) (inl here.0)
  to_source (e ∷ edges) z (inr later) = by (is_it core count e.to) (to_source edges z later)
    where
      by : (b : Bool) → IsOneOf (sources edges core count) z →
          IsOneOf (with_source b e.from (sources edges core count)) z
      by true one = inr one
      by false one = one

  from_source : (edges : List Edge) (z : Instr) → IsOneOf (sources edges core count) z → Among edges z (instr core count)
  from_source [] z x = absurd x
  from_source (e ∷ edges) z one = by (λ rest. from_source edges z rest) (is_it core count e.to) refl one
    where
      by : (IsOneOf (sources edges core count) z → Among edges z (instr core count)) → (b : Bool) →
          is_it core count e.to ≡ b → IsOneOf (with_source b e.from (sources edges core count)) z →
          Among (e ∷ edges) z (instr core count)
      by on true is (inl here) = inl (here, it_is core count e.to is)
      by on true is (inr rest) = inr (on rest)
      by on false is rest = inr (on rest)

-- ---- clocks, one place of the timeline after the other

abbrev chosen : Bool → (ℕ → ℕ) → (ℕ → ℕ) → ℕ → ℕ
chosen true f g = f
chosen false f g = g

module _ (which : Which) (r : Recording) (valid : Valid r) (determinate : IsDeterminate which r) where
  -- of the first places each instruction has a clock
  record AreClocks (n : ℕ) : Type 0 where
    clock : Instr → ℕ → ℕ
    is : (y : Instr) → y.count ≤ counts nought (take n (rounds_of which r)) y.core →
        IsClock (Among (log_edges which r)) y (clock y)

  nothing_leads : (y : Instr) → y.count ≤ 0 → IsClock (Among (log_edges which r)) y (λ i. 0)
  nothing_leads y none x some = (
    λ le. absurd (omega arith),
    λ leads. leads_back (log_edges which r) nought x y (closed_none which r valid) leads none,
  )

  clocks_start : AreClocks 0
  clocks_start = record { clock = λ y i. 0; is = λ y none. nothing_leads y none }

  module _ (n : ℕ) (lt : n < length (rounds_of which r)) (so_far : AreClocks n) where
    abbrev at : ℕ → ℕ
    at = counts nought (take n (rounds_of which r))

    abbrev core : ℕ
    core = slice_index (rounds_of which r) n

    abbrev y : Instr
    y = instr core (at core + 1)

    abbrev merged : ℕ → ℕ
    merged = with_own y (merged_over (so_far.clock (previous y)) so_far.clock
        (sources (log_edges which r) core (at core + 1)))

    here : IsClock (Among (log_edges which r)) y merged
    here = merge_law (log_edges which r) y (sources (log_edges which r) core (at core + 1))
        (so_far.clock (previous y)) so_far.clock (omega arith)
        (acyclic_law which r (rounds_of which r) valid (rounds_ordered (plan_of which r))
        (rounds_whole which r valid determinate) y)
        (λ z. (to_source core (at core + 1) (log_edges which r) z, from_source core (at core + 1) (log_edges which r) z))
        (so_far.is (previous y) (omega arith))
        (λ z one. so_far.is z
        (sourced_among (log_edges which r) at core (at core + 1) z y (ready_at which r n lt).sourced
        (from_source core (at core + 1) (log_edges which r) z one) refl refl))

    clocks_next : AreClocks (n + 1)
    clocks_next = record {
      clock = λ z. chosen (is_it core (at core + 1) z) merged (so_far.clock z);
      is = λ z within. by z within (is_it core (at core + 1) z) refl;
    }
      where
        by : (z : Instr) → z.count ≤ counts nought (take (n + 1) (rounds_of which r)) z.core → (b : Bool) →
            is_it core (at core + 1) z ≡ b →
            IsClock (Among (log_edges which r)) z (chosen b merged (so_far.clock z))
        by z within true is =
            subst (λ (x : Instr). IsClock (Among (log_edges which r)) x merged) (sym (it_is core (at core + 1) z is)) here
        by z within false is = so_far.is z (before (ℕ_discrete z.core core))
          where
            grown : counts nought (take (n + 1) (rounds_of which r)) z.core ≡ bump at core z.core
            grown = ap (λ (f : ℕ → ℕ). f z.core) (among_next (rounds_of which r) n lt)

            before : Dec (z.core ≡ core) → z.count ≤ at z.core
            before (no other) = let e = bump_else at core z.core other in let g = grown in omega arith
            before (yes same) = elim (ℕ_discrete z.count (at core + 1)) [
              | yes last ↦
                  let true_is = it_was core (at core + 1) z (instr_eq z (instr core (at core + 1)) same last) in absurd cc
              | no earlier ↦
                  let e = bump_same at core z.core same in
                  let g = grown in
                  let a : at z.core ≡ at core = ap at same in
                  omega arith
            ]

  clocks_to : (n : ℕ) → n ≤ length (rounds_of which r) → AreClocks n
  clocks_to zero le = clocks_start
  clocks_to (suc n) le =
      subst (λ (m : ℕ). AreClocks m) (omega arith) (clocks_next n (omega arith) (clocks_to n (omega arith)))

  pub some_clock : (y : Instr) → IsInstrOf r y → (clock : ℕ → ℕ) × IsClock (Among (log_edges which r)) y clock
  some_clock y node =
      let all = clocks_to (length (rounds_of which r)) (omega arith) in
      let total = (rounds_whole which r valid determinate).each y.core node.core in
      let taken : take (length (rounds_of which r)) (rounds_of which r) ≡ rounds_of which r =
      take_all (length (rounds_of which r)) (rounds_of which r) (omega arith) in
      let there : counts nought (take (length (rounds_of which r)) (rounds_of which r)) y.core
      ≡ counts nought (rounds_of which r) y.core = ap (λ (l : List ℕ). counts nought l y.core) taken in
      let most = node.most in
      (all.clock y, all.is y (omega arith))

  -- ---- steps

  long : (f : ℕ → ℕ) → length (cut_of (plan_of which r) f).counts ≡ CORES_MAX
  long f = length-map-range_with_len (λ i. cond (nat_lt i (length r.totals)) (f i) 0) 0 CORES_MAX

  none_behind : (f : ℕ → ℕ) (core : ℕ) → r.params.cores ≤ core → count_in (cut_of (plan_of which r) f) core ≡ 0
  none_behind f core le = elim (cases_lt core CORES_MAX) [
    | inl lt ↦
        let all = valid.each_core in
        let past : nat_lt core (length r.totals) ≡ false = grind (arith, nat_tests) in
        made_at (length r.totals) f core lt ∙ ap (λ (b : Bool). cond b (f core) 0) past
    | inr past ↦ get_or_past (cut_of (plan_of which r) f).counts core 0 (let all = long f in omega arith)
  ]

  counted : (f : ℕ → ℕ) → IsCountsOf r f (cut_of (plan_of which r) f)
  counted f = record {
    cores = valid.each_core;
    places = long f;
    done = λ core lt. count_is which r valid f core lt;
    rest = λ core past. none_behind f core past;
  }

  pub some_step : (cut : Cut) (at : Instr) → IsClosed which r cut → IsInstrOf r at →
      (to : Cut) × IsStep which r cut at to
  some_step cut at closed node =
      let k = some_clock at node in
      let least = cut_of (plan_of which r) k.0 in (
        union_of cut least,
        step_by_union which r cut least at closed (least_with which r valid at node k.0 k.1 least (counted k.0)),
      )

  module _ (x : Instr) (node : IsInstrOf r x) where
    needed : (core count : ℕ) → IsInstrOf r (instr core count) →
        IsNeededBy which r x core count ⊎ (IsNeededBy which r x core count → ⊥)
    needed core count inside =
        let k = some_clock (instr core count) inside in
        elim (cases_lt (k.0 x.core) x.count) [
          | inl lt ↦ inr (λ need. let le = (k.1 x node.some).1 need in omega arith)
          | inr le ↦ inl ((k.1 x node.some).0 le)
        ]

    free_from : (core m : ℕ) → core < length r.totals → m ≤ slice_index r.totals core →
        AreBetween which r x core 0 m → (n : ℕ) × AreFree which r x core n
    free_from core zero inside le h = (0, between_end which r x core 0 0 h (omega arith))
    free_from core (suc j) inside le h =
        by (needed core (suc j) (record { core = inside; some = omega arith; most = omega arith }))
        (free_from core j inside (omega arith))
      where
        by : IsNeededBy which r x core (suc j) ⊎ (IsNeededBy which r x core (suc j) → ⊥) →
            (AreBetween which r x core 0 j → (n : ℕ) × AreFree which r x core n) →
            (n : ℕ) × AreFree which r x core n
        by (inl need) go = go (between_need which r x core 0 (suc j) (suc j) h (omega arith) le j (omega arith) need)
        by (inr not) go = (
          suc j,
          between_end which r x core (suc j) (suc j)
              (between_free which r x core 0 (suc j) (suc j) h (omega arith) le not) (omega arith),
        )

    free_of : (core : ℕ) → (n : ℕ) × (core < length r.totals → AreFree which r x core n)
    free_of core = elim (cases_lt core (length r.totals)) [
      | inl inside ↦
          let free = free_from core (slice_index r.totals core) inside (omega arith)
          (between_start which r x core (slice_index r.totals core) refl) in
          (free.0, λ lt. free.1)
      | inr past ↦ (0, λ lt. absurd (omega arith))
    ]

    pub some_greatest : (cut : Cut) × IsGreatestWithout which r x cut
    some_greatest =
        let f : ℕ → ℕ = λ core. (free_of core).0 in (
          cut_of (plan_of which r) f,
          greatest_without which r valid x node f
              (λ core lt. (free_of core).1 (let all = valid.each_core in omega arith))
              (cut_of (plan_of which r) f) (counted f),
        )

    pub some_step_back : (cut : Cut) → IsClosed which r cut → (to : Cut) × IsStepBack which r cut x to
    some_step_back cut closed =
        let g = some_greatest in
        (intersection_of cut g.0, back_by_intersection which r cut g.0 x closed g.1)
