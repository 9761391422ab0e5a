-- Each edge of a least log has a cut at which both its instructions come next.
use Rattle.std.proofs.Common.{inl, inr, ◌≡◌, ◌≢◌, ◌⊎◌, ℕ, zero, suc, ◌+◌, ◌-◌, ◌<◌, ◌≤◌, List, length, refl, sym, ◌∙◌}
use Rattle.std.proofs.Common.{ap, subst, arith, replicate, length-set}
use Rattle.std.specs.Prelude.{slice_index, slice_set, reverse}
use Rattle.std.proofs.lemmas.Bool.{cases_lt}
use Rattle.std.proofs.lemmas.List.{length-replicate, get_or-replicate, get_or_past}
use Rattle.rtr_types.specs.declared.TheConstants.{CORES_MAX}
use Rattle.rtr_types.specs.declared.cut.Cut.{Cut}
use Rattle.rtr_types.specs.declared.instr.Instr.{Instr}
use Rattle.rtr_types.specs.declared.pairs.Which.{Which}
use Rattle.rtr_types.specs.declared.pairs.Which.TheVariants.{Reduced}
use Rattle.clock_core.specs.Order.{Relation, Step, Before, IsOrLeads, Among, previous}
use Rattle.clock_core.specs.Reach.{IsClock}
use Rattle.clock_core.proofs.EdgeLists.{among_contains, contains_among}
use Rattle.clock_core.proofs.Paths.{joined, one, more, mapped, last_at}
use Rattle.conflict_edge.specs.Conflicts.{ConflictPair}
use Rattle.conflict_edge.specs.Least.{Covering, Others}
use Rattle.conflict_edge.specs.Clocks.{clock}
use Rattle.conflict_edge.proofs.TwoForms.{covering_law, independent_law}
use Rattle.conflict_edge.proofs.Independent.{cases_instr}
use Rattle.conflict_edge.proofs.Reach.{clock_law}
use Rattle.race_log.specs.declared.recording.Recording.{Recording}
use Rattle.race_log.specs.Sources.{HasEdge, EdgeWithin, log_edges}
use Rattle.race_log.specs.Validity.{Valid}
use Rattle.replay_core.specs.Plans.{plan_of}
use Rattle.replay_core.specs.Play.{instr}
use Rattle.replay_core.specs.Orders.{bump, counts, nought, Ready}
use Rattle.replay_core.proofs.Counts.{bump_same, bump_else, bump_more}
use Rattle.replay_core.proofs.Ready.{within_sourced}
use Rattle.replay_audit.specs.Audits.{IsInstrOf}
use Rattle.replay_audit.specs.Determinate.{low_accesses}
use Rattle.replay_audit.proofs.Logs.{leads_back}
use Rattle.cut_replay.specs.ClosedCuts.{count_in, Holds, IsGreatestWithout}
use Rattle.cut_replay.specs.CutStates.{Reaches}
use Rattle.cut_replay.specs.Frees.{IsNeededBy, AreBetween, AreFree}
use Rattle.cut_replay.proofs.Cuts.{IsCountsOf, filled, unfilled, greatest_without, between_start, between_end}
use Rattle.cut_replay.proofs.Cuts.{between_need, between_free, closed_counts, has_within}
use Rattle.certificate_codec.specs.Ends.{reduced_edges}
use Rattle.min_certificate.proofs.Lows.{low_rise, low_acyclic}
use Rattle.race_cuts.specs.OpenCuts.{ComesNext, IsOpenCut, HasLeastLog, GreatestIsOpenLaw, OpenCutLaw, LastOpenLaw}
use Rattle.race_cuts.specs.OpenCuts.{OpenEdgesAreLeastLaw, ReadyWhereOpenLaw}

-- ---- a cut with given counts

record HasCounts (cores : ℕ) (f : ℕ → ℕ) (n : ℕ) : Type 0 where
  list : List ℕ
  wide : length list ≡ CORES_MAX
  done : (c : ℕ) → c < n → slice_index list c ≡ f c
  rest : (c : ℕ) → n ≤ c → slice_index list c ≡ 0

no_counts : (c : ℕ) → slice_index (replicate CORES_MAX 0) c ≡ 0
no_counts c = by (cases_lt c CORES_MAX)
  where
    by : (c < CORES_MAX) ⊎ (CORES_MAX ≤ c) → slice_index (replicate CORES_MAX 0) c ≡ 0
    by (inl lt) = get_or-replicate CORES_MAX c 0 0 lt
    by (inr le) = get_or_past (replicate CORES_MAX 0) c 0 le

has_counts : (cores : ℕ) (f : ℕ → ℕ) (n : ℕ) → n ≤ CORES_MAX → HasCounts cores f n
has_counts cores f zero le = record {
  list = replicate CORES_MAX 0;
  wide = length-replicate {A = ℕ} CORES_MAX 0;
  done = λ c lt. absurd (omega arith);
  rest = λ c le. no_counts c;
}
has_counts cores f (suc n) le = by (has_counts cores f n (omega arith))
  where
    by : HasCounts cores f n → HasCounts cores f (suc n)
    by h = let w = h.wide in let inside : n < length h.list = omega arith in record {
      list = slice_set h.list n (f n);
      wide = length-set h.list n (f n) ∙ h.wide;
      done = λ c lt. filled (λ (i : ℕ) (v : ℕ). v ≡ f i) h.list n (f n) inside h.done refl c (omega arith);
      rest = λ c le. unfilled h.list n (f n) h.rest c (omega arith);
    }

pub cut_with : (r : Recording) (f : ℕ → ℕ) → Valid r → (cut : Cut) × IsCountsOf r f cut
cut_with r f valid =
    let few = valid.params.cores in
    let h : HasCounts r.params.cores f r.params.cores = has_counts r.params.cores f r.params.cores few in (
      record { cores = r.params.cores; counts = h.list },
      record { cores = refl; places = h.wide; done = h.done; rest = h.rest },
    )

-- ---- an edge of the log

pub edge_node : (which : Which) (r : Recording) (x y : Instr) → Valid r → HasEdge which r x y → IsInstrOf r x
edge_node which r x y valid has =
    let w = has_within which r x y valid has in
    record {
      core = let lt = w.pair.source in let e = valid.each_core in omega arith;
      some = w.some_source;
      most = w.source_most;
    }

-- ---- a determinate recording whose reduced log is least

abbrev pub E : Recording → Relation
E r = Among (reduced_edges r)

abbrev pub C : Recording → Relation
C r = ConflictPair (low_accesses Reduced r)

module _ (r : Recording) (known : HasLeastLog r) where
  pub acyclic : (x : Instr) → Before (E r) x x → ⊥
  acyclic = low_acyclic r known.valid known.determinate

  or_into : (x y : Instr) → IsOrLeads (C r) x y → IsOrLeads (E r) x y
  or_into x y (inl e) = inl e
  or_into x y (inr p) = inr (mapped (C r) (E r) known.least.suffices x y p)

  or_back : (x y : Instr) → IsOrLeads (E r) x y → IsOrLeads (C r) x y
  or_back x y (inl e) = inl e
  or_back x y (inr p) = inr (more (E r) (C r) known.least.conflict x y p)

  -- the clock by the conflicts is that by the log
  pub clock_is : (y : Instr) → IsClock (E r) y (clock (reverse (low_accesses Reduced r)) y)
  clock_is y x some =
      let k = clock_law (low_accesses Reduced r) y (low_rise r) x some in
      (λ le. or_into x y (k.0 le), λ p. k.1 (or_back x y p))

  -- nothing stands between the two instructions of an edge
  pub between : (x y z : Instr) → HasEdge Reduced r x y → Before (E r) x z → Before (E r) z y → ⊥
  between x y z has p q =
      let covering : Covering (low_accesses Reduced r) x y =
      ((covering_law (low_accesses Reduced r) (reduced_edges r) (low_rise r)).0 known.least x y).0
      (contains_among (reduced_edges r) x y has) in
      covering.1 z (more (E r) (C r) known.least.conflict x z p) (more (E r) (C r) known.least.conflict z y q)

  -- ---- the greatest cut without an instruction

  module _ (x : Instr) (node : IsInstrOf r x) where
    needed : (core count : ℕ) → IsNeededBy Reduced r x core count ⊎ (IsNeededBy Reduced r x core count → ⊥)
    needed core count = by (cases_lt (clock (reverse (low_accesses Reduced r)) (instr core count) x.core) x.count)
      where
        by : (clock (reverse (low_accesses Reduced r)) (instr core count) x.core < x.count)
            ⊎ (x.count ≤ clock (reverse (low_accesses Reduced r)) (instr core count) x.core) →
            IsNeededBy Reduced r x core count ⊎ (IsNeededBy Reduced r x core count → ⊥)
        by (inl lt) = inr (λ need. let le = (clock_is (instr core count) x node.some).1 need in omega arith)
        by (inr le) = inl ((clock_is (instr core count) x node.some).0 le)

    free_from : (core k : ℕ) → k ≤ slice_index r.totals core → AreBetween Reduced r x core 0 k →
        (n : ℕ) × AreFree Reduced r x core n
    free_from core zero le h = (0, between_end Reduced r x core 0 0 h (omega arith))
    free_from core (suc j) le h = by (needed core (suc j)) (free_from core j (omega arith))
      where
        by : IsNeededBy Reduced r x core (suc j) ⊎ (IsNeededBy Reduced r x core (suc j) → ⊥) →
            (AreBetween Reduced r x core 0 j → (n : ℕ) × AreFree Reduced r x core n) →
            (n : ℕ) × AreFree Reduced r x core n
        by (inl need) go = go (between_need Reduced r x core 0 (suc j) (suc j) h (omega arith) le j (omega arith) need)
        by (inr not) go = (
          suc j,
          between_end Reduced r x core (suc j) (suc j)
              (between_free Reduced r x core 0 (suc j) (suc j) h (omega arith) le not) (omega arith),
        )

    free : (core : ℕ) → (n : ℕ) × AreFree Reduced r x core n
    free core = free_from core (slice_index r.totals core) (omega arith)
        (between_start Reduced r x core (slice_index r.totals core) refl)

    some_greatest : (cut : Cut) × IsGreatestWithout Reduced r x cut
    some_greatest =
        let c = cut_with r (λ core. (free core).0) known.valid in
        (c.0, greatest_without Reduced r known.valid x node (λ core. (free core).0) (λ core lt. (free core).1) c.0 c.1)

    -- which holds each instruction that doesn't need it
    holds_free : (cut : Cut) (p : Instr) → IsGreatestWithout Reduced r x cut → p.core < r.params.cores →
        p.count ≤ slice_index r.totals p.core → (IsOrLeads (E r) x p → ⊥) → Holds cut p
    holds_free cut p h inside most not =
        let c = cut_with r (λ core. (free core).0) known.valid in
        let g = greatest_without Reduced r known.valid x node (λ core. (free core).0) (λ core lt. (free core).1) c.0 c.1
        in
        let up = h.greatest c.0 g.closed g.without p.core in
        let here = c.1.done p.core inside in
        by (omega arith) (cases_lt (free p.core).0 p.count)
      where
        by : (free p.core).0 ≤ count_in cut p.core → ((free p.core).0 < p.count) ⊎ (p.count ≤ (free p.core).0) →
            Holds cut p
        by le (inl lt) = absurd (not ((free p.core).1.need p.count lt most))
        by le (inr low) = omega arith

  -- ---- both instructions of an edge come next

  module _ (x y : Instr) (has : HasEdge Reduced r x y) (cut : Cut) (h : IsGreatestWithout Reduced r x cut) where
    w : EdgeWithin r x y
    w = has_within Reduced r x y known.valid has

    node : IsInstrOf r x
    node = edge_node Reduced r x y known.valid has

    edge_before : (a b : Instr) → HasEdge Reduced r a b → Before (E r) a b
    edge_before a b there = one (E r) a b (inr (contains_among (reduced_edges r) a b there))

    back_one : (a : Instr) → 1 ≤ a.count → Before (E r) (previous a) a
    back_one a some = one (E r) (previous a) a (inl (refl, omega arith))

    before_first : Holds cut (previous x)
    before_first = let some = w.some_source in let most = w.source_most in
        holds_free x node cut (previous x) h w.pair.source (omega arith) by
      where
        by : IsOrLeads (E r) x (previous x) → ⊥
        by (inl e) = let c : x.count ≡ x.count - 1 = ap (λ (i : Instr). i.count) e in let some = w.some_source in
            omega arith
        by (inr p) = acyclic x (joined (E r) x (previous x) x p (back_one x w.some_source))

    before_second : Holds cut (previous y)
    before_second = let some = w.some_target in let most = w.target_most in
        holds_free x node cut (previous y) h w.pair.target (omega arith) by
      where
        by : IsOrLeads (E r) x (previous y) → ⊥
        by (inl e) = w.pair.differ (ap (λ (i : Instr). i.core) e)
        by (inr p) = between x y (previous y) has p (back_one y w.some_target)

    source_first : (from : Instr) → HasEdge Reduced r from x → Holds cut from
    source_first from there =
        let v = has_within Reduced r from x known.valid there in
        holds_free x node cut from h v.pair.source v.source_most by
      where
        by : IsOrLeads (E r) x from → ⊥
        by (inl e) = acyclic x (subst (λ (i : Instr). Before (E r) i x) (sym e) (edge_before from x there))
        by (inr p) = acyclic x (joined (E r) x from x p (edge_before from x there))

    source_second : (from : Instr) → HasEdge Reduced r from y → from ≢ x → Holds cut from
    source_second from there other =
        let v = has_within Reduced r from y known.valid there in
        holds_free x node cut from h v.pair.source v.source_most by
      where
        by : IsOrLeads (E r) x from → ⊥
        by (inl e) = other (sym e)
        by (inr p) = between x y from has p (edge_before from y there)

    not_second : Holds cut y → ⊥
    not_second held = h.without (h.closed.sources x y has held)

    both : IsOpenCut Reduced r x y cut
    both =
        let s = w.some_source in
        let t = w.some_target in
        let a = before_first in
        let b = before_second in
        record {
          closed = h.closed;
          first = by x s a h.without;
          second = by y t b not_second;
          first_sources = source_first;
          second_sources = source_second;
        }
      where
        by : (z : Instr) → 1 ≤ z.count → Holds cut (previous z) → (Holds cut z → ⊥) → ComesNext cut z
        by z some held not = elim (cases_lt (count_in cut z.core) z.count) [
          | inl lt ↦ omega arith
          | inr le ↦ absurd (not le)
        ]

pub greatest_is_open : GreatestIsOpenLaw
greatest_is_open r x y cut known has h = both r known x y has cut h

pub open_cut : OpenCutLaw
open_cut r x y known has =
    let node = edge_node Reduced r x y known.valid has in
    let g = some_greatest r known x node in
    (g.0, both r known x y has g.0 g.1)

pub last_open : LastOpenLaw
last_open which r x y cut other h both =
    let next = both.first in
    h.greatest other both.closed (λ held. omega arith)

-- ---- and the other way round

module _ (r : Recording) (x y : Instr) (cut : Cut) (h : IsOpenCut Reduced r x y cut) where
  not_implied : Before (Others (E r) x y) x y → ⊥
  not_implied p = let l = last_at (Others (E r) x y) p.0 x y p.1 in by l.0 l.1 (held l.0 l.2)
    where
      held : (v : Instr) → Step (Others (E r) x y) v y → Holds cut v
      held v (inl s) = let next = h.second in let lt = s.1 in let e = ap (count_in cut) s.0 in omega arith
      held v (inr s) = h.second_sources v (among_contains (reduced_edges r) v y s.0) (λ e. s.1 e refl)

      by : (v : Instr) → (x ≡ v) ⊎ Before (Others (E r) x y) x v → Holds cut v → ⊥
      by v (inl e) le = let c = ap (λ (i : Instr). i.count) e in let d = ap (λ (i : Instr). count_in cut i.core) e in
          let next = h.first in omega arith
      by v (inr q) le =
          let path = more (Others (E r) x y) (E r) (λ a b s. s.0) x v q in
          let in_ = leads_back (reduced_edges r) (count_in cut) x v (closed_counts Reduced r cut h.closed) (inr path) le
          in
          let next = h.first in
          omega arith

pub open_edges_are_least : OpenEdgesAreLeastLaw
open_edges_are_least r valid determinate conflict = (
  λ least x y has. open_cut r x y (record { valid = valid; determinate = determinate; least = least }) has,
  λ each. (independent_law (low_accesses Reduced r) (reduced_edges r) (low_rise r) conflict determinate.suffices).1
      (λ x y a p. let c = each x y (among_contains (reduced_edges r) x y a) in not_implied r x y c.0 c.1 p),
)

-- ---- the cores are ready there

module _ (which : Which) (r : Recording) (x y : Instr) (cut : Cut) (order : List ℕ) (valid : Valid r)
    (has : HasEdge which r x y) (h : IsOpenCut which r x y cut) (reach : Reaches which r cut order) where
  first_ready : Ready (plan_of which r) (counts nought order) x.core
  first_ready =
      let w = has_within which r x y valid has in
      let e = valid.each_core in
      let lt = w.pair.source in
      let most = w.source_most in
      let next = h.first in
      let here = reach.counts_are x.core in
      let number : counts nought order x.core + 1 ≡ x.count = omega arith in
      record {
        inside = omega arith;
        below = omega arith;
        sourced = within_sourced (log_edges which r) (counts nought order) x.core (counts nought order x.core + 1)
            (λ from there.
            let le = h.first_sources from
            (subst (λ (n : ℕ). HasEdge which r from (instr x.core n)) number there) in
            let same = reach.counts_are from.core in
            omega arith);
      }

  second_ready : Ready (plan_of which r) (bump (counts nought order) x.core) y.core
  second_ready =
      let w = has_within which r x y valid has in
      let e = valid.each_core in
      let lt = w.pair.target in
      let most = w.target_most in
      let next = h.second in
      let here = reach.counts_are y.core in
      let stays = bump_else (counts nought order) x.core y.core (λ e. w.pair.differ (sym e)) in
      let number : bump (counts nought order) x.core y.core + 1 ≡ y.count = omega arith in
      record {
        inside = omega arith;
        below = omega arith;
        sourced = within_sourced (log_edges which r) (bump (counts nought order) x.core) y.core
            (bump (counts nought order) x.core y.core + 1)
            (λ from there. source from
            (subst (λ (n : ℕ). HasEdge which r from (instr y.core n)) number there) (cases_instr from x));
      }
    where
      source : (from : Instr) → HasEdge which r from y → (from ≡ x) ⊎ (from ≢ x) →
          from.count ≤ bump (counts nought order) x.core from.core
      source from there (inl e) =
          let core = ap (λ (i : Instr). i.core) e in
          let count = ap (λ (i : Instr). i.count) e in
          let up = bump_same (counts nought order) x.core from.core core in
          let at = ap (counts nought order) core in
          let here = reach.counts_are x.core in
          let next = h.first in
          omega arith
      source from there (inr other) =
          let le = h.second_sources from there other in
          let same = reach.counts_are from.core in
          let up = bump_more (counts nought order) x.core from.core in
          omega arith

pub ready_where_open : ReadyWhereOpenLaw
ready_where_open which r x y cut order valid has h reach =
    (first_ready which r x y cut order valid has h reach, second_ready which r x y cut order valid has h reach)
