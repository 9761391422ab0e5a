-- Steps back to the cuts at which both instructions of an edge come next.
use Rattle.std.proofs.Common.{inl, inr, ◌≡◌, ◌≢◌, ◌⊎◌, ◌-◌, ◌<◌, ◌≤◌, refl, sym, ap, subst, arith}
use Rattle.std.specs.Prelude.{slice_index, reverse}
use Rattle.std.proofs.lemmas.Bool.{cases_lt}
use Rattle.std.proofs.Math.Nat.{eq-zero-or-pos}
use Rattle.rtr_types.specs.declared.cut.Cut.{Cut}
use Rattle.rtr_types.specs.declared.instr.Instr.{Instr}
use Rattle.rtr_types.specs.declared.pairs.Which.TheVariants.{Reduced}
use Rattle.clock_core.specs.Order.{Step, Before, IsOrLeads, previous}
use Rattle.clock_core.proofs.EdgeLists.{among_contains, contains_among}
use Rattle.clock_core.proofs.Paths.{joined, one, last_at}
use Rattle.conflict_edge.specs.Clocks.{clock}
use Rattle.conflict_edge.proofs.Independent.{cases_instr}
use Rattle.race_log.specs.declared.recording.Recording.{Recording}
use Rattle.race_log.specs.Sources.{HasEdge, EdgeWithin}
use Rattle.replay_core.specs.Play.{instr}
use Rattle.replay_audit.specs.Audits.{IsInstrOf}
use Rattle.replay_audit.specs.Determinate.{low_accesses}
use Rattle.replay_audit.proofs.Logs.{leads_back}
use Rattle.cut_replay.specs.ClosedCuts.{count_in, Holds, IsContained, IsClosed, IsLeastWith}
use Rattle.cut_replay.proofs.Cuts.{closed_counts, has_within, least_with}
use Rattle.cut_moves.specs.Steps.{IsStepBack}
use Rattle.certificate_codec.specs.Ends.{reduced_edges}
use Rattle.race_cuts.specs.OpenCuts.{ComesNext, IsOpenCut, HasLeastLog}
use Rattle.race_cuts.specs.BackSteps.{BackIsOpenLaw, FirstOpenLaw}
use Rattle.race_cuts.proofs.OpenEdges.{E, cut_with, edge_node, acyclic, clock_is, between}

module _ (r : Recording) (known : HasLeastLog r) where
  -- ---- the least cut with an instruction

  record Least (p : Instr) : Type 0 where
    cut : Cut
    is : IsLeastWith Reduced r p cut
    only : (z : Instr) → z.core < r.params.cores → 1 ≤ z.count → Holds cut z → IsOrLeads (E r) z p

  some_least : (p : Instr) → IsInstrOf r p → Least p
  some_least p node =
      let c = cut_with r (clock (reverse (low_accesses Reduced r)) p) known.valid in
      record {
        cut = c.0;
        is = least_with Reduced r known.valid p node (clock (reverse (low_accesses Reduced r)) p) (clock_is r known p)
            c.0 c.1;
        only = λ z lt some held.
            let here = c.1.done z.core lt in
            (clock_is r known p z some).0 (omega arith);
      }

  -- ---- a step back over x

  module _ (x y : Instr) (has : HasEdge Reduced r x y) (from to : Cut) (closed : IsClosed Reduced r from)
      (held : Holds from y) (back : IsStepBack Reduced r from x to) where
    w : EdgeWithin r x y
    w = has_within Reduced r x y known.valid has

    x_node : IsInstrOf r x
    x_node = edge_node Reduced r x y known.valid has

    holds_x : Holds from x
    holds_x = closed.sources x y has held

    edge_before : (a b : Instr) → HasEdge Reduced r a b → Before (E r) a b
    edge_before a b there = one (E r) a b (inr (contains_among (reduced_edges r) a b there))

    back_one : (a : Instr) → 1 ≤ a.count → Before (E r) (previous a) a
    back_one a some = one (E r) (previous a) a (inl (refl, omega arith))

    -- it holds what the cut held and doesn't need x
    stays : (p : Instr) → p.core < r.params.cores → p.count ≤ slice_index r.totals p.core → Holds from p →
        (IsOrLeads (E r) x p → ⊥) → Holds to p
    stays p inside most there not = by (eq-zero-or-pos p.count)
      where
        node : 1 ≤ p.count → IsInstrOf r p
        node some = record { core = let e = known.valid.each_core in omega arith; some = some; most = most }

        by : (p.count ≡ 0) ⊎ (1 ≤ p.count) → Holds to p
        by (inl none) = omega arith
        by (inr some) =
            let l = some_least p (node some) in
            let up = back.greatest l.cut l.is.closed (l.is.least from closed there)
            (λ h. not (l.only x w.pair.source w.some_source h)) p.core in
            let in_ = l.is.holds in
            omega arith

    before_first : Holds to (previous x)
    before_first = let some = w.some_source in let most = w.source_most in let h = holds_x in
        stays (previous x) w.pair.source (omega arith) (omega arith) by
      where
        by : IsOrLeads (E r) x (previous x) → ⊥
        by (inl e) = let c : x.count ≡ x.count - 1 = ap (λ (i : Instr). i.count) e in let some = w.some_source in
            omega arith
        by (inr p) = acyclic r known x (joined (E r) x (previous x) x p (back_one x w.some_source))

    before_second : Holds to (previous y)
    before_second = let some = w.some_target in let most = w.target_most in
        stays (previous y) w.pair.target (omega arith) (omega arith) by
      where
        by : IsOrLeads (E r) x (previous y) → ⊥
        by (inl e) = w.pair.differ (ap (λ (i : Instr). i.core) e)
        by (inr p) = between r known x y (previous y) has p (back_one y w.some_target)

    source_first : (s : Instr) → HasEdge Reduced r s x → Holds to s
    source_first s there =
        let v = has_within Reduced r s x known.valid there in
        stays s v.pair.source v.source_most (closed.sources s x there holds_x) by
      where
        by : IsOrLeads (E r) x s → ⊥
        by (inl e) = acyclic r known x (subst (λ (i : Instr). Before (E r) i x) (sym e) (edge_before s x there))
        by (inr p) = acyclic r known x (joined (E r) x s x p (edge_before s x there))

    source_second : (s : Instr) → HasEdge Reduced r s y → s ≢ x → Holds to s
    source_second s there other =
        let v = has_within Reduced r s y known.valid there in
        stays s v.pair.source v.source_most (closed.sources s y there held) by
      where
        by : IsOrLeads (E r) x s → ⊥
        by (inl e) = other (sym e)
        by (inr p) = between r known x y s has p (edge_before s y there)

    both : IsOpenCut Reduced r x y to
    both = record {
      closed = back.closed;
      first = by x w.some_source before_first back.without;
      second = by y w.some_target before_second (λ h. back.without (back.closed.sources x y has h));
      first_sources = source_first;
      second_sources = source_second;
    }
      where
        by : (z : Instr) → 1 ≤ z.count → Holds to (previous z) → (Holds to z → ⊥) → ComesNext to z
        by z some there not = elim (cases_lt (count_in to z.core) z.count) [
          | inl lt ↦ omega arith
          | inr le ↦ absurd (not le)
        ]

  -- ---- the first one

  module _ (x y : Instr) (has : HasEdge Reduced r x y) (from to other : Cut) (least : IsLeastWith Reduced r y from)
      (back : IsStepBack Reduced r from x to) (h : IsOpenCut Reduced r x y other) where
    in_other : (p v : Instr) → IsOrLeads (E r) p v → Holds other v → Holds other p
    in_other p v leads there =
        leads_back (reduced_edges r) (count_in other) p v (closed_counts Reduced r other h.closed) leads there

    before_x : (p : Instr) → Before (E r) p x → Holds other p
    before_x p b = let l = last_at (E r) b.0 p x b.1 in in_other p l.0 l.1 (by l.0 l.2)
      where
        by : (v : Instr) → Step (E r) v x → Holds other v
        by v (inl s) = let next = h.first in let lt = s.1 in let e = ap (count_in other) s.0 in omega arith
        by v (inr s) = h.first_sources v (among_contains (reduced_edges r) v x s)

    before_y : (p : Instr) → p ≢ x → Before (E r) p y → Holds other p
    before_y p ne b = let l = last_at (E r) b.0 p y b.1 in by l.0 l.1 l.2
      where
        through : (v : Instr) → IsOrLeads (E r) p v → (v ≡ x) ⊎ (v ≢ x) → (v ≢ x → Holds other v) → Holds other p
        through v leads (inr other_one) there = in_other p v leads (there other_one)
        through v (inl e) (inl is) there = absurd (ne (subst (λ (i : Instr). p ≡ i) is e))
        through v (inr q) (inl is) there = before_x p (subst (λ (i : Instr). Before (E r) p i) is q)

        by : (v : Instr) → IsOrLeads (E r) p v → Step (E r) v y → Holds other p
        by v leads (inl s) =
            let next = h.second in let lt = s.1 in let e = ap (count_in other) s.0 in
            in_other p v leads (omega arith)
        by v leads (inr s) = through v leads (cases_instr v x)
            (λ other_one. h.second_sources v (among_contains (reduced_edges r) v y s) other_one)

    y_node : IsInstrOf r y
    y_node =
        let v = has_within Reduced r x y known.valid has in
        record {
          core = let lt = v.pair.target in let e = known.valid.each_core in omega arith;
          some = v.some_target;
          most = v.target_most;
        }

    contained : IsContained to other
    contained core = by (eq-zero-or-pos (count_in to core)) (cases_lt core r.params.cores)
      where
        at : 1 ≤ count_in to core → core < r.params.cores → IsOrLeads (E r) (instr core (count_in to core)) y
        at some lt =
            let l = some_least y y_node in
            let up = least.least l.cut l.is.closed l.is.holds core in
            let in_ = back.contained core in
            l.only (instr core (count_in to core)) lt some (omega arith)

        not_x : instr core (count_in to core) ≢ x
        not_x e =
            let c = ap (λ (i : Instr). i.count) e in
            let d = ap (λ (i : Instr). count_in to i.core) e in
            back.without (omega arith)

        not_y : instr core (count_in to core) ≡ y → ⊥
        not_y e =
            let c = ap (λ (i : Instr). i.count) e in
            let d = ap (λ (i : Instr). count_in to i.core) e in
            back.without (back.closed.sources x y has (omega arith))

        go : IsOrLeads (E r) (instr core (count_in to core)) y → count_in to core ≤ count_in other core
        go (inl e) = absurd (not_y e)
        go (inr p) = before_y (instr core (count_in to core)) not_x p

        by : (count_in to core ≡ 0) ⊎ (1 ≤ count_in to core) → (core < r.params.cores) ⊎ (r.params.cores ≤ core) →
            count_in to core ≤ count_in other core
        by (inl none) inside = omega arith
        by (inr some) (inl lt) = go (at some lt)
        by (inr some) (inr le) = let none = back.closed.is_cut.rest core le in omega arith

pub back_is_open : BackIsOpenLaw
back_is_open r x y from to known has closed held back = both r known x y has from to closed held back

pub first_open : FirstOpenLaw
first_open r x y from to other known has least back h = contained r known x y has from to other least back h
