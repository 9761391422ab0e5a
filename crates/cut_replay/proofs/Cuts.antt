-- The two closed cuts of an instruction, by clocks.
use Rattle.std.proofs.Common.{inl, inr, ◌≡◌, ◌⊎◌, ℕ, ◌+◌, ◌<◌, ◌≤◌, List, length, refl, sym, ◌∙◌, subst, arith}
use Rattle.std.proofs.Common.{get_or-set_same, get_or-set_other}
use Rattle.std.specs.Prelude.{slice_index, slice_set}
use Rattle.std.proofs.lemmas.Bool.{cases_lt}
use Rattle.std.proofs.Math.Nat.{eq-zero-or-pos}
use native.Mathlib.Decide.{ℕ_discrete}
use Rattle.rtr_types.specs.declared.TheConstants.{CORES_MAX}
use Rattle.rtr_types.specs.declared.cut.Cut.{Cut}
use Rattle.rtr_types.specs.declared.instr.Instr.{Instr}
use Rattle.rtr_types.specs.declared.pairs.Which.{Which}
use Rattle.clock_core.specs.Order.{Before, IsOrLeads, Among}
use Rattle.clock_core.specs.Reach.{IsClock}
use Rattle.clock_core.proofs.EdgeLists.{among_contains, contains_among}
use Rattle.clock_core.proofs.Paths.{joined, one}
use Rattle.race_log.specs.declared.recording.Recording.{Recording}
use Rattle.race_log.specs.Sources.{HasEdge, EdgeWithin, log_edges}
use Rattle.race_log.specs.Validity.{Valid}
use Rattle.replay_core.specs.Play.{instr}
use Rattle.replay_core.proofs.Sources.{edge_within}
use Rattle.replay_audit.specs.Audits.{IsInstrOf}
use Rattle.replay_audit.proofs.Logs.{Closed, leads_back}
use Rattle.cut_replay.specs.ClosedCuts.{count_in, Holds, IsCutOf, IsClosed, IsLeastWith, IsGreatestWithout}
use Rattle.cut_replay.specs.Frees.{IsNeededBy, AreBetween, AreFree}

-- ---- numbers

-- ---- what leads to an instruction of a closed cut is in it

pub closed_counts : (which : Which) (r : Recording) (cut : Cut) → IsClosed which r cut →
    Closed (log_edges which r) (count_in cut)
closed_counts which r cut h x y a le = h.sources x y (among_contains (log_edges which r) x y a) le

pub closed_totals : (which : Which) (r : Recording) → Valid r → Closed (log_edges which r) (λ c. slice_index r.totals c)
closed_totals which r valid x y a le = (edge_within which r x y valid a).source_most

pub has_within : (which : Which) (r : Recording) (x y : Instr) → Valid r → HasEdge which r x y → EdgeWithin r x y
has_within which r x y valid has = edge_within which r x y valid (contains_among (log_edges which r) x y has)

edge_step : (which : Which) (r : Recording) (x y : Instr) → HasEdge which r x y → Before (Among (log_edges which r)) x y
edge_step which r x y has = one (Among (log_edges which r)) x y (inr (contains_among (log_edges which r) x y has))

-- an edge goes before a path
pub by_edge : (which : Which) (r : Recording) (x y z : Instr) → HasEdge which r x y →
    IsOrLeads (Among (log_edges which r)) y z → IsOrLeads (Among (log_edges which r)) x z
by_edge which r x y z has (inl e) = inr
    (subst (λ (w : Instr). Before (Among (log_edges which r)) x w) e (edge_step which r x y has))
by_edge which r x y z has (inr p) = inr (joined (Among (log_edges which r)) x y z (edge_step which r x y has) p)

-- and an edge behind one
pub then_edge : (which : Which) (r : Recording) (x y z : Instr) → IsOrLeads (Among (log_edges which r)) x y →
    HasEdge which r y z → IsOrLeads (Among (log_edges which r)) x z
then_edge which r x y z (inl e) has = inr
    (subst (λ (w : Instr). Before (Among (log_edges which r)) w z) (sym e) (edge_step which r y z has))
then_edge which r x y z (inr p) has = inr (joined (Among (log_edges which r)) x y z p (edge_step which r y z has))

-- a clock is within whatever is closed and holds its instruction
pub clock_within : (which : Which) (r : Recording) (at : Instr) (clock f : ℕ → ℕ) →
    IsClock (Among (log_edges which r)) at clock →
    Closed (log_edges which r) f → at.count ≤ f at.core → (core : ℕ) → clock core ≤ f core
clock_within which r at clock f is closed le core = by (eq-zero-or-pos (clock core))
  where
    by : (clock core ≡ 0) ⊎ (1 ≤ clock core) → clock core ≤ f core
    by (inl none) = omega arith
    by (inr some) = leads_back (log_edges which r) f (instr core (clock core)) at closed
        ((is (instr core (clock core)) some).0 (omega arith)) le

-- ---- the cut of a list of counts

-- a list whose places are filled one after the other
pub filled : (P : ℕ → ℕ → Type 0) (xs : List ℕ) (core value : ℕ) → core < length xs →
    ((c : ℕ) → c < core → P c (slice_index xs c)) → P core value →
    (c : ℕ) → c < core + 1 → P c (slice_index (slice_set xs core value) c)
filled P xs core value inside done here c lt = elim (ℕ_discrete c core) [
  | yes e ↦
      let same : slice_index (slice_set xs core value) core ≡ value = get_or-set_same xs core value 0 inside in
      subst (λ (i : ℕ). P i (slice_index (slice_set xs core value) i)) (sym e)
      (subst (λ (n : ℕ). P core n) (sym same) here)
  | no ne ↦ subst (λ (n : ℕ). P c n) (sym (get_or-set_other xs core c value 0 ne)) (done c (omega arith))
]

pub unfilled : (xs : List ℕ) (core value : ℕ) → ((c : ℕ) → core ≤ c → slice_index xs c ≡ 0) → (c : ℕ) → core + 1 ≤ c →
    slice_index (slice_set xs core value) c ≡ 0
unfilled xs core value rest c le = get_or-set_other xs core c value 0 (λ e. omega arith) ∙ rest c (omega arith)

-- the counts of a recording's cores, and 0 at the other places
pub record IsCountsOf (r : Recording) (f : ℕ → ℕ) (cut : Cut) : Type 0 where
  pub cores : cut.cores ≡ r.params.cores
  pub places : length cut.counts ≡ CORES_MAX
  pub done : (core : ℕ) → core < r.params.cores → count_in cut core ≡ f core
  pub rest : (core : ℕ) → r.params.cores ≤ core → count_in cut core ≡ 0

module _ (which : Which) (r : Recording) (valid : Valid r) (at : Instr) (node : IsInstrOf r at) where
  inside : at.core < r.params.cores
  inside = let lt = node.core in let e = valid.each_core in omega arith

  -- ---- the least cut

  module _ (clock : ℕ → ℕ) (is : IsClock (Among (log_edges which r)) at clock) (cut : Cut) (h : IsCountsOf r clock cut)
    where
      least-cut : IsCutOf r cut
      least-cut = record {
        cores = h.cores;
        places = h.places;
        most = λ core lt.
            let e = h.done core lt in
            let le = clock_within which r at clock (λ c. slice_index r.totals c) is (closed_totals which r valid)
            node.most core in
            omega arith;
        rest = h.rest;
      }

      least-sources : (from to : Instr) → HasEdge which r from to → Holds cut to → Holds cut from
      least-sources from to has le =
          let w = has_within which r from to valid has in
          let there = h.done to.core w.pair.target in
          let here = h.done from.core w.pair.source in
          let up = (is from w.some_source).1 (by_edge which r from to at has ((is to w.some_target).0 (omega arith))) in
          omega arith

      pub least_with : IsLeastWith which r at cut
      least_with = record {
        closed = record { is_cut = least-cut; sources = least-sources };
        holds = let e = h.done at.core inside in let le = (is at node.some).1 (inl refl) in omega arith;
        least = λ other closed holds core. each other closed holds core (cases_lt core r.params.cores);
      }
        where
          each : (other : Cut) → IsClosed which r other → Holds other at → (core : ℕ) →
              (core < r.params.cores) ⊎ (r.params.cores ≤ core) →
              count_in cut core ≤ count_in other core
          each other closed holds core (inr past) = let none = h.rest core past in omega arith
          each other closed holds core (inl lt) =
              let e = h.done core lt in
              let le = clock_within which r at clock (count_in other) is (closed_counts which r other closed) holds core
              in
              omega arith

  -- ---- the greatest cut

  module _ (f : ℕ → ℕ) (are : (core : ℕ) → core < r.params.cores → AreFree which r at core (f core)) (cut : Cut)
      (h : IsCountsOf r f cut) where
    free-at : (core : ℕ) → core < r.params.cores → AreFree which r at core (count_in cut core)
    free-at core lt = subst (λ (n : ℕ). AreFree which r at core n) (sym (h.done core lt)) (are core lt)

    greatest-sources : (from to : Instr) → HasEdge which r from to → Holds cut to → Holds cut from
    greatest-sources from to has le = by (cases_lt (count_in cut from.core) from.count)
      where
        w : EdgeWithin r from to
        w = has_within which r from to valid has

        by : (count_in cut from.core < from.count) ⊎ (from.count ≤ count_in cut from.core) → Holds cut from
        by (inr most) = most
        by (inl more) =
            let need = (free-at from.core w.pair.source).need from.count more w.source_most in
            absurd ((free-at to.core w.pair.target).free to.count w.some_target le
            (then_edge which r at from to need has))

    not_held : Holds cut at → ⊥
    not_held le = (free-at at.core inside).free at.count node.some le (inl refl)

    above : (other : Cut) → IsClosed which r other → (Holds other at → ⊥) → (core : ℕ) → core < r.params.cores →
        (count_in cut core < count_in other core) ⊎ (count_in other core ≤ count_in cut core) →
        count_in other core ≤ count_in cut core
    above other closed without core lt (inr most) = most
    above other closed without core lt (inl more) =
        let need = (free-at core lt).need (count_in other core) more (closed.is_cut.most core lt) in
        absurd (without (leads_back (log_edges which r) (count_in other) at (instr core (count_in other core))
        (closed_counts which r other closed) need
        (omega arith)))

    pub greatest_without : IsGreatestWithout which r at cut
    greatest_without = record {
      closed = record {
        is_cut = record {
          cores = h.cores;
          places = h.places;
          most = λ core lt. (free-at core lt).most;
          rest = h.rest;
        };
        sources = greatest-sources;
      };
      without = not_held;
      greatest = λ other closed without core. each other closed without core (cases_lt core r.params.cores);
    }
      where
        each : (other : Cut) → IsClosed which r other → (Holds other at → ⊥) → (core : ℕ) →
            (core < r.params.cores) ⊎ (r.params.cores ≤ core) →
            count_in other core ≤ count_in cut core
        each other closed without core (inr past) = let none = closed.is_cut.rest core past in omega arith
        each other closed without core (inl lt) =
            above other closed without core lt (cases_lt (count_in cut core) (count_in other core))

-- ---- the instructions of one core that need it

module _ (which : Which) (r : Recording) (at : Instr) (core : ℕ) where
  -- each instruction after one that needs it does
  up : (m n : ℕ) → m ≤ n → IsNeededBy which r at core m → IsNeededBy which r at core n
  up m n le need = by (cases_lt m n) need
    where
      on : m < n → IsNeededBy which r at core m → IsNeededBy which r at core n
      on lt (inl e) = inr (subst (λ (w : Instr). Before (Among (log_edges which r)) w (instr core n)) (sym e)
          (one (Among (log_edges which r)) (instr core m) (instr core n) (inl (refl, lt))))
      on lt (inr p) = inr (joined (Among (log_edges which r)) at (instr core m) (instr core n) p
          (one (Among (log_edges which r)) (instr core m) (instr core n) (inl (refl, lt))))

      by : (m < n) ⊎ (n ≤ m) → IsNeededBy which r at core m → IsNeededBy which r at core n
      by (inr most) h = let e : m ≡ n = omega arith in subst (λ (k : ℕ). IsNeededBy which r at core k) e h
      by (inl lt) h = on lt h

  -- nothing is known yet
  pub between_start : (total : ℕ) → total ≡ slice_index r.totals core → AreBetween which r at core 0 total
  between_start total is = record {
    most = omega arith;
    free = λ count some le. absurd (omega arith);
    need = λ count more most. absurd (omega arith);
  }

  -- nothing is left
  pub between_end : (n k : ℕ) → AreBetween which r at core n k → k ≤ n → AreFree which r at core n
  between_end n k h le = record {
    most = h.most;
    free = h.free;
    need = λ count more most. h.need count (omega arith) most;
  }

  module _ (n k m : ℕ) (h : AreBetween which r at core n k) (some : 1 ≤ m) (within : m ≤ slice_index r.totals core)
    where
      -- an instruction between needs it
      pub between_need : (j : ℕ) → j + 1 ≡ m → IsNeededBy which r at core m → AreBetween which r at core n j
      between_need j e need = record {
        most = h.most;
        free = h.free;
        need = λ count more most. up m count (omega arith) need;
      }

      -- or it doesn't
      pub between_free : (IsNeededBy which r at core m → ⊥) → AreBetween which r at core m k
      between_free not = record {
        most = within;
        free = λ count some le need. not (up count m le need);
        need = h.need;
      }
