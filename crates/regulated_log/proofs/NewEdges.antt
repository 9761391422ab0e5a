-- The edges that a retirement adds can be told next, each of another pair.
use Rattle.std.proofs.Common.{ℕ, zero, suc, ◌+◌, ◌<◌, ◌≤◌, List, [], ◌∷◌, ◌++◌, length, get_or, refl, sym, ap, subst}
use Rattle.std.proofs.Common.{◌∙◌, arith}
use Rattle.std.specs.Prelude.{slice_index_or}
use Rattle.std.specs.List.{AllByRecursion, Contains}
use Rattle.rtr_types.specs.Pairs.{IsPair, pair_place, source_at, target_at}
use Rattle.rtr_types.proofs.PairPlaces.{pairs-placed}
use Rattle.rtr_types.specs.declared.instr.Instr.{Instr}
use Rattle.rtr_types.specs.declared.instr.Edge.{Edge}
use Rattle.clock_core.specs.Order.{Among}
use Rattle.clock_core.proofs.EdgeLists.{place_among}
use Rattle.rtr_types.specs.PairEdges.{with_edges, AreEdgesAfter}
use Rattle.online_reduce.specs.Reduced.{count_of, edges_of, retired}
use Rattle.online_reduce.specs.Exact.{IsReduction, AreCoveringInto, SourcesRise}
use Rattle.online_reduce.proofs.Reductions.{retire_law, listed_law}
use Rattle.clock_core.proofs.EdgeLists.{among_right}
use Rattle.online_reduce.proofs.TouchedState.{covering_after}
use Rattle.know_history.specs.Notes.{noted_count}
use Rattle.edge_regulate.specs.Regulated.{IsNextEdge}
use Rattle.edge_regulate.proofs.VectorEnds.{next_law}
use Rattle.regulated_log.specs.NewEdges.{NewEdgesLaw}
use Rattle.regulated_log.proofs.AllPairs.{all_contains}

-- ---- lists of edges

sources-above : (low : ℕ) (edges : List Edge) (k : ℕ) (d : Edge) → SourcesRise low edges → k < length edges →
    low ≤ (get_or edges k d).from.core
sources-above low [] k d rise lt = absurd (omega arith)
sources-above low (e ∷ edges) zero d rise lt = rise.0
sources-above low (e ∷ edges) (suc k) d rise lt = let first = rise.0 in let rest =
    sources-above (e.from.core + 1) edges k d rise.1 (omega arith) in omega arith

sources-rise_at : (low : ℕ) (edges : List Edge) (i j : ℕ) (d : Edge) → SourcesRise low edges → i < j →
    j < length edges →
    (get_or edges i d).from.core < (get_or edges j d).from.core
sources-rise_at low [] i j d rise before lt = absurd (omega arith)
sources-rise_at low (e ∷ edges) i zero d rise before lt = absurd (omega arith)
sources-rise_at low (e ∷ edges) zero (suc j) d rise before lt = let up =
    sources-above (e.from.core + 1) edges j d rise.1 (omega arith) in omega arith
sources-rise_at low (e ∷ edges) (suc i) (suc j) d rise before lt = sources-rise_at (e.from.core + 1) edges i j d rise.1
    (omega arith) (omega arith)

-- counts that rise are at least 1, and at most the most
rise_some : (most last : ℕ × ℕ) (edges : List (ℕ × ℕ)) → AreEdgesAfter most last edges →
    AllByRecursion (λ (e : ℕ × ℕ). (1 ≤ e.0) × (e.1 ≤ most.1)) edges
rise_some most last [] rise = tt
rise_some most last (e ∷ edges) rise = (
  (let up = rise.0.rises.source in omega arith, rise.0.target_most),
  rise_some most e edges rise.1,
)

rise_below : (most last : ℕ × ℕ) (edges : List (ℕ × ℕ)) (b : ℕ) → AreEdgesAfter most last edges → most.1 < b →
    AllByRecursion (λ (e : ℕ × ℕ). e.1 < b) edges
rise_below most last [] b rise lt = tt
rise_below most last (e ∷ edges) b rise lt = (
  let le = rise.0.target_most in
      omega arith,
  rise_below most e edges b rise.1 lt,
)

-- ---- the new edges

pub new_edges_law : NewEdgesLaw
unfolding with_edges
new_edges_law notes list r edges a t s is_next times kept cores going noted = record {
  next = λ k d lt. next (get_or (edges_of r a t) k d) (place_among (edges_of r a t) k d lt);
  apart = λ i j d before lt same.
      let one = pair (get_or (edges_of r a t) i d) (place_among (edges_of r a t) i d (omega arith)) in
      let two = pair (get_or (edges_of r a t) j d) (place_among (edges_of r a t) j d lt) in
      let up = sources-rise_at 0 (edges_of r a t) i j d covering.order before lt in
      let source = sym (pairs-placed s.cores (get_or (edges_of r a t) i d).from.core
      (get_or (edges_of r a t) i d).to.core one).1
      ∙ ap (λ (p : ℕ). source_at s.cores p) same
      ∙ (pairs-placed s.cores (get_or (edges_of r a t) j d).from.core (get_or (edges_of r a t) j d).to.core two).1 in
      omega arith;
  lists = ap (λ (n : ℕ). with_edges n r.lists (edges_of r a t)) (sym cores);
}
  where
    covering : AreCoveringInto (list ++ a ∷ []) a.at (edges_of r a t)
    covering = covering_after r a t (edges_of r a t) refl is_next list kept.exact times

    reduction : IsReduction (list ++ a ∷ []) (retired r a t) (edges ++ edges_of r a t)
    reduction = retire_law list r edges a t is_next times kept

    listed : (e : Edge) → Among (edges_of r a t) e.from e.to → IsPair r.cores e.from.core e.to.core
        × Contains (slice_index_or (retired r a t).lists (pair_place r.cores e.from.core e.to.core) []) (
          e.from.count,
          e.to.count,
        )
    listed e among = (listed_law (list ++ a ∷ []) (retired r a t) (edges ++ edges_of r a t) reduction e.from e.to).0
        (among_right edges (edges_of r a t) e.from e.to among)

    pair : (e : Edge) → Among (edges_of r a t) e.from e.to → IsPair s.cores e.from.core e.to.core
    pair e among = subst (λ (n : ℕ). IsPair n e.from.core e.to.core) (sym cores) (listed e among).0

    next : (e : Edge) → Among (edges_of r a t) e.from e.to → IsNextEdge notes s e
    next e among =
        let both = listed e among in
        let place = pair_place r.cores e.from.core e.to.core in
        let placed = pairs-placed r.cores e.from.core e.to.core both.0 in
        let some = all_contains (λ (p : ℕ × ℕ). (1 ≤ p.0) × (p.1 ≤ count_of (retired r a t) (target_at r.cores place)))
        (slice_index_or (retired r a t).lists place []) (e.from.count, e.to.count)
        (rise_some (
          count_of (retired r a t) (source_at r.cores place),
          count_of (retired r a t) (target_at r.cores place),
        ) (0, 0)
        (slice_index_or (retired r a t).lists place []) (reduction.rising place placed.0)) both.1 in
        let at = (covering.covering e.from e.to).0 among in
        let core = ap (λ (v : Instr). v.core) at.0 in
        let count = ap (λ (v : Instr). v.count) at.0 in
        let up = is_next.count in
        let target = ap (λ (i : ℕ). count_of r i) (placed.2 ∙ core) in
        let below = rise_below (count_of r (source_at r.cores place), count_of r (target_at r.cores place)) (0, 0)
        (slice_index_or r.lists place []) e.to.count
        (kept.rising place placed.0) (omega arith) in
        let there = subst (λ (n : ℕ). AllByRecursion (λ (d : ℕ × ℕ). d.1 < e.to.count)
        (slice_index_or r.lists (pair_place n e.from.core e.to.core) []))
        (sym cores) below in
        let counted : e.to.count ≤ noted_count notes e.to.core =
        subst (λ (v : Instr). v.count ≤ noted_count notes v.core) (sym at.0) noted in
        next_law notes r.lists s e going (pair e among) some.0 (omega arith) there counted
