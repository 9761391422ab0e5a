-- Several edges are told, each of another pair.
use Rattle.std.proofs.Common.{◌≡◌, ◌≢◌, ℕ, ◌+◌, ◌<◌, ◌≤◌, true, false, List, [], take, length, get_or, refl, sym, ap}
use Rattle.std.proofs.Common.{subst}
use Rattle.std.proofs.Common.{◌∙◌, arith}
use Rattle.std.specs.Prelude.{All, slice_index_or}
use Rattle.std.proofs.lemmas.List.{get_or_default, take_all}
use Rattle.std.proofs.lemmas.List.Sums.{fold_more}
use Rattle.rtr_types.specs.Pairs.{IsPair, pair_place}
use Rattle.rtr_types.proofs.PairPlaces.{pairs-placed}
use Rattle.rtr_types.specs.declared.instr.Edge.{Edge}
use Rattle.stride_vector.specs.declared.StrideVector.{StrideVector}
use Rattle.know_history.specs.Notes.{Notes, noted_count}
use Rattle.rtr_types.specs.PairEdges.{with_edge, with_edges}
use Rattle.edge_regulate.specs.Regulated.{AreReady, ArePairsApart, IsSameAt, end_target}
use Rattle.edge_regulate.specs.Seats.{CanFollow, Following, Follows}

-- the place of an edge's pair
abbrev pub place_in : ℕ → Edge → ℕ
place_in cores e = pair_place cores e.from.core e.to.core

-- the first edges were told: the pairs of those that are left are as they were
pub record Going (start s : Following) (edges : List Edge) (i : ℕ) : Type 0 where
  pub cores : s.regulation.cores ≡ start.regulation.cores
  pub left : (k : ℕ) (d : Edge) → i ≤ k → k < length edges →
      IsSameAt (place_in start.regulation.cores (get_or edges k d)) start.regulation s.regulation
  pub follows : (notes : Notes) (before : List (List (ℕ × ℕ))) → All (λ e. e.to.count ≡ noted_count notes e.to.core)
      edges →
      Follows notes before start → Follows notes (with_edges start.regulation.cores before (take i edges)) s

pub goes : (start : Following) (edges : List Edge) → Going start start edges 0
unfolding with_edges
goes start edges =
    record {
      cores = refl;
      left = λ k d _ _. record { vectors = refl; ready = refl };
      follows =
          λ notes before noted kept. kept;
    }

-- the next edge can be told
pub next_ready : (start s : Following) (edges : List Edge) (i : ℕ) (d : Edge) → i < length edges →
    AreReady start.regulation →
    All (λ e. CanFollow start.regulation e) edges → Going start s edges i →
    slice_index_or s.regulation.ready (place_in s.regulation.cores (get_or edges i d)) false ≡ true
next_ready start s edges i d lt ready next going =
    let e = get_or edges i d in
    let placed = pairs-placed start.regulation.cores e.from.core e.to.core (next i d lt).pair in
    ap (λ (n : ℕ). slice_index_or s.regulation.ready (place_in n e) false) going.cores
    ∙ (going.left i d (omega arith) lt).ready
    ∙ ready (place_in start.regulation.cores e) placed.0

pub next_still : (start s : Following) (edges : List Edge) (i : ℕ) (d : Edge) → i < length edges →
    All (λ e. CanFollow start.regulation e) edges → Going start s edges i → CanFollow s.regulation (get_or edges i d)
next_still start s edges i d lt next going =
    let e = get_or edges i d in
    let was = next i d lt in
    record {
      pair = subst (λ (n : ℕ). IsPair n e.from.core e.to.core) (sym going.cores) was.pair;
      some = was.some;
      later = subst (λ (n : ℕ). end_target (slice_index_or s.regulation.vectors (place_in n e) []) < e.to.count)
          (sym going.cores)
          (subst (λ (vs : List StrideVector). end_target vs < e.to.count)
          (sym (going.left i d (omega arith) lt).vectors) was.later);
    }

-- and then one more was told
pub going_on : (start s t : Following) (edges : List Edge) (i : ℕ) (d : Edge) → i < length edges →
    ArePairsApart start.regulation.cores edges → Going start s edges i → t.regulation.cores ≡ s.regulation.cores →
    ((notes : Notes) (before : List (List (ℕ × ℕ))) →
    (get_or edges i d).to.count ≡ noted_count notes (get_or edges i d).to.core → Follows notes before s →
    Follows notes (with_edge s.regulation.cores before (get_or edges i d)) t) →
    ((place : ℕ) → place ≢ place_in s.regulation.cores (get_or edges i d) → IsSameAt place s.regulation t.regulation) →
    Going start t edges (i + 1)
unfolding with_edges
going_on start s t edges i d lt apart going cores follows others = record {
  cores = cores ∙ going.cores;
  left = λ k f le within.
      let here = going.left k f (omega arith) within in
      let first = start.regulation.cores in
      let differ : place_in first (get_or edges k f) ≢ place_in s.regulation.cores (get_or edges i d) =
      λ same. apart i k f (omega arith) within (ap (λ (e : Edge). place_in first e) (get_or_default edges i f d lt)
      ∙ ap (λ (n : ℕ). place_in n (get_or edges i d)) (sym going.cores) ∙ sym same) in
      let after = others (place_in first (get_or edges k f)) differ in
      record { vectors = after.vectors ∙ here.vectors; ready = after.ready ∙ here.ready };
  follows = λ notes before noted kept.
      let first = start.regulation.cores in
      let told = follows notes (with_edges first before (take i edges)) (noted i d lt) (going.follows notes before noted
      kept) in
      subst (λ (es : List (List (ℕ × ℕ))). Follows notes es t)
      (ap (λ (n : ℕ). with_edge n (with_edges first before (take i edges)) (get_or edges i d)) going.cores
      ∙ sym (fold_more (with_edge first) before edges i d lt)) told;
}

-- all were told
pub all_told : (start s : Following) (edges : List Edge) (i : ℕ) → length edges ≤ i → Going start s edges i →
    (notes : Notes) (before : List (List (ℕ × ℕ))) → All (λ e. e.to.count ≡ noted_count notes e.to.core) edges →
    Follows notes before start → Follows notes (with_edges start.regulation.cores before edges) s
all_told start s edges i past going notes before noted kept =
    subst (λ (es : List Edge). Follows notes (with_edges start.regulation.cores before es) s) (take_all i edges past)
    (going.follows notes before noted kept)

-- an edge that is none
abbrev pub no_edge : Edge
no_edge = record { from = record { core = 0; count = 0 }; to = record { core = 0; count = 0 } }
