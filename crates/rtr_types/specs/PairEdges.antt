-- The edges of each pair of cores, each as the counts of its source and of its target.
use Rattle.std.specs.Prelude.{ℕ, ◌<◌, ◌≤◌, List, [], ◌∷◌, ◌++◌, Bool, ◌&&◌, nat_eq, map}
use Rattle.std.specs.Prelude.{slice_index_or, slice_set}
use Rattle.std.specs.List.{filter, fold, range_with_len}
use Rattle.rtr_types.specs.Pairs.{pair_count, pair_place, source_at, target_at}
use Rattle.rtr_types.specs.Turns.{StandInTurn, follow}
use Rattle.rtr_types.specs.declared.instr.Edge.{Edge}

abbrev pub counts : Edge → ℕ × ℕ
counts e = (e.from.count, e.to.count)

-- the edge leads from the one core to the other
abbrev pub is_between : ℕ → ℕ → Edge → Bool
is_between from to e = nat_eq e.from.core from && nat_eq e.to.core to

-- the edges from the one core to the other, each as its two counts
unfoldable pub pair_edges : ℕ → ℕ → List Edge → List (ℕ × ℕ)
pair_edges from to edges = map counts (filter (is_between from to) edges)

-- the edges of each pair, in the order of the pairs
unfoldable pub by_pair : ℕ → List Edge → List (List (ℕ × ℕ))
by_pair cores edges =
    map (λ place. pair_edges (source_at cores place) (target_at cores place) edges)
    (range_with_len 0 (pair_count cores))

-- the edge is put at the end of its pair's list
abbrev pub with_edge : ℕ → List (List (ℕ × ℕ)) → Edge → List (List (ℕ × ℕ))
with_edge cores lists e =
    let place = pair_place cores e.from.core e.to.core in
    slice_set lists place (slice_index_or lists place [] ++ counts e ∷ [])

-- the edges are put at the ends of their pairs' lists
unfoldable pub with_edges : ℕ → List (List (ℕ × ℕ)) → List Edge → List (List (ℕ × ℕ))
with_edges cores lists edges = fold (with_edge cores) lists edges

-- both counts of an edge are above the last edge's
pub record EdgeRises (last e : ℕ × ℕ) : Type 0 where
  pub source : last.0 < e.0
  pub target : last.1 < e.1

-- an edge after the last one, with counts that the two cores reach
pub record EdgeStands (most last e : ℕ × ℕ) : Type 0 where
  pub rises : EdgeRises last e
  pub source_most : e.0 ≤ most.0
  pub target_most : e.1 ≤ most.1

-- the further edges of a pair, after the last one, whose cores have these totals
abbrev pub AreEdgesAfter : ℕ × ℕ → ℕ × ℕ → List (ℕ × ℕ) → Type 0
AreEdgesAfter most last edges = StandInTurn (EdgeStands most) follow last edges

-- the edges of a pair whose cores have these totals
abbrev pub AreEdges : ℕ × ℕ → List (ℕ × ℕ) → Type 0
AreEdges most edges = AreEdgesAfter most (0, 0) edges
