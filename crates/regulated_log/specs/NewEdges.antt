-- The edges that a retirement adds to the reduced log can be told to the regulation, all at once.
use Rattle.std.specs.Prelude.{◌≡◌, ◌≤◌, List, All}
use Rattle.rtr_types.specs.declared.instr.Edge.{Edge}
use Rattle.rtr_types.specs.declared.access.Access.{Access}
use Rattle.access_times.specs.declared.times.Times.{Times}
use Rattle.online_reduce.specs.Reduced.{Reduced, IsNext, edges_of, retired}
use Rattle.online_reduce.specs.Exact.{AreExactFor, IsReduction}
use Rattle.know_history.specs.Notes.{Notes, noted_count}
use Rattle.rtr_types.specs.PairEdges.{with_edges}
use Rattle.edge_regulate.specs.Regulated.{Regulation, IsRegulation, IsNextEdge, ArePairsApart}

-- they can be told next, are of different pairs, and take the one's edges on to the other's
pub record CanBeTold (notes : Notes) (r : Reduced) (a : Access) (t : Times) (s : Regulation) : Type 0 where
  pub next : All (λ e. IsNextEdge notes s e) (edges_of r a t)
  pub apart : ArePairsApart s.cores (edges_of r a t)
  pub lists : (retired r a t).lists ≡ with_edges s.cores r.lists (edges_of r a t)

abbrev pub NewEdgesLaw : Type 0
NewEdgesLaw = (notes : Notes) (list : List Access) (r : Reduced) (edges : List Edge) (a : Access) (t : Times)
    (s : Regulation) →
    IsNext r a.at → AreExactFor list a t → IsReduction list r edges → s.cores ≡ r.cores →
    IsRegulation notes r.lists s → a.at.count ≤ noted_count notes a.at.core → CanBeTold notes r a t s
