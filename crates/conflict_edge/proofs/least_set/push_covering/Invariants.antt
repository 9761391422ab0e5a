use Rattle.std.proofs.Common.{reverse, slice_index, drop}
use Rattle.conflict_edge.proofs.Scan.{Reached, FoundFrom}
use Rattle.conflict_edge.specs.Least.{AreOnce}
use Rattle.conflict_edge.proofs.least_set.push_covering.Given as goal

abbrev pub invariant-loop-place : goal.invariant-loop-place
invariant-loop-place l = record {
  reached : Reached (reverse l.earlier) (reverse (drop l.place l.earlier)) l.access (λ i. slice_index l.known i);
  found : FoundFrom (reverse l.earlier) (reverse (drop l.place l.earlier)) l.access l.fn.edges.items l.edges.items;
  once : AreOnce l.edges.items;
}
