use Rattle.std.proofs.Common.{◌≡◌, length, take}
use Rattle.conflict_edge.specs.Scan.{AreExactClocks}
use Rattle.conflict_edge.specs.Least.{AreOnce}
use Rattle.conflict_edge.specs.Scan.{AreCovering}
use Rattle.conflict_edge.proofs.least_set.covering_pairs.Given as goal

abbrev pub invariant-loop-place : goal.invariant-loop-place
invariant-loop-place l = record {
  len : length l.clocks.items ≡ l.place;
  exact : AreExactClocks (take l.place l.list) l.clocks.items;
  found : AreCovering (take l.place l.list) l.edges.items;
  once : AreOnce l.edges.items;
}
