use Rattle.std.proofs.Common.{◌≡◌, ◌++◌, drop}
use Rattle.rtr_types.specs.Turns.{StandInTurn, follow}
use Rattle.log_codec.specs.Turns.{spelled_in_turn}
use Rattle.rtr_types.specs.PairEdges.{EdgeRises}
use Rattle.log_codec.specs.Spelling.{edge_text, edges_text}
use Rattle.log_codec.proofs.writing.put_edges.Given as goal

abbrev pub invariant-loop-edge : goal.invariant-loop-edge
invariant-loop-edge l = record {
  rising : StandInTurn EdgeRises follow l.last (drop l.edge-index l.edges);
  wrote : l.out.items ++ spelled_in_turn edge_text follow l.last (drop l.edge-index l.edges)
      ≡ l.fn.out.items ++ edges_text l.edges;
}
