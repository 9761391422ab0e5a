use Rattle.race_cuts.proofs.OpenEdges.{greatest_is_open, last_open, open_cut, ready_where_open, open_edges_are_least}
use Rattle.race_cuts.proofs.laws.open_edges.Goals as goal

pub returns : goal.returns
returns c = record {
  greatest = greatest_is_open;
  some = open_cut;
  last = last_open;
  least = open_edges_are_least;
  ready = ready_where_open;
}
