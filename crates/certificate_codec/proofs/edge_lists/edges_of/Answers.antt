use Rattle.race_log.specs.Sources.{log_edges}
use Rattle.certificate_codec.proofs.edge_lists.edges_of.Goals as goal

pub led_of-requires : goal.led_of-requires
led_of-requires c = rw c.as_slice.ensures c.requires.each_reduced

pub returns : goal.returns
unfolding log_edges
returns c = rw c.as_slice.ensures at c.led_of.ensures
