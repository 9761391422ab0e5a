use Rattle.std.proofs.Common.{◌≡◌, length}
use Rattle.log_codec.specs.Incoming.{edges_out_of}
use Rattle.log_codec.proofs.NextEdges.{joined_from}
use Rattle.log_codec.proofs.merging.count_into.Given as goal

-- the edges from the cores so far are counted
abbrev pub invariant-loop-source : goal.invariant-loop-source
invariant-loop-source l = l.count ≡ length (joined_from (edges_out_of l.cores l.reduced l.target) 0 l.source)
