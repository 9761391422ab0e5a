use Rattle.log_codec.specs.Incoming.{edges_out_of}
use Rattle.log_codec.specs.Fronts.{AreFronts}
use Rattle.log_codec.proofs.merging.first_fronts.Given as goal

-- the fronts of the cores so far are put
abbrev pub invariant-loop-source : goal.invariant-loop-source
invariant-loop-source l = AreFronts l.source (edges_out_of l.cores l.reduced l.target) l.fronts
