use Rattle.std.proofs.Common.{◌-◌, ◌++◌}
use Rattle.log_codec.specs.Incoming.{incoming_edges, left}
use Rattle.log_codec.specs.Fronts.{AreFronts}
use Rattle.log_codec.specs.Spelling.{into_text}
use Rattle.log_codec.proofs.EdgeWriter.{Writes}
use Rattle.log_codec.proofs.merging.put_into.Given as goal

abbrev pub invariant-loop : goal.invariant-loop
invariant-loop l = Writes l.cores l.target (l.count - l.counter) l.reduced l.next l.last l.counts l.out.items
    (l.fn.out.items ++ into_text (incoming_edges l.cores l.reduced l.target))
    × AreFronts l.cores (left l.cores l.reduced l.target l.next) l.fronts
