use Rattle.log_codec.proofs.EdgeReader.{Fills}
use Rattle.log_codec.proofs.targets.by_targets.Given as goal

abbrev pub invariant-loop-target : goal.invariant-loop-target
invariant-loop-target l = Fills l.totals l.target l.lists.items l.bytes l.rest
