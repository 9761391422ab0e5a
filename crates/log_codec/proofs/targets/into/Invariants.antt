use Rattle.log_codec.proofs.EdgeReader.{Reads}
use Rattle.log_codec.proofs.targets.into.Given as goal

abbrev pub invariant-loop : goal.invariant-loop
invariant-loop l = Reads l.totals l.target l.count l.counter l.fn.lists.items l.lists.items l.last l.counts
    l.initial.rest l.rest
