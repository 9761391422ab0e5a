use Rattle.log_codec.proofs.InTurn.{HasRead}
use Rattle.log_codec.proofs.pairs.entries_from.Given as goal

abbrev pub invariant-loop : goal.invariant-loop
invariant-loop g l = HasRead _ _ (g.T.PairEntry.entry_at l.most) g.T.PairEntry.end_of l.count (0, 0) l.bytes l.counter
    l.last l.found l.rest
