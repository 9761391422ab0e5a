use Rattle.std.proofs.Common.{length}
use Rattle.rtr_types.specs.Pairs.{pair_count}
use Rattle.rtr_types.specs.Turns.{count_up}
use Rattle.race_log.specs.Validity.{bound_at}
use Rattle.log_codec.specs.Reading.{counted_at}
use Rattle.log_codec.proofs.InTurn.{HasRead}
use Rattle.log_codec.proofs.pairs.by_pairs.Given as goal

abbrev pub invariant-loop-place : goal.invariant-loop-place
invariant-loop-place g l = HasRead _ _
    (λ place. counted_at (g.T.PairEntry.entry_at (bound_at l.totals place)) g.T.PairEntry.end_of l.part (0, 0))
    count_up (pair_count (length l.totals)) 0 l.bytes l.place l.place l.found l.rest
