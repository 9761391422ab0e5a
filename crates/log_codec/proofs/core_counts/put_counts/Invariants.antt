use Rattle.std.proofs.Common.{◌≡◌, ◌++◌, drop}
use Rattle.rtr_types.specs.Turns.{count_up}
use Rattle.log_codec.specs.Turns.{spelled_in_turn, alike}
use Rattle.log_codec.specs.Spelling.{number}
use Rattle.log_codec.specs.CoreCounts.{counts_text}
use Rattle.log_codec.proofs.core_counts.put_counts.Given as goal

abbrev pub invariant-loop-count : goal.invariant-loop-count
invariant-loop-count l = l.out.items ++ spelled_in_turn (alike number) count_up l.count-index
    (drop l.count-index l.counts)
    ≡ l.fn.out.items ++ counts_text l.counts
