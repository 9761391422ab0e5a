use Rattle.std.proofs.Common.{◌≡◌, ◌++◌, drop}
use Rattle.rtr_types.specs.Turns.{count_up}
use Rattle.log_codec.specs.Turns.{alike, spelled_in_turn}
use Rattle.log_codec.specs.Spelling.{edges_text, pairs_text}
use Rattle.log_codec.proofs.writing.put_pairs.Given as goal

abbrev pub invariant-loop-edges : goal.invariant-loop-edges
invariant-loop-edges l = l.out.items ++ spelled_in_turn (alike edges_text) count_up l.edges-index
    (drop l.edges-index l.reduced) ≡ l.fn.out.items
    ++ pairs_text l.reduced
