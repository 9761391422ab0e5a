use Rattle.std.proofs.Common.{◌≡◌, ◌++◌, drop, map}
use Rattle.std.specs.List.{range_with_len}
use Rattle.log_codec.specs.Incoming.{incoming_edges, target_count}
use Rattle.log_codec.specs.Spelling.{into_text, targets_text}
use Rattle.rtr_types.specs.Turns.{count_up}
use Rattle.log_codec.specs.Turns.{alike, spelled_in_turn}
use Rattle.log_codec.proofs.merging.put_targets.Given as goal

abbrev pub invariant-loop-target : goal.invariant-loop-target
invariant-loop-target l =
    l.out.items ++ spelled_in_turn (alike into_text) count_up l.target
    (drop l.target (map (incoming_edges l.cores l.reduced) (range_with_len 0 (target_count l.cores))))
    ≡ l.fn.out.items ++ targets_text l.cores l.reduced
