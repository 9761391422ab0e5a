use Rattle.std.proofs.Common.{◌≡◌, ◌++◌, length}
use Rattle.std.specs.Option.{option_map}
use Rattle.gdb_packets.specs.Asks.{actions_in}
use Rattle.gdb_packets.specs.Texts.{pieces_at}
use Rattle.gdb_packets.proofs.meaning.actions_of.Given as goal

-- the actions so far, and then those of the rest
abbrev pub invariant-loop-front : goal.invariant-loop-front
invariant-loop-front l =
    actions_in (pieces_at 59 l.text) ≡ option_map (λ others. l.actions ++ others) (actions_in (pieces_at 59 l.rest))

abbrev pub decreases-loop-front : goal.decreases-loop-front
decreases-loop-front l = length l.rest
