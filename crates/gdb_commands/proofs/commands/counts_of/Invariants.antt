use Rattle.std.proofs.Common.{◌≡◌, ◌++◌, drop}
use Rattle.std.specs.Option.{option_map}
use Rattle.gdb_commands.specs.Commands.{counts_of}
use Rattle.gdb_commands.proofs.commands.counts_of.Given as goal

-- the counts so far, and then those of the rest
abbrev pub invariant-loop-word : goal.invariant-loop-word
invariant-loop-word l =
    counts_of l.arguments ≡ option_map (λ others. l.counts ++ others) (counts_of (drop l.word-index l.arguments))
