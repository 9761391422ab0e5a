use Rattle.std.proofs.Common.{◌≡◌, ◌++◌, length}
use Rattle.gdb_commands.specs.Words.{words_of}
use Rattle.gdb_commands.proofs.words.words_of.Given as goal

-- the words so far, and then those of the rest
abbrev pub invariant-loop-front : goal.invariant-loop-front
invariant-loop-front l = words_of l.text ≡ l.words ++ words_of l.rest

abbrev pub decreases-loop-front : goal.decreases-loop-front
decreases-loop-front l = length l.rest
