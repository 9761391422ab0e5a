use Rattle.std.proofs.Common.{◌≡◌}
use Rattle.what_if.specs.Told.{differing}
use Rattle.what_if.proofs.telling.differing.Given as goal

-- the words so far
abbrev pub invariant-loop-word : goal.invariant-loop-word
invariant-loop-word l = l.list ≡ differing l.word l.words l.recorded
