use Rattle.std.proofs.Common.{take}
use Rattle.cut_index.specs.Writes.{AreWrites}
use Rattle.cut_index.proofs.writes.writes_of.Given as goal

abbrev pub invariant-loop-number : goal.invariant-loop-number
invariant-loop-number l = AreWrites l.fn.words (take l.number l.accesses) l.lists.items
