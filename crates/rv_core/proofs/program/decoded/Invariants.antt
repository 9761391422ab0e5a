use Rattle.rv_core.proofs.Programs.{IsDecodedTo}
use Rattle.rv_core.proofs.program.decoded.Given as goal

-- the instructions at the addresses so far
abbrev pub invariant-loop-k : goal.invariant-loop-k
invariant-loop-k l = IsDecodedTo l.image l.ops.items l.k
