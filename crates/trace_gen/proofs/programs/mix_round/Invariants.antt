-- the words so far
use Rattle.trace_gen.proofs.MixLemmas.{AreDrawn}
use Rattle.trace_gen.proofs.programs.mix_round.Given as goal

abbrev pub invariant-loop-count : goal.invariant-loop-count
invariant-loop-count l = AreDrawn l.number l._count l.words l.ops.items
