use Rattle.std.proofs.Common.{arith}
use Rattle.small_turns.proofs.Weights.{count_most, own_read}
use Rattle.small_turns.proofs.halving.short_count.Goals as goal

pub loop-low-init : goal.loop-low-init
loop-low-init g c = record {
  most = count_most c.args.turns.now c.args.place _ c.requires.within;
  order = λ h. absurd (omega arith);
  breaks = own_read (g.T.Tries.breaks c.args.tries.now) c.args.turns.now c.args.place _ c.requires.within
      c.requires.breaks;
  least = λ h. absurd (omega arith);
  bench = c.requires.bench;
}
