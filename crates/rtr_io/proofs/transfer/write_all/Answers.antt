use Rattle.std.proofs.Common.{rules, arith}
use Rattle.rtr_io.proofs.MovedLemmas.{Appends-take}
use Rattle.rtr_io.proofs.transfer.write_all.Goals as goal

pub loop-given-preserved : goal.loop-given-preserved
loop-given-preserved g c = record {
  within = grind (arith, c.in-Ok.ensures.within);
  front = Appends-take _ _ _ _ c.loop-given.given c.in-Ok.n c.loop-given.invariant.front c.in-Ok.ensures.bytes;
  count = search rules;
}
