use Rattle.std.proofs.Common.{arith}
use Rattle.std.proofs.lemmas.Grind.{common_steps}
use Rattle.std.proofs.lemmas.List.FromFn.{map-range_with_len_more}
use Rattle.rv_core.specs.States.{register}
use Rattle.gdb_places.proofs.registers.put_registers.Goals as goal

pub loop-k-preserved : goal.loop-k-preserved
loop-k-preserved c =
    let more = map-range_with_len_more (register c.args.core.now) 0 c.loop-k.k c.loop-k.k (omega arith) in
    grind (arith, common_steps, more)
