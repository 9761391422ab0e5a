use Rattle.std.proofs.Common.{◌+◌, refl, arith}
use Rattle.std.proofs.lemmas.Grind.{common_steps}
use Rattle.std.proofs.lemmas.List.FromFn.{map-range_with_len_more}
use Rattle.gdb_places.specs.Memory.{byte_at}
use Rattle.gdb_places.proofs.memory.bytes_at.Goals as goal

pub loop-k-preserved : goal.loop-k-preserved
loop-k-preserved c =
    let more = map-range_with_len_more (byte_at c.args.place.now) c.args.at c.loop-k.k (c.args.at + c.loop-k.k) refl in
    grind (arith, common_steps, more)
