use Rattle.std.proofs.Common.{arith}
use Rattle.std.proofs.lemmas.Grind.{common_steps}
use Rattle.std.proofs.lemmas.List.FromFn.{map-range_with_len_more}
use Rattle.rv_core.specs.States.{starting}
use Rattle.replay_core.proofs.replay.cores_of.Goals as goal

pub loop-id-preserved : goal.loop-id-preserved
loop-id-preserved c =
    let more = map-range_with_len_more (λ i. starting i c.args.limit) 0 c.loop-id.id c.loop-id.id (omega arith) in
    grind (arith, common_steps, more)
