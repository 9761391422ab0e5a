use Rattle.std.proofs.Common.{arith}
use Rattle.replay_core.proofs.AwaitedEdges.{unknown_coming}
use Rattle.replay_core.proofs.coming.Sources.new.Goals as goal

pub invariant_of-result : goal.invariant_of-result
invariant_of-result c =
    unknown_coming c.args.which c.args.recording.now c.loop-core.core c.loop-core.coming.items c.requires
    c.loop-core.invariant
    (omega (arith, c.loop-core-test.false, c.loop-core.auto.core-end))
