use Rattle.std.proofs.Common.{arith}
use Rattle.cut_moves.specs.Unions.{chosen}
use Rattle.cut_moves.proofs.Unions.{filled_by}
use Rattle.cut_moves.proofs.lattice.merged.Goals as goal

pub returns : goal.returns
returns c =
    let l = c.loop-core.invariant in
    let end = c.loop-core-test.false in
    filled_by (chosen c.args.greater) c.args.cut.now c.args.other.now c.loop-core.counts l.wide
    (λ i lt. l.done i (omega arith))
