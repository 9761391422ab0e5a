use Rattle.vector_reduce.proofs.Next.{kept_first}
use Rattle.vector_reduce.proofs.copies.kept.Goals as goal

pub loop-place-init : goal.loop-place-init
loop-place-init c = kept_first c.args.vectors.now c.args.stays.now c.new-list.result c.new-list.ensures
