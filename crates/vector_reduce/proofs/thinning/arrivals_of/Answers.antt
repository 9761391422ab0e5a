use Rattle.std.proofs.Common.{List, subst, sym}
use Rattle.vector_reduce.specs.declared.pair_vector.PairVector.{PairVector}
use Rattle.vector_reduce.specs.Arrivals.{AreBetween}
use Rattle.vector_reduce.proofs.KeptVectors.{vectors_between}
use Rattle.vector_reduce.proofs.thinning.arrivals_of.Goals as goal

pub new-requires-clause-between : goal.new-requires-clause-between
new-requires-clause-between c =
    subst (λ (l : List PairVector). AreBetween c.args.recording.now.params.cores l) (sym c.in_ok-vectors.ensures)
    (vectors_between c.args.recording.now c.requires)
