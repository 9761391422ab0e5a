use Rattle.stride_vector.proofs.Sources as laws
use Rattle.stride_vector.proofs.vector_laws.Goals as goal

pub returns : goal.returns
returns c = record { edges = laws.edges-placed; rise = laws.positions-rise }
