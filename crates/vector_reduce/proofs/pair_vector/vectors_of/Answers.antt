use Rattle.vector_reduce.specs.Vectors.{vectors_of}
use Rattle.vector_reduce.proofs.pair_vector.vectors_of.Goals as goal

pub led_of-requires : goal.led_of-requires
led_of-requires c = rw c.as_slice.ensures c.requires.each_regulated

pub returns : goal.returns
unfolding vectors_of
returns c = rw c.as_slice.ensures at c.led_of.ensures
