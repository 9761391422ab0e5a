use Rattle.std.proofs.Common.{◌++◌, length, get_or, append_assoc}
use Rattle.stride_vector.specs.declared.StrideVector.{StrideVector}
use Rattle.stride_vector.specs.Vectors.{last_of}
use Rattle.log_codec.specs.Turns.{alike, spelled_in_turn}
use Rattle.race_log.specs.Validity.{end_of}
use Rattle.log_codec.specs.Spelling.{number, vector_text, vectors_text}
use Rattle.log_codec.proofs.InTurn.{puts_on, puts_done}
use Rattle.log_codec.proofs.writing.put_vectors.Goals as goal

pub loop-v-init : goal.loop-v-init
loop-v-init c = (
  (0, 0),
  rw c.in_ok-put_u32.ensures.ok
      (append_assoc c.args.out.now.items (number (length c.args.vectors.now))
      (spelled_in_turn (alike vector_text) end_of (0, 0) c.args.vectors.now)),
)

pub loop-v-preserved : goal.loop-v-preserved
loop-v-preserved c =
    let d : StrideVector = record { n = 0; a0 = 0; b0 = 0; sa = 0; sb = 0 } in
    let v = get_or c.args.vectors.now c.loop-v.v-index d in (
      last_of v,
      puts_on (alike vector_text) end_of c.loop-v.out.items c.put_vector.new.out.items
          (c.args.out.now.items ++ vectors_text c.args.vectors.now) c.loop-v.invariant.0 c.args.vectors.now
          c.loop-v.v-index d c.loop-v-test.true
          c.in_ok-put_vector.ensures c.loop-v.invariant.1,
    )

pub returns : goal.returns
returns c = puts_done (alike vector_text) end_of c.loop-v.out.items
    (c.args.out.now.items ++ vectors_text c.args.vectors.now) c.loop-v.invariant.0 c.args.vectors.now c.loop-v.v-index
    c.loop-v-test.false
    c.loop-v.invariant.1
