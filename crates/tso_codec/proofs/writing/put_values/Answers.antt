use Rattle.std.proofs.Common.{length, append_assoc, arith}
use Rattle.log_codec.specs.Spelling.{number}
use Rattle.log_codec.proofs.InTurn.{puts_on, puts_done}
use Rattle.race_log.proofs.InTurn.{stand-drop}
use Rattle.tso_codec.specs.Spelling.{value_text}
use Rattle.tso_codec.specs.Validity.{ValueStands, count_of}
use Rattle.tso_codec.proofs.Values.{few_values}
use Rattle.tso_codec.proofs.writing.put_values.Goals as goal

pub overflow_cast-values : goal.overflow_cast-values
overflow_cast-values c = let few = few_values c.args.total 0 c.args.values.now c.requires (omega arith) in omega arith

pub loop-value-init : goal.loop-value-init
loop-value-init c = record {
  stand = c.requires;
  wrote = rw c.in_ok-put_u32.ensures.ok
      (append_assoc c.args.out.now.items (number (length c.args.values.now)) _);
}

pub overflow_sub-value : goal.overflow_sub-value
overflow_sub-value c =
    let h = stand-drop (ValueStands c.args.total) count_of c.loop-value.last c.args.values.now c.loop-value.value-index
    (0, 0) c.loop-value-test.true
    c.loop-value.invariant.stand in
    let up = h.0.rises in
    omega arith

pub loop-value-preserved : goal.loop-value-preserved
loop-value-preserved c = record {
  stand = (stand-drop (ValueStands c.args.total) count_of _ _ _ (0, 0) c.loop-value-test.true
      c.loop-value.invariant.stand).1;
  wrote = puts_on value_text count_of _ _ _ _ _ _ (0, 0) c.loop-value-test.true
      (rw (c.in_ok-put_u32-3.ensures.ok, c.in_ok-put_u32-2.ensures.ok) (append_assoc c.loop-value.out.items _ _))
      c.loop-value.invariant.wrote;
}

pub returns : goal.returns
returns c = puts_done value_text count_of _ _ _ _ _ c.loop-value-test.false c.loop-value.invariant.wrote
