use Rattle.std.proofs.Common.{◌+◌, ◌≤◌, take, arith}
use Rattle.std.specs.Str.Parse.{digits_value}
use Rattle.std.proofs.lemmas.Int.Digits.{digits_value_more}
use Rattle.gdb_packets.proofs.NumberLemmas.{too_much}
use Rattle.gdb_commands.proofs.numbers.value_below.Goals as goal

pub returns-then-value-past-clause-value : goal.returns-then-value-past-clause-value
returns-then-value-past-clause-value c =
    let text = c.args.text.now in
    let i = c.loop-b.b-index in
    let more = digits_value_more 10 text i (omega arith) in
    let much : c.args.past ≤ digits_value 10 (take (i + 1) text) =
    omega (arith, more, c.loop-b.invariant.value, c.digit_value.ensures, c.if-value-past.true) in
    too_much 10 c.args.past text (i + 1) (omega arith) much

pub loop-b-preserved : goal.loop-b-preserved
loop-b-preserved c =
    let more = digits_value_more 10 c.args.text.now c.loop-b.b-index (omega arith) in record {
      value = omega (arith, more, c.loop-b.invariant.value, c.digit_value.ensures);
      small = omega (arith, c.requires);
    }
