use Rattle.std.proofs.Common.{◌+◌, ◌^◌, ◌≤◌, take, arith}
use Rattle.std.specs.Str.Parse.{digits_value}
use Rattle.std.proofs.lemmas.Int.Digits.{digits_value_more}
use Rattle.gdb_packets.proofs.NumberLemmas.{too_much}
use Rattle.gdb_packets.proofs.numbers.value_of.Goals as goal

pub returns-then-more : goal.returns-then-more
returns-then-more c =
    let text = c.args.text.now in
    let i = c.loop-b.b-index in
    let more = digits_value_more 16 text i (omega arith) in
    let much : 2 ^ 64 ≤ digits_value 16 (take (i + 1) text) =
    omega (arith, more, c.loop-b.invariant, c.digit_value.ensures, c.if-more.true) in
    too_much 16 (2 ^ 64) text (i + 1) (omega arith) much

pub loop-b-preserved : goal.loop-b-preserved
loop-b-preserved c =
    let more = digits_value_more 16 c.args.text.now c.loop-b.b-index (omega arith) in
    omega (arith, more, c.loop-b.invariant, c.digit_value.ensures)
