use Rattle.std.proofs.Common.{◌++◌, refl}
use Rattle.rtr_types.specs.Turns.{stay}
use Rattle.log_codec.specs.Spelling.{totals_text, number}
use Rattle.log_codec.proofs.InTurn.{puts_on, puts_done}
use Rattle.log_codec.proofs.writing.put_totals.Goals as goal
use Rattle.log_codec.specs.Turns.{alike}

pub loop-total-init : goal.loop-total-init
loop-total-init c = refl

pub loop-total-preserved : goal.loop-total-preserved
loop-total-preserved c =
    puts_on (alike number) stay c.loop-total.out.items c.put_u32.new.out.items
    (c.args.out.now.items ++ totals_text c.args.totals.now) (tt {0}) c.args.totals.now c.loop-total.total-index 0
    c.loop-total-test.true
    c.in_ok-put_u32.ensures.ok c.loop-total.invariant

pub returns : goal.returns
returns c = puts_done (alike number) stay c.loop-total.out.items
    (c.args.out.now.items ++ totals_text c.args.totals.now) (tt {0}) c.args.totals.now c.loop-total.total-index
    c.loop-total-test.false c.loop-total.invariant
