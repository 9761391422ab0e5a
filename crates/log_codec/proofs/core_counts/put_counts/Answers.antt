use Rattle.std.proofs.Common.{◌++◌, refl}
use Rattle.rtr_types.specs.Turns.{count_up}
use Rattle.log_codec.proofs.InTurn.{puts_on, puts_done}
use Rattle.log_codec.specs.Turns.{alike}
use Rattle.log_codec.specs.Spelling.{number}
use Rattle.log_codec.specs.CoreCounts.{counts_text}
use Rattle.log_codec.proofs.core_counts.put_counts.Goals as goal

pub loop-count-init : goal.loop-count-init
loop-count-init c = refl

pub loop-count-preserved : goal.loop-count-preserved
loop-count-preserved c =
    puts_on (alike number) count_up c.loop-count.out.items c.put_u32.new.out.items
    (c.args.out.now.items ++ counts_text c.args.counts.now) c.loop-count.count-index c.args.counts.now
    c.loop-count.count-index 0 c.loop-count-test.true
    c.in_ok-put_u32.ensures.ok c.loop-count.invariant

pub returns : goal.returns
returns c = puts_done (alike number) count_up c.loop-count.out.items
    (c.args.out.now.items ++ counts_text c.args.counts.now) c.loop-count.count-index c.args.counts.now
    c.loop-count.count-index c.loop-count-test.false
    c.loop-count.invariant
