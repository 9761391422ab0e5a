use Rattle.gdb_packets.proofs.ThreadLemmas.{threads_none, threads_step}
use Rattle.gdb_packets.proofs.replies.put_threads.Goals as goal

pub loop-core-init : goal.loop-core-init
loop-core-init c = threads_none c.args.out.now.items

pub loop-core-preserved : goal.loop-core-preserved
loop-core-preserved c =
    threads_step c.args.out.now.items c.loop-core.out.items c.put_thread.new.out.items c.loop-core.core
    c.loop-core.invariant c.in_ok-put_thread.ensures
