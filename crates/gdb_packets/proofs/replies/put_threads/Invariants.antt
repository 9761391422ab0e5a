use Rattle.std.proofs.Common.{◌≡◌, ◌++◌}
use Rattle.gdb_packets.specs.Replies.{threads_text}
use Rattle.gdb_packets.proofs.replies.put_threads.Given as goal

-- the threads of the cores so far
abbrev pub invariant-loop-core : goal.invariant-loop-core
invariant-loop-core l = l.out.items ≡ l.fn.out.items ++ threads_text l.core
