use Rattle.std.proofs.Common.{arith}
use Rattle.replay_threads.proofs.DealtWorkers.{ids_same}
use Rattle.replay_threads.proofs.groups.turns_of.Goals as goal

pub returns : goal.returns
returns g c =
    let i = c.loop-worker.invariant in
    let stop = c.loop-worker-test.false in
    let all = i.all in
    record {
      ids = ids_same c.args.workers.now c.loop-worker.workers i.all i.ids;
      tables = i.tables;
      ended = λ e k d lt. i.ended e k d (omega (arith, stop, lt, all));
      unsure = i.unsure;
    }
