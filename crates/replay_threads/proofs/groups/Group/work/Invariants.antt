use Rattle.replay_threads.specs.Groups.{Turned}
use Rattle.replay_threads.proofs.groups.Group.work.Given as goal

abbrev pub invariant-loop-pass : goal.invariant-loop-pass
invariant-loop-pass g l = Turned g.J.Job.which g.J.Job.recording l.table l.fn.self.workers l.self.stand l.self.workers
