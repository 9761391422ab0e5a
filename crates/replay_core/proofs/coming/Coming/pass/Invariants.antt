-- what each core so far has as a source, and as its next edge
use Rattle.race_log.specs.Sources.{log_edges}
use Rattle.replay_core.proofs.AwaitedEdges.{PassedTo}
use Rattle.replay_core.proofs.coming.Coming.pass.Given as goal

abbrev pub invariant-loop-of : goal.invariant-loop-of
invariant-loop-of l = PassedTo (log_edges l.fn.log.which l.fn.log.recording.now) l.fn.at l.of l.found l.fn.self l.self
