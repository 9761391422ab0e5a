use Rattle.std.proofs.Common.{◌≡◌}
use Rattle.clock_entries.specs.Ends.{ends_to}
use Rattle.certificate_codec.specs.Ends.{reduced_edges}
use Rattle.certificate_codec.proofs.edge_ends.ends_of_core.Given as goal

abbrev pub invariant-loop-before : goal.invariant-loop-before
invariant-loop-before l = l.ends ≡ ends_to (reduced_edges l.recording) l.core l.before
