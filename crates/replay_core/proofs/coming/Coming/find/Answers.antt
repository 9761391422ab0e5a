use Rattle.std.proofs.Common.{List, ℕ, sym, subst}
use Rattle.std.specs.Prelude.{Option}
use Rattle.race_log.specs.Sources.{log_edges}
use Rattle.replay_core.specs.Sources.{AreSources, sources_in}
use Rattle.replay_core.proofs.AwaitedEdges.{no_sources}
use Rattle.replay_core.proofs.coming.Coming.find.Goals as goal

pub returns-then-is_early-clause-sources : goal.returns-then-is_early-clause-sources
returns-then-is_early-clause-sources c =
    let r = c.args.recording.now in
    let early = c.is_early.ensures c.if-is_early.true in
    subst (λ (o : Option (List ℕ)). AreSources (log_edges c.args.which r) c.args.at (sources_in o))
    (sym c.clear.ensures)
    (no_sources c.args.which r c.requires.valid c.args.self.now c.args.at c.requires.coming early.0 early.1)
