use Rattle.race_log.proofs.EdgeCounts.{edges-counted}
use Rattle.race_log.proofs.SourceLaws as sources
use Rattle.race_log.proofs.laws.source_laws.Goals as goal

pub returns : goal.returns
returns c = record {
  paired = sources.edges-are-paired;
  within = sources.edges-within;
  one = sources.one-source;
  counted = edges-counted;
}
