use Rattle.hunt_words.proofs.LineLemmas.{line-means}
use Rattle.hunt_words.proofs.line.lines_mean_their_runs.Goals as goal

pub returns : goal.returns
returns c = line-means
